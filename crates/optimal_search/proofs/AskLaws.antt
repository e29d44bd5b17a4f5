-- What the search for a path and the search for a cost find of a task.
use Rattle.std.proofs.Common.{◌≡◌, ℕ, zero, suc, ◌-◌, ◌*◌, ◌<◌, ◌≤◌, ◌⊎◌, inl, inr, Vec, Global, Result, Ok, Err, true, false, ◌||◌, List, [], ◌∷◌, length, map, refl, sym, ap, subst, ◌∙◌, arith, Option, Some, None}
use Rattle.std.specs.Prelude.{All, Contains, IfOk, IfNone, IsTrue, IsSomeAnd, IsErrAnd}
use Rattle.std.proofs.lemmas.Bool.{ne_eqb}
use Rattle.std.proofs.lemmas.List.Elements.{All-weaker, All-head, All-tail}
use Rattle.grd_base.specs.declared.bits.Bits.{Bits}
use Rattle.grd_base.specs.declared.ids.AtomId.{AtomId}
use Rattle.grd_base.specs.declared.ids.ActionId.{ActionId}
use Rattle.grd_base.specs.declared.ids.GoalId.{GoalId}
use Rattle.grd_base.specs.declared.limits.Bound.{Bound}
use Rattle.grd_base.specs.declared.limits.Bound.TheVariants.{Steps, Never}
use Rattle.grd_base.specs.Bits.{members, IsWhole}
use Rattle.grd_base.specs.Counts.{MoreThan}
use Rattle.strips_model.specs.Values.{PlainTask, IsTask}
use Rattle.strips_model.specs.Plans.{State, set_of, start_of, goal_holds, Reaches, IsPlan, IsCost}
use Rattle.strips_model.specs.Reached.{IsNearWithout}
use Rattle.search_core.specs.declared.rows.KeptRow.{KeptRow}
use Rattle.search_core.specs.Spaces.{IsPath, IsReachable, IsDoneWithin, Counts}
use Rattle.search_core.specs.declared.rows.WithinAnswer.{WithinAnswer}
use Rattle.search_core.specs.declared.rows.WithinAnswer.TheVariants as found
use Rattle.search_core.specs.Answers.{rows_of as rows_in, HasStartRow as HasAnswerRow}
use Rattle.search_core.specs.declared.rows.LeastAnswer.{LeastAnswer}
use Rattle.search_core.specs.LeastAnswers.{CountsForLeast, IsLeastPath, IsLeastAnswer, HasLeastRow, least_rows}
use Rattle.optimal_search.specs.Plans.{IsLeastPlan}
use Rattle.search_core.specs.Tables.{AreRefuted, AreCounted, HasRow, HasNeverRow}
use Rattle.search_core.specs.declared.rows.LeastAnswer.TheVariants as least
use Rattle.cost_certificate.specs.Rows.{PlainRow}
use Rattle.cost_certificate.specs.Tables.{IsAtMost, IsValidTable, Refutes}
use Rattle.cost_certificate.proofs.OrderLemmas.{at_most_along}
use Rattle.optimal_search.specs.Kept.{HasBound}
use Rattle.optimal_search.specs.Rows.{row_of}
use Rattle.optimal_search.specs.Space.{successors_of, holds_in, level_in, IsState}
use Rattle.optimal_search.specs.Floors.{ShowsBound}
use Rattle.optimal_search.specs.Oracles.{KnownBound, PlainOracle, IsAlike, Knows, KnowsAllOf, KnowsCost, IsSoundOracle, AreRight, known_by}
use Rattle.optimal_search.proofs.SpaceLaws.{path_state, reached_state, reaches_done, least_near, more_states}
use Rattle.optimal_search.proofs.RowLaws.{right_valid, known_row, bound_known, known_grows, row_bound, never_bound}

-- no number from the bound on is in a list of atoms below the bound
none_above : (bound : ℕ) (xs : List AtomId) → All (λ a. a.0 < bound) xs → (n : ℕ) → bound ≤ n → set_of xs n ≡ false
none_above bound [] below n high = refl
none_above bound (x ∷ xs) below n high =
    let lower : x.0 < bound = All-head (λ (a : AtomId). a.0 < bound) x xs below in
    ap (λ b. b || set_of xs n) (ne_eqb x.0 n (omega arith)) ∙ none_above bound xs (All-tail (λ (a : AtomId). a.0 < bound) x xs below) n high

-- the start is a state of the task
pub start_state : {W : ℕ} (t : PlainTask) (s : Bits W) → IsTask t → IsWhole s → members s ≡ start_of t → IsState t s
start_state t s is whole same = record {
  whole = whole;
  over = λ n high. ap (λ (x : State). x n) same ∙ none_above t.atoms t.init is.init.below n high;
}

-- what holds where there is no value goes over to what follows from it
pub none_weaker : {T : Type 0} (o : Option T) (P Q : Type 0) → (P → Q) → IfNone o P → IfNone o Q
none_weaker None P Q step holds = step holds
none_weaker (Some x) P Q step holds = tt

-- a fault that is passed on is the same
pub passed_on : {T U E : Type 0} (r : Result T E) (x e : E) → IsErrAnd r (λ y. y ≡ x) → r ≡ Err e → ◌≡◌ {A = Result U E} (Err x) (Err e)
passed_on (Ok y) x e h is = absurd h
passed_on (Err y) x e h is = let same : y ≡ e = cc in ap Err (sym h ∙ same)

-- what the best-first search finds from a bit set that is the start
pub least_from : {W : ℕ} {E : Type 0} (t : PlainTask) (g : GoalId) (removed : List ActionId) (limit : ℕ) (s : Bits W) → IsWhole s → members s ≡ start_of t
    → (result : Result (LeastAnswer (Bits W) (List (List ActionId))) E)
    → IfOk result (IsLeastAnswer (successors_of t removed) (holds_in t g) s limit)
    → IfOk result (λ answer. AreRefuted (successors_of t removed) (holds_in t g) (ShowsBound t g removed) (least_rows answer))
    → IfOk result (HasLeastRow s)
    → IfOk result (λ answer. AreCounted (successors_of t removed) (CountsForLeast (successors_of t removed) (holds_in t g) (level_in t g removed) s) s limit (least_rows answer))
    → IfOk result (IsLeastPlan t g removed limit)
least_from t g removed limit s whole begins (Ok found) right refuted start counted =
    record { first = s; whole = whole; begins = begins; right = right; refuted = refuted; start = start; counted = counted }
least_from t g removed limit s whole begins (Err e) right refuted start counted = tt

-- the rows of a valid table refute each sequence up to their bounds
abbrev pub RowsRefute : Type 0
RowsRefute = (t : PlainTask) (g : GoalId) (removed : List ActionId) (rows : List PlainRow) (row : PlainRow) → IsValidTable t g removed rows → Contains rows row → (p : List ActionId)
    → Reaches t g removed (set_of row.state) p → Refutes row.bound (length p)

-- what a bound refutes, each lower one does
refutes_lower : (low high : Bound) (n : ℕ) → IsAtMost low high → Refutes high n → Refutes low n
refutes_lower (Steps m) (Steps k) n most refutes = omega arith
refutes_lower (Steps m) Never n most refutes = absurd refutes
refutes_lower Never (Steps k) n most refutes = absurd most
refutes_lower Never Never n most refutes = refutes

-- a bound `Never` serves for each number
pub from_never : (known : List KnownBound) (s : State) (r : ℕ) → Knows known s Never → Knows known s (Steps r)
from_never known s r (k, one, low, at, (same, high)) = (k, one, low, at, (same, at_most_along (Steps r) Never one.bound tt high))

-- rows that are right, of what the oracle is asked about, and what they show of the state
pub record RefuteWithin {W : ℕ} (t : PlainTask) (g : GoalId) (removed : List ActionId) (s : Bits W) (r : ℕ) (rows : List (KeptRow (Bits W) (List (List ActionId)))) : Type 0 where
  pub right : AreRight t g removed rows
  pub bound : Knows (known_by t rows) (members s) (Steps r)

-- the cost of the goal, with rows that refute less
pub record AreOfCost {W : ℕ} (t : PlainTask) (g : GoalId) (removed : List ActionId) (least : Option ℕ) (rows : List (KeptRow (Bits W) (List (List ActionId)))) : Type 0 where
  pub cost : IsCost t g removed least
  pub start : KnowsCost t (known_by t rows) least
  pub right : AreRight t g removed rows

module _ {W : ℕ} (t : PlainTask) (g : GoalId) (removed : List ActionId) (is : IsTask t) (wide : t.atoms ≤ 64 * W) (s : Bits W) (state : IsState t s) where
  -- a path to a state where the goal holds leads to the goal
  pub path_reaches : (path : List ActionId) (end : Bits W) → IsPath (successors_of t removed) s path end → holds_in t g end ≡ true → Reaches t g removed (members s) path
  path_reaches path end leads done =
      subst (λ (o : Option State). IsSomeAnd o (λ u. IsTrue (goal_holds t g u))) (sym (path_state t removed is wide s end path state leads).1) done

  -- rows of a search from the state that refute are right
  pub rows_right : (rows : List (KeptRow (Bits W) (List (List ActionId)))) → AreRefuted (successors_of t removed) (holds_in t g) (ShowsBound t g removed) rows
      → All (λ row. IsReachable (successors_of t removed) s row.state) rows → AreRight t g removed rows
  rows_right rows refuted reached = record {
    states = All-weaker (λ row. IsReachable (successors_of t removed) s row.state) (λ row. IsState t row.state) (λ row there. reached_state t removed is wide s row.state state there) rows reached;
    refuted = refuted;
  }

  -- the rows of an answer other than a path
  pub no_rows : (r limit : ℕ) (answer : WithinAnswer (Bits W) (List (List ActionId))) (rows : Vec (KeptRow (Bits W) (List (List ActionId))) Global) → (answer ≡ found.No rows) ⊎ (answer ≡ found.Never rows)
      → AreRefuted (successors_of t removed) (holds_in t g) (ShowsBound t g removed) (rows_in answer) → HasAnswerRow s r answer
      → AreCounted (successors_of t removed) (Counts (successors_of t removed) (level_in t g removed) s r) s limit (rows_in answer)
      → RefuteWithin t g removed s r rows.items
  no_rows r limit answer rows (inl is_no) refuted there counted =
      let Answer : Type 0 = WithinAnswer (Bits W) (List (List ActionId)) in
      let refuted_by = subst (λ (x : Answer). AreRefuted (successors_of t removed) (holds_in t g) (ShowsBound t g removed) (rows_in x)) is_no refuted in
      let counted_by = subst (λ (x : Answer). AreCounted (successors_of t removed) (Counts (successors_of t removed) (level_in t g removed) s r) s limit (rows_in x)) is_no counted in
      record {
        right = rows_right rows.items refuted_by counted_by.reached;
        bound = bound_known t rows.items s (Steps r) state.over (row_bound rows.items s r (subst (λ (x : Answer). HasAnswerRow s r x) is_no there));
      }
  no_rows r limit answer rows (inr is_never) refuted there counted =
      let Answer : Type 0 = WithinAnswer (Bits W) (List (List ActionId)) in
      let refuted_by = subst (λ (x : Answer). AreRefuted (successors_of t removed) (holds_in t g) (ShowsBound t g removed) (rows_in x)) is_never refuted in
      let counted_by = subst (λ (x : Answer). AreCounted (successors_of t removed) (Counts (successors_of t removed) (level_in t g removed) s r) s limit (rows_in x)) is_never counted in
      record {
        right = rows_right rows.items refuted_by counted_by.reached;
        bound = from_never (known_by t rows.items) (members s) r (bound_known t rows.items s Never state.over (never_bound rows.items s (subst (λ (x : Answer). HasAnswerRow s r x) is_never there)));
      }

  module _ (begins : members s ≡ start_of t) where
    -- a plan's end is a done state within its length
    pub plan_done : (p : List ActionId) → IsPlan t g removed p → IsDoneWithin (successors_of t removed) (holds_in t g) s (length p)
    plan_done p plan = reaches_done t removed is wide g s p state (subst (λ x. Reaches t g removed x p) (sym begins) plan)

    -- a least path is a plan of least length
    pub least_plan : (limit : ℕ) (path : List ActionId) → IsLeastPath (successors_of t removed) (holds_in t g) s limit path → IsPlan t g removed path
    least_plan limit path found = subst (λ x. Reaches t g removed x path) begins (path_reaches path found.end found.leads found.done)

    pub least_cost : (limit : ℕ) (path : List ActionId) → IsLeastPath (successors_of t removed) (holds_in t g) s limit path → IsCost t g removed (Some (length path))
    least_cost limit path found = ((path, refl, least_plan limit path found), λ p plan. found.least (length p) (plan_done p plan))

    pub never_cost : ((n : ℕ) → IsDoneWithin (successors_of t removed) (holds_in t g) s n → ⊥) → IsCost t g removed None
    never_cost never = λ p plan. never (length p) (plan_done p plan)

    -- more states that count for the least path are more that are near
    pub too_many : (limit : ℕ) → MoreThan limit (CountsForLeast (successors_of t removed) (holds_in t g) (level_in t g removed) s) → MoreThan limit (IsNearWithout t g removed)
    too_many limit more = more_states t (CountsForLeast (successors_of t removed) (holds_in t g) (level_in t g removed) s) (IsNearWithout t g removed) (λ u counts. least_near t removed is wide g s u state begins counts) limit more

    -- what a least path's rows show of the start
    start_known : (path : List ActionId) (n : ℕ) → length path ≡ n → (rows : List (KeptRow (Bits W) (List (List ActionId)))) → (0 < n → HasRow rows s (n - 1)) → KnowsCost t (known_by t rows) (Some n)
    start_known path zero long rows there = tt
    start_known path (suc n) long rows there = subst (λ (x : State). Knows (known_by t rows) x (Steps n)) begins (bound_known t rows s (Steps n) state.over (row_bound rows s n (let has : HasRow rows s (suc n - 1) = there (omega arith) in subst (HasRow rows s) (omega arith) has)))

    -- the cost where there is a least path
    pub path_rows : (limit : ℕ) (path : List ActionId) (rows : List (KeptRow (Bits W) (List (List ActionId)))) → IsLeastPath (successors_of t removed) (holds_in t g) s limit path
        → AreRight t g removed rows → (0 < length path → HasRow rows s (length path - 1)) → AreOfCost t g removed (Some (length path)) rows
    path_rows limit path rows found right there = record { cost = least_cost limit path found; start = start_known path (length path) refl rows there; right = right }

    -- and where there is none
    pub never_rows : (rows : List (KeptRow (Bits W) (List (List ActionId)))) → ((n : ℕ) → IsDoneWithin (successors_of t removed) (holds_in t g) s n → ⊥)
        → AreRight t g removed rows → HasNeverRow rows s → AreOfCost t g removed None rows
    never_rows rows never right there = record {
      cost = never_cost never;
      start = subst (λ (x : State). Knows (known_by t rows) x Never) begins (bound_known t rows s Never state.over (never_bound rows s there));
      right = right;
    }

-- what the search finds of the cost of a goal
module _ {W : ℕ} (t : PlainTask) (g : GoalId) (removed : List ActionId) (is : IsTask t) (wide : t.atoms ≤ 64 * W) (limit : ℕ) where
  rows_of_found : (answer : LeastAnswer (Bits W) (List (List ActionId))) → IsLeastPlan t g removed limit answer → AreRight t g removed (least_rows answer)
  rows_of_found answer found = rows_right t g removed is wide found.first (start_state t found.first is found.whole found.begins) (least_rows answer) found.refuted found.counted.reached

  pub cost_found : (plan : Vec ActionId Global) (rows : Vec (KeptRow (Bits W) (List (List ActionId))) Global) → IsLeastPlan t g removed limit (least.Found plan rows) → AreOfCost t g removed (Some (length plan.items)) rows.items
  cost_found plan rows found =
      path_rows t g removed is wide found.first (start_state t found.first is found.whole found.begins) found.begins limit plan.items rows.items found.right (rows_of_found (least.Found plan rows) found) found.start

  pub none_found : (rows : Vec (KeptRow (Bits W) (List (List ActionId))) Global) → IsLeastPlan t g removed limit (least.Never rows) → AreOfCost t g removed None rows.items
  none_found rows found =
      never_rows t g removed is wide found.first (start_state t found.first is found.whole found.begins) found.begins rows.items found.right (rows_of_found (least.Never rows) found) found.start

-- what is known by rows that are right is so, since their table is valid
pub known_true : {W : ℕ} (t : PlainTask) (g : GoalId) (removed : List ActionId) → IsTask t → t.atoms ≤ 64 * W → (limit : ℕ) (rows : List (KeptRow (Bits W) (List (List ActionId)))) → AreRight t g removed rows
    → RowsRefute → IsSoundOracle (record { task = t; goal = g; removed = removed; limit = limit; known = known_by t rows })
known_true t g removed is wide limit rows right law = λ s bound known path reaches.
    let (k, row, low, at, (same, high)) = known_row t removed rows s bound known in
    refutes_lower bound row.bound (length path) high
    (law t g removed (map (row_of t removed) rows) row (right_valid t g removed is wide rows right) (k, low, at) path (subst (λ (u : State). Reaches t g removed u path) (sym same) reaches))

-- where the rows of a search are kept, what they show is known
pub known_after : {W : ℕ} {M E : Type 0} (t : PlainTask) (rows new : List (KeptRow (Bits W) M)) → All (λ row. IsState t row.state) rows → (r : Result (Unit {0}) E)
    → IfOk r (λ _. (s : Bits W) (bound : Bound) → HasBound rows s bound → HasBound new s bound) → IfOk r (λ _. KnowsAllOf (known_by t rows) (known_by t new))
known_after t rows new states (Ok u) held = known_grows t rows new states held
known_after t rows new states (Err e) held = tt

-- what is known of the cost stays known
pub cost_grows : (t : PlainTask) (old new : List KnownBound) (cost : Option ℕ) → KnowsAllOf old new → KnowsCost t old cost → KnowsCost t new cost
cost_grows t old new (Some zero) all there = tt
cost_grows t old new (Some (suc n)) all there = all (start_of t) (Steps n) there
cost_grows t old new None all there = all (start_of t) Never there

-- where what is known answers that there is no path of so few steps, there is none
pub none_after : {T E : Type 0} (x y : PlainOracle) (s : State) (r : ℕ) → IsAlike x y → IsSoundOracle y → (found : Result (Option T) E) → IfOk found (λ path. IfNone path (Knows y.known s (Steps r)))
    → IfOk found (λ path. IfNone path ((p : List ActionId) → Reaches x.task x.goal x.removed s p → r < length p))
none_after x y s r alike sound (Ok path) known = none_weaker path (Knows y.known s (Steps r)) ((p : List ActionId) → Reaches x.task x.goal x.removed s p → r < length p) longer known
  where
    longer : Knows y.known s (Steps r) → (p : List ActionId) → Reaches x.task x.goal x.removed s p → r < length p
    longer there p reaches =
        let by_removed = subst (λ (m : List ActionId). Reaches x.task x.goal m s p) alike.removed reaches in
        let by_goal = subst (λ (h : GoalId). Reaches x.task h y.removed s p) alike.goal by_removed in
        sound s (Steps r) there p (subst (λ (t : PlainTask). Reaches t y.goal y.removed s p) alike.task by_goal)
none_after x y s r alike sound (Err e) known = tt
