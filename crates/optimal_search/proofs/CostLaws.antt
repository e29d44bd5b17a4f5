-- What was found of a goal is its cost, and few states are kept.
use Rattle.std.proofs.Common.{◌≡◌, ◌≢◌, ℕ, suc, ◌-◌, ◌*◌, ◌≤◌, ◌<◌, List, [], ◌∷◌, ◌++◌, length, map, get_or, ap, sym, refl, ◌∙◌, arith, inl, inr, Option, Some, None, Vec, Global}
use mathlib.Core.Path.{subst}
use Rattle.std.specs.Prelude.{All, IsTrue, slice_get}
use Rattle.std.specs.Option.{option_and_then}
use Rattle.std.proofs.lemmas.List.{length-map}
use Rattle.std.proofs.lemmas.List.Elements.{All-nil, All-cons, All-head, All-tail, All-weaker, All-map}
use Rattle.std.proofs.lemmas.List.Kept.{AllPairs-cons}
use Rattle.std.proofs.lemmas.Option.{slice_get_within}
use Rattle.grd_base.specs.declared.bits.Bits.{Bits}
use Rattle.grd_base.specs.declared.ids.ActionId.{ActionId}
use Rattle.grd_base.specs.declared.ids.GoalId.{GoalId}
use Rattle.grd_base.specs.declared.limits.Bound.TheVariants.{Steps, Never}
use Rattle.grd_base.specs.Bits.{members}
use Rattle.grd_base.specs.Counts.{AllDistinct}
use Rattle.grd_base.proofs.SameLemmas.{same_by_members}
use Rattle.strips_model.specs.Values.{PlainTask, IsTask}
use Rattle.strips_model.specs.Plans.{State, step_without, after, start_of, goal_holds}
use Rattle.strips_model.specs.Common.{IsRight}
use Rattle.strips_model.specs.Reached.{IsNear}
use Rattle.strips_model.proofs.MoveLemmas.{step_by}
use Rattle.search_core.specs.declared.rows.KeptRow.{KeptRow}
use Rattle.search_core.specs.Spaces.{IsDoneWithin}
use Rattle.search_core.specs.declared.rows.LeastAnswer.{LeastAnswer}
use Rattle.search_core.specs.declared.rows.LeastAnswer.TheVariants as answer
use Rattle.search_core.specs.LeastAnswers.{CountsForLeast, IsLeastPath, least_rows}
use Rattle.optimal_search.specs.Plans.{IsLeastPlan}
use Rattle.search_core.specs.Tables.{AreCounted, HasRow, HasNeverRow, unmarked}
use Rattle.cost_certificate.specs.Tables.{IsRowOver}
use Rattle.cost_certificate.specs.Rows.{PlainRow}
use Rattle.cost_certificate.specs.Found.{PlainCost}
use Rattle.optimal_search.specs.Space.{successors_of, holds_in, level_in, IsState}
use Rattle.optimal_search.specs.Costs.{AreFewNear, IsRightCost}
use Rattle.optimal_search.specs.Oracles.{Knows, AreRight, known_by}
use Rattle.optimal_search.specs.Rows.{row_of, table_for}
use Rattle.optimal_search.proofs.SpaceLaws.{some_and, least_near}
use Rattle.optimal_search.proofs.ListLemmas.{at_push}
use Rattle.optimal_search.proofs.AskLaws.{start_state, rows_right, least_plan, least_cost, never_cost}
use Rattle.optimal_search.proofs.RowLaws.{right_valid, rows_in_task, states_unmarked, known_row, bound_known, row_bound, never_bound}

-- the actions of a sequence that leads somewhere are actions of the task
pub in_range : (t : PlainTask) (removed : List ActionId) (p : List ActionId) (x u : State) → after t removed x p ≡ Some u → All (λ a. a.0 < length t.actions) p
unfolding after
in_range t removed [] x u leads = All-nil (λ a. a.0 < length t.actions)
in_range t removed (a ∷ p) x u leads = first (step_without t removed x a) refl leads (λ v later. in_range t removed p v u later)
  where
    first : (o : Option State) → step_without t removed x a ≡ o → option_and_then (λ v. after t removed v p) o ≡ Some u
        → ((v : State) → after t removed v p ≡ Some u → All (λ b. b.0 < length t.actions) p) → All (λ b. b.0 < length t.actions) (a ∷ p)
    first None is leads rest = cc
    first (Some v) is leads rest =
        let by = step_by t removed x a v is in
        All-cons (λ b. b.0 < length t.actions) a p (slice_get_within t.actions a.0 by.action by.at) (rest v leads)

-- a map that keeps elements apart keeps a list distinct
distinct_map : {X Y : Type 0} (f : X → Y) (R : X → Type 0) → ((x y : X) → R x → R y → f x ≡ f y → x ≡ y) → (xs : List X) → All R xs → AllDistinct xs → AllDistinct (map f xs)
distinct_map f R apart [] each distinct = λ i j d low high. absurd (omega (arith, high))
distinct_map f R apart (x ∷ xs) each distinct =
    AllPairs-cons (λ a b. a ≢ b) (f x) (map f xs)
    (All-map (λ y. f x ≢ y) f xs (λ k d low same. distinct 0 (suc k) d (omega arith) (omega (arith, low)) (apart x (get_or xs k d) (All-head R x xs each) (All-tail R x xs each k d low) same)))
    (distinct_map f R apart xs (All-tail R x xs each) (λ i j d low high. distinct (suc i) (suc j) d (omega (arith, low)) (omega (arith, high))))

module _ {W : ℕ} (t : PlainTask) (g : GoalId) (is : IsTask t) (wide : t.atoms ≤ 64 * W) (s : Bits W) (state : IsState t s) (begins : members s ≡ start_of t)
    (limit : ℕ) (rows : List (KeptRow (Bits W) (List (List ActionId)))) (right : AreRight t g [] rows) where
  -- the states of the rows without a mark count for the least path
  abbrev AreCountedRows : Type 0
  AreCountedRows = AreCounted (successors_of t []) (CountsForLeast (successors_of t []) (holds_in t g) (level_in t g []) s) s limit rows

  -- few states are kept, and each is near
  few_near : AreCountedRows → AreFewNear t g limit (map (row_of t []) rows)
  few_near counted =
      let states : List (Bits W) = unmarked rows in
      let same = states_unmarked t g [] is wide rows right.states in
      let count : Bits W → Type 0 = CountsForLeast (successors_of t []) (holds_in t g) (level_in t g []) s in
      record {
        near = subst (λ sets. All (IsNear t g) sets) (sym same)
            (All-map (IsNear t g) members states
            (All-weaker count (λ x. IsNear t g (members x)) (λ x counts. (least_near t [] is wide g s x state begins counts).1) states counted.count));
        distinct = subst (λ sets. AllDistinct sets) (sym same)
            (distinct_map members (IsState t) (λ x y at_x at_y. same_by_members x y at_x.whole at_y.whole) states
            (All-weaker count (IsState t) (λ x counts. (least_near t [] is wide g s x state begins counts).0) states counted.count) counted.distinct);
        few = omega (arith, ap length same, length-map states (members {W = W}), counted.few);
      }

  none_near : AreFewNear t g limit []
  none_near = record { near = All-nil (IsNear t g); distinct = λ i j d low high. absurd (omega (arith, high)); few = omega arith }

  -- a least path, with rows that refute fewer steps, shows the cost
  pub path_right : (plan : List ActionId) → IsLeastPath (successors_of t []) (holds_in t g) s limit plan → (0 < length plan → HasRow rows s (length plan - 1)) → AreCountedRows
      → IsRightCost t g limit (record { cost = Some (length plan); plan = plan; table = table_for t [] plan rows })
  path_right [] found there counted = record {
    cost = least_cost t g [] is wide s state begins limit [] found;
    within_limit = omega arith;
    shown = (least_plan t g [] is wide s state begins limit [] found, refl);
    alone = refl;
    kept = none_near;
    over = All-nil (IsRowOver t);
  }
  path_right (a ∷ plan) found there counted = record {
    cost = least_cost t g [] is wide s state begins limit (a ∷ plan) found;
    within_limit = found.within_limit;
    shown = (
      least_plan t g [] is wide s state begins limit (a ∷ plan) found,
      refl,
      right_valid t g [] is wide rows right,
      known_row t [] rows (start_of t) (Steps (length plan))
          (subst (λ (x : State). Knows (known_by t rows) x (Steps (length plan))) begins (bound_known t rows s (Steps (length plan)) state.over (row_bound rows s (length plan) (let has : HasRow rows s (suc (length plan) - 1) = there (omega arith) in subst (HasRow rows s) (omega arith) has)))),
    );
    alone = tt;
    kept = few_near counted;
    over = rows_in_task t g [] is wide rows;
  }

  -- where there is none, rows that refute any number of steps show it
  pub never_right : ((n : ℕ) → IsDoneWithin (successors_of t []) (holds_in t g) s n → ⊥) → HasNeverRow rows s → AreCountedRows
      → IsRightCost t g limit (record { cost = None; plan = []; table = map (row_of t []) rows })
  never_right never there counted = record {
    cost = never_cost t g [] is wide s state begins never;
    within_limit = tt;
    alone = refl;
    shown = (
      right_valid t g [] is wide rows right,
      known_row t [] rows (start_of t) Never (subst (λ (x : State). Knows (known_by t rows) x Never) begins (bound_known t rows s Never state.over (never_bound rows s there))),
    );
    kept = few_near counted;
    over = rows_in_task t g [] is wide rows;
  }

-- what was found is right, by whatever names it has
pub cost_same : {W : ℕ} (t : PlainTask) (g : GoalId) (limit : ℕ) (plan taken : List ActionId) (rows items : List (KeptRow (Bits W) (List (List ActionId)))) (removed : List ActionId) (table : List PlainRow) (n : ℕ)
    → length plan ≡ n → taken ≡ plan → items ≡ rows → removed ≡ [] → table ≡ table_for t removed taken items → IsRightCost t g limit (record { cost = Some (length plan); plan = plan; table = table_for t [] plan rows })
    → IsRightCost t g limit (record { cost = Some n; plan = plan; table = table })
cost_same t g limit plan taken rows items removed table n long same_plan same_rows none made right =
    let table_is : table ≡ table_for t [] plan rows =
    made ∙ ap (λ (p : List ActionId). table_for t removed p items) same_plan ∙ ap (table_for t removed plan) same_rows ∙ ap (λ (r : List ActionId). table_for t r plan rows) none in
    subst (λ found. IsRightCost t g limit (record { cost = Some n; plan = plan; table = found })) (sym table_is)
    (subst (λ m. IsRightCost t g limit (record { cost = Some m; plan = plan; table = table_for t [] plan rows })) long right)

pub none_same : {W : ℕ} (t : PlainTask) (g : GoalId) (limit : ℕ) (rows items : List (KeptRow (Bits W) (List (List ActionId)))) (removed : List ActionId) (table : List PlainRow) (plan : List ActionId)
    → plan ≡ [] → items ≡ rows → removed ≡ [] → table ≡ map (row_of t removed) items → IsRightCost t g limit (record { cost = None; plan = []; table = map (row_of t []) rows })
    → IsRightCost t g limit (record { cost = None; plan = plan; table = table })
none_same t g limit rows items removed table plan empty same_rows none made right =
    let table_is : table ≡ map (row_of t []) rows = made ∙ ap (map (row_of t removed)) same_rows ∙ ap (λ (r : List ActionId). map (row_of t r) rows) none in
    subst (λ found. IsRightCost t g limit (record { cost = None; plan = plan; table = found })) (sym table_is)
    (subst (λ p. IsRightCost t g limit (record { cost = None; plan = p; table = map (row_of t []) rows })) (sym empty) right)

-- rows that are right without removed actions are so for a set of none
pub right_slice : {W : ℕ} (t : PlainTask) (g : GoalId) (removed : List ActionId) (rows items : List (KeptRow (Bits W) (List (List ActionId)))) → removed ≡ [] → items ≡ rows → AreRight t g [] rows → AreRight t g removed items
right_slice t g removed rows items none same right = subst (λ xs. AreRight t g removed xs) (sym same) (subst (λ r. AreRight t g r rows) (sym none) right)

module _ {W : ℕ} (t : PlainTask) (g : GoalId) (is : IsTask t) (wide : t.atoms ≤ 64 * W) (limit : ℕ) where
  -- the first state of what was found is the start
  first_state : (answer : LeastAnswer (Bits W) (List (List ActionId))) (found : IsLeastPlan t g [] limit answer) → IsState t found.first
  first_state answer found = start_state t found.first is found.whole found.begins

  -- the rows of what was found are right
  pub rows_found : (answer : LeastAnswer (Bits W) (List (List ActionId))) → IsLeastPlan t g [] limit answer → AreRight t g [] (least_rows answer)
  rows_found answer found = rows_right t g [] is wide found.first (first_state answer found) (least_rows answer) found.refuted found.counted.reached

  -- a path that was found is a plan of the task's actions
  pub plan_found : (plan : Vec ActionId Global) (rows : Vec (KeptRow (Bits W) (List (List ActionId))) Global) → IsLeastPlan t g [] limit (answer.Found plan rows) → All (λ a. a.0 < length t.actions) plan.items
  plan_found plan rows found =
      let plans = least_plan t g [] is wide found.first (first_state (answer.Found plan rows) found) found.begins limit plan.items found.right in
      let end = some_and (after t [] (start_of t) plan.items) (λ u. IsTrue (goal_holds t g u)) plans in
      in_range t [] plan.items (start_of t) end.0 end.1

  -- it is an optimal one, or there is none
  pub plan_right : (plan : Vec ActionId Global) (rows : Vec (KeptRow (Bits W) (List (List ActionId))) Global) → IsLeastPlan t g [] limit (answer.Found plan rows) → IsRight t g [] (Some plan.items)
  plan_right plan rows found =
      let state = first_state (answer.Found plan rows) found in (
        least_plan t g [] is wide found.first state found.begins limit plan.items found.right,
        least_cost t g [] is wide found.first state found.begins limit plan.items found.right,
      )

  pub no_plan_right : (rows : Vec (KeptRow (Bits W) (List (List ActionId))) Global) → IsLeastPlan t g [] limit (answer.Never rows) → IsRight t g [] None
  no_plan_right rows found = never_cost t g [] is wide found.first (first_state (answer.Never rows) found) found.begins found.right

  -- it is right, with the table of its rows
  pub path_found : (plan : Vec ActionId Global) (rows : Vec (KeptRow (Bits W) (List (List ActionId))) Global) → IsLeastPlan t g [] limit (answer.Found plan rows)
      → IsRightCost t g limit (record { cost = Some (length plan.items); plan = plan.items; table = table_for t [] plan.items rows.items })
  path_found plan rows found =
      path_right t g is wide found.first (first_state (answer.Found plan rows) found) found.begins limit rows.items (rows_found (answer.Found plan rows) found) plan.items found.right found.start found.counted

  -- and so is that there is none
  pub never_found : (rows : Vec (KeptRow (Bits W) (List (List ActionId))) Global) → IsLeastPlan t g [] limit (answer.Never rows)
      → IsRightCost t g limit (record { cost = None; plan = []; table = map (row_of t []) rows.items })
  never_found rows found =
      never_right t g is wide found.first (first_state (answer.Never rows) found) found.begins limit rows.items (rows_found (answer.Never rows) found) found.right found.start found.counted

-- what is found of one goal more
pub right_push : (t : PlainTask) (limit : ℕ) (xs ys : List PlainCost) (y : PlainCost) (i : ℕ) → ys ≡ xs ++ y ∷ [] → length xs ≡ i → IsRightCost t (record { 0 = i }) limit y
    → ((k : ℕ) (x : PlainCost) → slice_get xs k ≡ Some x → IsRightCost t (record { 0 = k }) limit x) → (k : ℕ) (x : PlainCost) → slice_get ys k ≡ Some x → IsRightCost t (record { 0 = k }) limit x
right_push t limit xs ys y i more each here right k x at = elim (at_push xs y k x (ap (λ zs. slice_get zs k) (sym more) ∙ at)) [
  | inl old ↦ right k x old
  | inr new ↦ subst (λ n. IsRightCost t (record { 0 = n }) limit x) (sym (new.0 ∙ each)) (subst (λ z. IsRightCost t (record { 0 = i }) limit z) new.1 here)
]

-- and one plan more
pub plan_push : (t : PlainTask) (xs ys : List (Option (List ActionId))) (y : Option (List ActionId)) (i : ℕ) → ys ≡ xs ++ y ∷ [] → length xs ≡ i → IsRight t (record { 0 = i }) [] y
    → ((k : ℕ) (x : Option (List ActionId)) → slice_get xs k ≡ Some x → IsRight t (record { 0 = k }) [] x) → (k : ℕ) (x : Option (List ActionId)) → slice_get ys k ≡ Some x → IsRight t (record { 0 = k }) [] x
plan_push t xs ys y i more each here right k x at = elim (at_push xs y k x (ap (λ zs. slice_get zs k) (sym more) ∙ at)) [
  | inl old ↦ right k x old
  | inr new ↦ subst (λ n. IsRight t (record { 0 = n }) [] x) (sym (new.0 ∙ each)) (subst (λ z. IsRight t (record { 0 = i }) [] z) new.1 here)
]
