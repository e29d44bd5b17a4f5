-- The space of a task: its walks are the sequences of the task, its states stay states of the task, and
-- its bounds from levels are at most the steps of its walks.
use Rattle.std.proofs.Common.{◌≡◌, ◌≤◌, ◌<◌, ℕ, ◌+◌, ◌*◌, List, [], ◌∷◌, length, map, get_or, refl, sym, ◌∙◌, ap, subst, arith, Option, Some, None, Result, Ok, Err, IfOk}
use Rattle.std.specs.Prelude.{Contains, IsSomeAnd, IsTrue, All}
use Rattle.std.specs.Option.{option_and_then}
use Rattle.std.proofs.lemmas.List.{length-map, get_or-map}
use Rattle.std.proofs.lemmas.List.Elements.{All-map, All-weaker}
use Rattle.std.proofs.lemmas.Option.{option_and_then_some}
use Rattle.grd_base.specs.declared.bits.Bits.{Bits}
use Rattle.grd_base.specs.declared.ids.AtomId.{AtomId}
use Rattle.grd_base.specs.declared.ids.ActionId.{ActionId}
use Rattle.grd_base.specs.declared.ids.GoalId.{GoalId}
use Rattle.grd_base.specs.declared.limits.Bound.{Bound}
use Rattle.grd_base.specs.declared.limits.Bound.TheVariants.{Steps, Never}
use Rattle.grd_base.specs.Bits.{members, bits_of, IsWhole}
use Rattle.grd_base.specs.Counts.{MoreThan}
use Rattle.grd_base.proofs.SameLemmas.{same_by_members}
use Rattle.strips_model.specs.Values.{PlainTask, IsTask}
use Rattle.strips_model.specs.Plans.{State, after, start_of, goal_holds, Reaches, step_without}
use Rattle.strips_model.specs.Cuts.{IsFamily}
use Rattle.strips_model.specs.Levels.{IsLevel}
use Rattle.strips_model.specs.Reached.{IsNearWithin, IsNearWithout}
use Rattle.search_core.specs.LeastAnswers.{CountsForLeast}
use Rattle.search_core.specs.Spaces.{IsPath, IsWalk, end_of, actions_of, IsDoneWithin, IsReachable, IsAtLeastLevel, IsAtMostSteps, Counts}
use Rattle.strips_model.proofs.LevelNumbers.{level_at_is}
use Rattle.level_bounds.specs.Floors.{MeetsBound}
use Rattle.cut_bounds.specs.CutFloors.{PlainCutFloor}
use Rattle.cut_bounds.specs.CutMarks.{IsCutMark, IsAtLeastLevel as IsAtLeastFloor, IsEnough}
use Rattle.optimal_search.specs.Space.{successors_of, holds_in, level_in, IsState}
use Rattle.optimal_search.specs.Floors.{ShowsBound, ProvesBound, AreEnough}
use Rattle.optimal_search.proofs.ListLemmas.{any_first}
use Rattle.optimal_search.proofs.StepLaws.{HasNoneFrom, step_over, packed_whole, packed_members, whole_below, successor_from, successor_has}

-- the empty sequence leaves the state
after_none : (t : PlainTask) (removed : List ActionId) (s : State) → after t removed s [] ≡ Some s
unfolding after
after_none t removed s = refl

-- a step, and what leads on from there
after_more : (t : PlainTask) (removed : List ActionId) (s v : State) (a : ActionId) (p : List ActionId) (o : Option State) → step_without t removed s a ≡ Some v → after t removed v p ≡ o → after t removed s (a ∷ p) ≡ o
unfolding after
after_more t removed s v a p o leads rest = ap (option_and_then (λ u. after t removed u p)) leads ∙ rest

-- the first step of a sequence, and what leads on from there
after_first : (t : PlainTask) (removed : List ActionId) (s u : State) (a : ActionId) (p : List ActionId) → after t removed s (a ∷ p) ≡ Some u
    → (v : State) × (step_without t removed s a ≡ Some v) × (after t removed v p ≡ Some u)
unfolding after
after_first t removed s u a p leads = option_and_then_some (λ v. after t removed v p) (step_without t removed s a) u leads (λ v first rest. (v, first, rest))

-- a value and what holds of it
pub some_and : {X : Type 0} (o : Option X) (P : X → Type 0) → IsSomeAnd o P → (x : X) × (o ≡ Some x) × P x
some_and None P h = absurd h
some_and (Some x) P h = (x, refl, h)

-- a whole bit set of numbers below the bound
pub record IsStateBelow {W : ℕ} (bound : ℕ) (s : Bits W) : Type 0 where
  pub whole : IsWhole s
  pub none : HasNoneFrom bound (members s)

module _ (W : ℕ) (t : PlainTask) (removed : List ActionId) (is : IsTask t) (bound : ℕ) (low : t.atoms ≤ bound) (held : bound ≤ 64 * W) where
  members_packed : (u : State) → HasNoneFrom bound u → members (bits_of {W = W} u) ≡ u
  members_packed u none = packed_members W u (λ n past. none n (omega (arith, held, past)))

  packed_below : (u : State) → HasNoneFrom bound u → IsStateBelow bound (bits_of {W = W} u)
  packed_below u none = record {
    whole = packed_whole u;
    none = let P : State → Type 0 = λ v. HasNoneFrom bound v in subst P (sym (members_packed u none)) none;
  }

  -- a successor is the state after the step
  successor_below : (s : Bits W) (x : ActionId × Bits W) → IsStateBelow bound s → Contains (successors_of t removed s) x
      → IsStateBelow bound x.1 × (step_without t removed (members s) x.0 ≡ Some (members x.1))
  successor_below s x state there =
      let from = successor_from t removed s x there in
      let none : HasNoneFrom bound from.0 = step_over t removed (members s) from.0 x.0 bound is low state.none from.1 in
      let P : Bits W → Type 0 = λ y. IsStateBelow bound y × (step_without t removed (members s) x.0 ≡ Some (members y)) in
      subst P (sym from.2) (packed_below from.0 none, from.1 ∙ ap Some (sym (members_packed from.0 none)))

  -- a walk from such a bit set ends in one
  below_walk : (s : Bits W) (walk : List (ActionId × Bits W)) → IsStateBelow bound s → IsWalk (successors_of t removed) s walk → IsStateBelow bound (end_of s walk)
  below_walk s [] state steps = state
  below_walk s (step ∷ rest) state steps = below_walk step.1 rest (successor_below s step state steps.0).0 steps.1

  -- its actions lead to the state in which it ends
  below_leads : (s : Bits W) (walk : List (ActionId × Bits W)) → IsStateBelow bound s → IsWalk (successors_of t removed) s walk
      → after t removed (members s) (actions_of walk) ≡ Some (members (end_of s walk))
  below_leads s [] state steps = after_none t removed (members s)
  below_leads s (step ∷ rest) state steps =
      let first = successor_below s step state steps.0 in
      after_more t removed (members s) (members step.1) step.0 (actions_of rest) (Some (members (end_of step.1 rest))) first.1 (below_leads step.1 rest first.0 steps.1)

  -- a sequence that leads to a state is the actions of a walk that ends there
  leads_below : (s : Bits W) (p : List ActionId) (u : State) → IsStateBelow bound s → after t removed (members s) p ≡ Some u
      → (walk : List (ActionId × Bits W)) × IsWalk (successors_of t removed) s walk × (actions_of walk ≡ p) × (members (end_of s walk) ≡ u)
  leads_below s [] u state leads = let same : Some (members s) ≡ Some u = sym (after_none t removed (members s)) ∙ leads in ([], tt, refl, cc)
  leads_below s (a ∷ p) u state leads =
      let first = after_first t removed (members s) u a p leads in
      let none : HasNoneFrom bound first.0 = step_over t removed (members s) first.0 a bound is low state.none first.1 in
      let next : Bits W = bits_of first.0 in
      let same : members next ≡ first.0 = members_packed first.0 none in
      let rest = leads_below next p u (packed_below first.0 none) (ap (λ v. after t removed v p) same ∙ first.2) in
      ((a, next) ∷ rest.0, (successor_has t removed s a first.0 first.1, rest.1), ap (λ others. a ∷ others) rest.2, rest.3)

module _ {W : ℕ} (t : PlainTask) (removed : List ActionId) (is : IsTask t) (wide : t.atoms ≤ 64 * W) where
  -- a state of the task is a bit set below its atoms
  of_task : (s : Bits W) → IsState t s → IsStateBelow t.atoms s
  of_task s state = record { whole = state.whole; none = state.over }

  -- a walk from a state of the task ends in one
  pub walk_state : (s : Bits W) (walk : List (ActionId × Bits W)) → IsState t s → IsWalk (successors_of t removed) s walk → IsState t (end_of s walk)
  walk_state s walk state steps =
      let end = below_walk W t removed is t.atoms (omega arith) wide s walk (of_task s state) steps in
      record { whole = end.whole; over = end.none }

  -- the actions of a walk lead to the state in which it ends
  pub walk_leads : (s : Bits W) (walk : List (ActionId × Bits W)) → IsState t s → IsWalk (successors_of t removed) s walk
      → after t removed (members s) (actions_of walk) ≡ Some (members (end_of s walk))
  walk_leads s walk state steps = below_leads W t removed is t.atoms (omega arith) wide s walk (of_task s state) steps

  -- a sequence that leads to a state is the actions of a walk that ends there
  pub leads_walk : (s : Bits W) (p : List ActionId) (u : State) → IsState t s → after t removed (members s) p ≡ Some u
      → (walk : List (ActionId × Bits W)) × IsWalk (successors_of t removed) s walk × (actions_of walk ≡ p) × (members (end_of s walk) ≡ u)
  leads_walk s p u state leads = leads_below W t removed is t.atoms (omega arith) wide s p u (of_task s state) leads

  -- where a sequence reaches the goal, a done state lies within its length
  pub reaches_done : (g : GoalId) (s : Bits W) (p : List ActionId) → IsState t s → Reaches t g removed (members s) p
      → IsDoneWithin (successors_of t removed) (λ x. goal_holds t g (members x)) s (length p)
  reaches_done g s p state reaches =
      let end = some_and (after t removed (members s) p) (λ u. IsTrue (goal_holds t g u)) reaches in
      let walk = leads_walk s p end.0 state end.1 in
      record {
        path = p;
        end = end_of s walk.0;
        leads = record { walk = walk.0; steps = walk.1; carries = walk.2; ends = refl };
        short = omega arith;
        done = ap (goal_holds t g) walk.3 ∙ end.2;
      }

  -- a state that is reached from a state of the task is one
  pub reached_state : (s u : Bits W) → IsState t s → IsReachable (successors_of t removed) s u → IsState t u
  reached_state s u state reached =
      let P : Bits W → Type 0 = λ x. IsState t x in
      let path = reached.leads in
      subst P path.ends (walk_state s path.walk state path.steps)

  -- a path of the space from a state of the task leads to one
  pub path_state : (s u : Bits W) (path : List ActionId) → IsState t s → IsPath (successors_of t removed) s path u → IsState t u × (after t removed (members s) path ≡ Some (members u))
  path_state s u path state leads =
      let P : Bits W → Type 0 = λ x. IsState t x in (
        subst P leads.ends (walk_state s leads.walk state leads.steps),
        ap (after t removed (members s)) (sym leads.carries) ∙ walk_leads s leads.walk state leads.steps ∙ ap (λ (x : Bits W). Some (members x)) leads.ends,
      )

  -- the level that is computed is the level
  level_there : (g : GoalId) (u : Bits W) (height : ℕ) → level_in t g removed u ≡ Some height → IsLevel t g removed (members u) (Some height)
  level_there g u height same = subst (IsLevel t g removed (members u)) same (level_at_is t g removed (members u) is)

  -- a state that counts for r steps is near within them
  pub counts_near : (g : GoalId) (s u : Bits W) (r : ℕ) → IsState t s → Counts (successors_of t removed) (level_in t g removed) s r u
      → IsState t u × IsNearWithin t g removed (members s) r (members u)
  counts_near g s u r state counts =
      let there = path_state s u counts.path state counts.leads in
      (there.0, record { path = counts.path; leads = there.1; level = counts.height; level_is = level_there g u counts.height counts.level_is; near = counts.near })

  -- a state that counts for the least path is near
  pub least_near : (g : GoalId) (s u : Bits W) → IsState t s → members s ≡ start_of t → CountsForLeast (successors_of t removed) (holds_in t g) (level_in t g removed) s u
      → IsState t u × IsNearWithout t g removed (members u)
  least_near g s u state begins counts =
      let there = path_state s u counts.path state counts.leads in (
        there.0,
        record {
          path = counts.path;
          leads = subst (λ (x : State). after t removed x counts.path ≡ Some (members u)) begins there.1;
          level = counts.height;
          level_is = level_there g u counts.height counts.level_is;
          within = λ c cost.
              let plan = cost.0 in
              let done = reaches_done g s plan.0 state (subst (λ (x : State). Reaches t g removed x plan.0) (sym begins) plan.2) in
              let few : length counts.path + counts.height ≤ length plan.0 = counts.near (length plan.0) done in
              omega (arith, few, plan.1);
        },
      )

-- more bit sets that are states of the task are more states
pub more_states : {W : ℕ} (t : PlainTask) (P : Bits W → Type 0) (Q : State → Type 0) → ((u : Bits W) → P u → IsState t u × Q (members u)) → (limit : ℕ) → MoreThan limit P → MoreThan limit Q
more_states {W} t P Q near limit more =
    let each : All (λ u. IsState t u × Q (members u)) more.items = All-weaker P (λ u. IsState t u × Q (members u)) near more.items more.have in
    let long : length (map members more.items) ≡ length more.items = length-map more.items members in
    record {
      items = map members more.items;
      many = let many : limit < length more.items = more.many in omega arith;
      differ = λ i j d before within same.
          let e : Bits W = bits_of d in
          let later : j < length more.items = omega arith in
          let earlier : i < length more.items = omega arith in
          more.differ i j e before later
          (same_by_members (get_or more.items i e) (get_or more.items j e) (each i e earlier).0.whole (each j e later).0.whole
          (sym (get_or-map members more.items i e d earlier) ∙ same ∙ get_or-map members more.items j e d later));
      have = All-map Q members more.items (All-weaker (λ u. IsState t u × Q (members u)) (λ u. Q (members u)) (λ u both. both.1) more.items each);
    }

-- what no sequence to the goal is shorter than, no walk of the space to a done state is
pub steps_below : {W : ℕ} (t : PlainTask) (g : GoalId) (removed : List ActionId) (s : Bits W) (bound : Bound) → IsTask t → t.atoms ≤ 64 * W → IsWhole s
    → ((p : List ActionId) → Reaches t g removed (members s) p → MeetsBound bound (length p)) → IsAtMostSteps (successors_of t removed) (holds_in t g) s bound
steps_below {W} t g removed s bound is wide whole none = by bound none
  where
    reaches : (n : ℕ) (done : IsDoneWithin (successors_of t removed) (holds_in t g) s n) → Reaches t g removed (members s) done.path
    reaches n done =
        let path = done.leads in
        let run : after t removed (members s) done.path ≡ Some (members done.end) =
        ap (λ p. after t removed (members s) p) (sym path.carries)
        ∙ below_leads W t removed is (64 * W) wide (omega arith) s path.walk (record { whole = whole; none = whole_below s whole }) path.steps
        ∙ ap (λ (x : Bits W). Some (members x)) path.ends in
        subst (λ (o : Option State). IsSomeAnd o (λ u. IsTrue (goal_holds t g u))) (sym run) done.done

    by : (b : Bound) → ((p : List ActionId) → Reaches t g removed (members s) p → MeetsBound b (length p)) → IsAtMostSteps (successors_of t removed) (holds_in t g) s b
    by (Steps m) meets = λ n done. let long : m ≤ length done.path = meets done.path (reaches n done) in omega (arith, long, done.short)
    by Never meets = λ n done. meets done.path (reaches n done)

-- what a floor of cuts answers for a whole bit set shows its bound
pub bound_shown : {W : ℕ} (t : PlainTask) (g : GoalId) (removed : List ActionId) (s : Bits W) (lists : List (List ActionId)) (bound : Bound) → IsTask t → t.atoms ≤ 64 * W → IsWhole s
    → IsCutMark t g removed (members s) lists bound → ((level : Option ℕ) → IsLevel t g removed (members s) level → IsAtLeastFloor bound level)
    → ((p : List ActionId) → Reaches t g removed (members s) p → MeetsBound bound (length p)) → ShowsBound t g removed s lists bound
bound_shown t g removed s lists bound is wide whole mark level steps = record {
  cuts = mark;
  level = by bound (level_in t g removed s) (level (level_in t g removed s) (level_at_is t g removed (members s) is));
  steps = steps_below t g removed s bound is wide whole steps;
}
  where
    by : (b : Bound) (l : Option ℕ) → IsAtLeastFloor b l → IsAtLeastLevel b l
    by (Steps m) (Some n) low = low
    by Never (Some n) low = tt
    by (Steps m) None never = never
    by Never None never = never

-- sets that prove a bound are enough for it
enough_sets : (t : PlainTask) (removed : List ActionId) (sets : List (List AtomId)) (bound : Bound) → IsEnough t removed sets bound → AreEnough t removed sets bound
enough_sets t removed sets (Steps n) as_many = omega (arith, as_many)
enough_sets t removed sets Never (one, empty) = any_first _ sets empty one

-- what is reached around the lists of a mark proves each bound that it shows
pub bound_proved : {W : ℕ} (t : PlainTask) (g : GoalId) (removed : List ActionId) (s : Bits W) (lists : List (List ActionId)) (sets : List (List AtomId)) → IsFamily t g removed (members s) sets
    → ((bound : Bound) → IsCutMark t g removed (members s) lists bound → AreEnough t removed sets bound) → (bound : Bound) → ShowsBound t g removed s lists bound → ProvesBound t g removed s sets bound
bound_proved t g removed s lists sets family enough bound shown = record { family = family; enough = enough bound shown.cuts }

-- what a floor of cuts answers shows its bounds, whatever it says of other goals
pub floor_shows : {W : ℕ} {E : Type 0} (t : PlainTask) (g : GoalId) (removed : List ActionId) (s : Bits W) → IsTask t → t.atoms ≤ 64 * W → IsWhole s → (floor : PlainCutFloor) → floor.goal ≡ g → floor.removed ≡ removed
    → (made : Result (Bound × List (List ActionId)) E) → IfOk made (λ p. IsCutMark t floor.goal floor.removed (members s) p.1 p.0)
    → IfOk made (λ p. (level : Option ℕ) → IsLevel t floor.goal floor.removed (members s) level → IsAtLeastFloor p.0 level)
    → IfOk made (λ p. (path : List ActionId) → Reaches t floor.goal floor.removed (members s) path → MeetsBound p.0 (length path))
    → IfOk made (λ p. ShowsBound t g removed s p.1 p.0)
floor_shows t g removed s is wide whole floor goal without (Ok p) mark level steps =
    subst (λ (h : GoalId). ShowsBound t h removed s p.1 p.0) goal (subst (λ (l : List ActionId). ShowsBound t floor.goal l s p.1 p.0) without
    (bound_shown t floor.goal floor.removed s p.1 p.0 is wide whole mark level steps))
floor_shows t g removed s is wide whole floor goal without (Err e) mark level steps = tt

-- and its families prove them
pub floor_proves : {W : ℕ} {E : Type 0} (t : PlainTask) (g : GoalId) (removed : List ActionId) (s : Bits W) (lists : List (List ActionId)) (floor : PlainCutFloor) → floor.goal ≡ g → floor.removed ≡ removed
    → (made : Result (List (List AtomId)) E) → IfOk made (λ sets. IsFamily t floor.goal floor.removed (members s) sets)
    → IfOk made (λ sets. (bound : Bound) → IsCutMark t floor.goal floor.removed (members s) lists bound → IsEnough t floor.removed sets bound)
    → IfOk made (λ sets. (bound : Bound) → ShowsBound t g removed s lists bound → ProvesBound t g removed s sets bound)
floor_proves t g removed s lists floor goal without (Ok sets) family enough =
    let Proves : GoalId → List ActionId → Type 0 = λ h l. (bound : Bound) → ShowsBound t h l s lists bound → ProvesBound t h l s sets bound in
    subst (λ (h : GoalId). Proves h removed) goal (subst (λ (l : List ActionId). Proves floor.goal l) without (bound_proved t floor.goal floor.removed s lists sets family (λ bound mark. enough_sets t floor.removed sets bound (enough bound mark))))
floor_proves t g removed s lists floor goal without (Err e) family enough = tt
