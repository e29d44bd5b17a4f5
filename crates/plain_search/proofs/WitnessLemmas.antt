-- The costs of the goals by what was found for them, and the answers that come before any walk.
use Rattle.std.proofs.Common.{◌≡◌, ℕ, zero, suc, ◌<◌, ◌≤◌, Bool, true, false, cond, List, [], ◌∷◌, ◌++◌, length, map, refl, sym, ◌∙◌, ap, inl, inr, arith, Option, Some, None}
use Rattle.std.specs.Prelude.{slice_get, is_some, count_by, filter, All, IfSome, IsTrue}
use Rattle.std.specs.Option.{option_map}
use Rattle.std.proofs.lemmas.List.Sums.{length-filter}
use Rattle.std.proofs.lemmas.Bool.{cases_lt, cases_eq}
use Rattle.std.proofs.lemmas.Option.{slice_get_within}
use mathlib.Core.Path.{subst}
use Rattle.grd_base.specs.declared.ids.ActionId.{ActionId}
use Rattle.grd_base.specs.declared.ids.GoalId.{GoalId}
use Rattle.strips_model.specs.Values.{PlainTask, PlainWitness}
use Rattle.strips_model.specs.Plans.{after, start_of, goal_holds, IsCost, IsOptimal, IsPlan}
use Rattle.strips_model.specs.Common.{HasPlan, IsWcd, AreRight, IsWitness, IsRightWcd}
use Rattle.grd_base.specs.Counts.{MoreThan}
use Rattle.strips_model.specs.Reached.{IsReachedFor}
use Rattle.plain_search.specs.Walks.{Visit}
use Rattle.plain_search.specs.Layers.{IsWithin, IsLayered}
use Rattle.plain_search.specs.Live.{AreCosts, AreDeep, IsDearest}
use Rattle.plain_search.proofs.LiveLemmas.{same_cost, goal_of_task, reaches_parted}
use Rattle.plain_search.proofs.WalkPlanLemmas.{some_and, all_actions}
use Rattle.plain_search.proofs.CommonLemmas.{right_costs, cost_there, same_goal, all_within}

-- lengths of plans, in one look or in two
module _ {V : Type 0} (items : V → List ActionId) where
  abbrev cost_by : Option V → Option ℕ
  cost_by plan = option_map (λ p. length (items p)) plan

  in_two : (o : Option V) → option_map length (option_map items o) ≡ cost_by o
  in_two None = refl
  in_two (Some p) = refl

  all_in_two : (found : List (Option V)) → map (option_map length) (map (option_map items) found) ≡ map cost_by found
  all_in_two [] = refl
  all_in_two (o ∷ found) = (λ i. in_two o i ∷ all_in_two found i)

  pub costs_right : (t : PlainTask) (found : List (Option V)) (costs : List (Option ℕ)) → AreRight t [] (map (option_map items) found)
      → costs ≡ map (λ plan. option_map (λ p. length (items p)) plan) found → AreCosts t costs
  costs_right t found costs right are =
      subst (λ cs. AreCosts t cs) (all_in_two found ∙ sym are) (right_costs t (map (option_map items) found) right)

module _ {X : Type 0} (p : X → Bool) where
  one_more : (x : X) (xs : List X) → p x ≡ true → length (filter p (x ∷ xs)) ≡ suc (length (filter p xs))
  one_more x xs h = ap (λ b. length (cond b (x ∷ filter p xs) (filter p xs))) h

  no_fewer : (x : X) (xs : List X) → length (filter p xs) ≤ length (filter p (x ∷ xs))
  no_fewer x xs = by (p x)
    where
      by : (b : Bool) → length (filter p xs) ≤ length (cond b (x ∷ filter p xs) (filter p xs))
      by true = omega arith
      by false = omega arith

  some_pass : (xs : List X) (k : ℕ) (x : X) → slice_get xs k ≡ Some x → p x ≡ true → 1 ≤ length (filter p xs)
  some_pass [] k x at h = cc
  some_pass (y ∷ xs) zero x at h = let same : y ≡ x = cc in omega (arith, one_more y xs (ap p same ∙ h))
  some_pass (y ∷ xs) (suc k) x at h = omega (arith, no_fewer y xs, some_pass xs k x at h)

  two_pass : (xs : List X) (j k : ℕ) (x y : X) → j < k → slice_get xs j ≡ Some x → slice_get xs k ≡ Some y → p x ≡ true → p y ≡ true → 2 ≤ length (filter p xs)
  two_pass [] j k x y lt at_x at_y hx hy = cc
  two_pass (z ∷ xs) j zero x y lt at_x at_y hx hy = absurd (omega arith)
  two_pass (z ∷ xs) zero (suc k) x y lt at_x at_y hx hy = let same : z ≡ x = cc in omega (arith, one_more z xs (ap p same ∙ hx), some_pass xs k y at_y hy)
  two_pass (z ∷ xs) (suc j) (suc k) x y lt at_x at_y hx hy = omega (arith, no_fewer z xs, two_pass xs j k x y (omega arith) at_x at_y hx hy)

module _ (t : PlainTask) (costs : List (Option ℕ)) (are : AreCosts t costs) where
  two_planned : count_by (λ cost. is_some cost) costs < 2 → (i j : GoalId) → i.0 < j.0 → HasPlan t i [] → HasPlan t j [] → ⊥
  two_planned few i j rise has_i has_j =
      let x = cost_there t costs are i has_i in
      let y = cost_there t costs are j has_j in
      let two = two_pass (λ cost. is_some cost) costs i.0 j.0 (Some x.0) (Some y.0) rise x.1 y.1 refl refl in
      omega (arith, length-filter (λ cost. is_some cost) costs, two)

  -- fewer than two goals have plans
  pub few_planned : count_by (λ cost. is_some cost) costs < 2 → IsWcd t [] None
  few_planned few i j differ has_i has_j = elim (cases_lt i.0 j.0) [
    | inl low ↦ two_planned few i j low has_i has_j
    | inr past ↦ elim (cases_eq i.0 j.0) [
      | inl same ↦ differ (same_goal i j same)
      | inr other ↦ two_planned few j i (omega arith) has_j has_i
    ]
  ]

  pub none_planned : IsDearest costs (length costs) None → IsWcd t [] None
  none_planned none i j differ has_i has_j =
      let x = cost_there t costs are i has_i in
      none i.0 x.0 (slice_get_within costs i.0 (Some x.0) x.1) x.1

-- more states within the cost of a goal are reached for the goal
pub reached_within : (t : PlainTask) (g : GoalId) (c limit : ℕ) → IsCost t g [] (Some c) → MoreThan limit (IsWithin t c) → MoreThan limit (IsReachedFor t g)
reached_within t g c limit cost more = record {
  items = more.items;
  many = more.many;
  differ = more.differ;
  have = λ k d within.
      let h = more.have k d within in
      record { path = h.0; leads = h.1; within = λ e other. omega (arith, same_cost t g e c other cost, h.2) };
}

-- what costs most bounds all costs
module _ (t : PlainTask) (costs : List (Option ℕ)) (are : AreCosts t costs) (most : GoalId × ℕ) (is : IsDearest costs (length costs) (Some most)) where
  pub dearest_costs : IsCost t most.0 [] (Some most.1)
  dearest_costs = are.right most.0.0 (Some most.1) is.0

  pub dearest_goal : most.0.0 < length t.goals
  dearest_goal = omega (arith, are.each_goal, slice_get_within costs most.0.0 (Some most.1) is.0)

  pub dearest_deep : (vs : List Visit) (depths : List ℕ) → IsLayered t most.1 vs depths → AreDeep t vs depths
  dearest_deep vs depths layered = record {
    steps = most.1;
    layered = layered;
    within = all_within t costs are most.1 (λ k c at. is.1 k c (slice_get_within costs k (Some c) at) at);
  }

-- the actions of an optimal plan are those of the task
optimal_in_range : (t : PlainTask) (g : GoalId) (plan : List ActionId) → IsOptimal t g [] plan → All (λ a. a.0 < length t.actions) plan
optimal_in_range t g plan is =
    let u = some_and (after t [] (start_of t) plan) (λ x. IsTrue (goal_holds t g x)) is.0 in
    all_actions t (start_of t) u.0 plan u.1

-- the actions and the goals of a right answer are those of the task
module _ (t : PlainTask) (w : PlainWitness) (is : IsWitness t [] w) where
  prefix_in_range : All (λ a. a.0 < length t.actions) w.prefix
  prefix_in_range =
      let plan : IsPlan t w.goals.0 [] (w.prefix ++ is.first_begins.0) = subst (λ p. IsPlan t w.goals.0 [] p) is.first_begins.1 is.first.0 in
      let r = reaches_parted t w.goals.0 (start_of t) w.prefix is.first_begins.0 plan in
      all_actions t (start_of t) r.0 w.prefix r.1

  pub witness_in_range : All (λ a. a.0 < length t.actions) w.prefix × All (λ a. a.0 < length t.actions) w.plans.0 × All (λ a. a.0 < length t.actions) w.plans.1
  witness_in_range = (prefix_in_range, optimal_in_range t w.goals.0 w.plans.0 is.first, optimal_in_range t w.goals.1 w.plans.1 is.second)

  pub witness_goals : (w.goals.0.0 < length t.goals) × (w.goals.1.0 < length t.goals)
  witness_goals = (goal_of_task t w.goals.0 w.plans.0 is.first.0, goal_of_task t w.goals.1 w.plans.1 is.second.0)

pub answer_in_range : (t : PlainTask) (o : Option PlainWitness) → IsRightWcd t [] o
    → IfSome o (λ w. All (λ a. a.0 < length t.actions) w.prefix × All (λ a. a.0 < length t.actions) w.plans.0 × All (λ a. a.0 < length t.actions) w.plans.1)
answer_in_range t None h = tt
answer_in_range t (Some w) h = witness_in_range t w h.0

pub answer_goals : (t : PlainTask) (o : Option PlainWitness) → IsRightWcd t [] o → IfSome o (λ w. (w.goals.0.0 < length t.goals) × (w.goals.1.0 < length t.goals))
answer_goals t None h = tt
answer_goals t (Some w) h = witness_goals t w h.0
