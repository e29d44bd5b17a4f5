-- Costs, and sets that keep them.
use Rattle.std.proofs.Common.{◌≡◌, ℕ, ◌<◌, ◌≤◌, false, List, [], length, refl, sym, ◌∙◌, ap, inl, inr, arith, Option, Some, None}
use Rattle.std.specs.Prelude.{IsTrue, slice_get}
use Rattle.std.specs.Option.{option_map_or}
use Rattle.std.proofs.lemmas.Bool.{false≢true, cases_lt}
use Rattle.std.proofs.lemmas.Option.{slice_get_past, slice_get-get_or}
use Rattle.std.proofs.Math.ListN.{get_or}
use Rattle.grd_base.specs.declared.ids.ActionId.{ActionId}
use Rattle.grd_base.specs.declared.ids.GoalId.{GoalId}
use Rattle.strips_model.specs.Values.{PlainTask, PlainWitness}
use Rattle.strips_model.specs.Plans.{State, after, start_of, goal_holds, satisfies, Reaches, IsPlan, IsCost}
use Rattle.strips_model.specs.Common.{IsCommon, IsWcd, IsWitness, KeepsCosts}
use Rattle.design_certificate.specs.Designs.{AreCosts, Gives, HidesFor}
use Rattle.design_certificate.specs.Witnesses.{IsShownWitness}
use Rattle.design_certificate.proofs.SequenceLemmas.{some_and, reaches_other, same_cost}

-- only a goal of the task has a plan
pub goal_of_task : (t : PlainTask) (g : GoalId) (removed : List ActionId) (s : State) (p : List ActionId) → Reaches t g removed s p → g.0 < length t.goals
goal_of_task t g removed s p reaches = elim (cases_lt g.0 (length t.goals)) [
  | inl low ↦ low
  | inr past ↦ absurd (
      let u = some_and (after t removed s p) (λ x. IsTrue (goal_holds t g x)) reaches in
      let never : goal_holds t g u.0 ≡ false = ap (λ o. option_map_or (λ goal. satisfies goal u.0) o false) (slice_get_past t.goals g.0 past) in
      false≢true (sym never ∙ u.2))
]

-- a plan without some actions is a plan
pub plan_with_all : (t : PlainTask) (g : GoalId) (removed : List ActionId) (p : List ActionId) → IsPlan t g removed p → IsPlan t g [] p
plan_with_all t g removed p plan = reaches_other t removed [] g (start_of t) p plan (λ a member. refl)

-- the costs are those of sets that keep them
pub costs_kept : (t : PlainTask) (removed : List ActionId) (costs : List (Option ℕ)) → AreCosts t [] costs → KeepsCosts t removed → AreCosts t removed costs
costs_kept t removed costs are keeps = record { each_goal = are.each_goal; right = λ k c at. keeps (record { 0 = k }) c (are.right k c at) }

module _ (t : PlainTask) (removed : List ActionId) (costs : List (Option ℕ)) (are : AreCosts t removed costs) where
  -- a goal with a cost has it in the list
  pub cost_given : (g : GoalId) (n : ℕ) → IsCost t g removed (Some n) → Gives costs g n
  cost_given g n cost =
      let low : g.0 < length t.goals = goal_of_task t g removed (start_of t) cost.0.0 cost.0.2 in
      let at : g.0 < length costs = omega (arith, low, are.each_goal) in
      some (get_or costs g.0 None) (slice_get-get_or costs g.0 None at)
    where
      some : (x : Option ℕ) → slice_get costs g.0 ≡ Some x → slice_get costs g.0 ≡ Some (Some n)
      some None e = absurd (are.right g.0 None e cost.0.0 cost.0.2)
      some (Some c) e = e ∙ ap (λ m. Some (Some m)) (same_cost t g removed c n (are.right g.0 (Some c) e) cost)

  -- and what the list gives is the cost
  pub given_cost : (g : GoalId) (n : ℕ) → Gives costs g n → IsCost t g removed (Some n)
  given_cost g n gives = are.right g.0 (Some n) gives

  -- a shown witness is a witness
  pub shown_witness : (w : PlainWitness) → IsShownWitness t costs removed w → IsWitness t removed w
  shown_witness w shown = record {
    rise = shown.rise;
    first = (shown.first.0, given_cost w.goals.0 (length w.plans.0) shown.first.1);
    second = (shown.second.0, given_cost w.goals.1 (length w.plans.1) shown.second.1);
    first_begins = shown.first_begins;
    second_begins = shown.second_begins;
  }

-- a witness shows a common sequence
pub witness_common : (t : PlainTask) (removed : List ActionId) (w : PlainWitness) → IsWitness t removed w → IsCommon t removed w.goals.0 w.goals.1 w.prefix
witness_common t removed w is = record {
  different = λ e. let same : w.goals.0.0 ≡ w.goals.1.0 = ap (λ (g : GoalId). g.0) e in omega (arith, same, is.rise);
  first = (w.plans.0, is.first, is.first_begins);
  second = (w.plans.1, is.second, is.second_begins);
}

-- plans as long as the costs show that a set keeps them
pub plans_keep : (t : PlainTask) (removed : List ActionId) (costs : List (Option ℕ)) → AreCosts t [] costs
    → ((g : GoalId) (c : ℕ) → Gives costs g c → (p : List ActionId) × IsPlan t g removed p × (length p ≡ c)) → KeepsCosts t removed
plans_keep t removed costs are plans g None cost = λ p plan. cost p (plan_with_all t g removed p plan)
plans_keep t removed costs are plans g (Some n) cost =
    let p = plans g n (cost_given t [] costs are g n cost) in
    ((p.0, p.2, p.1), λ q plan. cost.1 q (plan_with_all t g removed q plan))

-- no actions keep the costs
pub none_keeps : (t : PlainTask) → KeepsCosts t []
none_keeps t g c cost = cost

-- where a long sequence is common, the worst-case distinctiveness is a number, and no smaller
pub hides_long : (t : PlainTask) (removed : List ActionId) (n v : ℕ) → HidesFor t removed n → IsWcd t removed (Some v) → n ≤ v
hides_long t removed n v (i, j, q, long, common) wcd = let most = wcd.1 i j q common in omega (arith, long, most)

pub hides_some : (t : PlainTask) (removed : List ActionId) (n : ℕ) → HidesFor t removed n → IsWcd t removed None → ⊥
hides_some t removed n (i, j, q, long, common) none = none i j common.different (common.first.0, common.first.1.0) (common.second.0, common.second.1.0)

-- there is one such number
pub wcd_hides : (t : PlainTask) (removed : List ActionId) (v : ℕ) → IsWcd t removed (Some v) → HidesFor t removed v
wcd_hides t removed v wcd = (wcd.0.0, wcd.0.1, wcd.0.2, omega (arith, wcd.0.3), wcd.0.4)

pub same_wcd : (t : PlainTask) (removed : List ActionId) (w v : ℕ) → IsWcd t removed (Some w) → IsWcd t removed (Some v) → w ≡ v
same_wcd t removed w v h k =
    let low = hides_long t removed w v (wcd_hides t removed w h) k in
    let high = hides_long t removed v w (wcd_hides t removed v k) h in
    omega (arith, low, high)

-- a goal with a plan has a number
pub plan_given : (t : PlainTask) (costs : List (Option ℕ)) → AreCosts t [] costs → (g : GoalId) (p : List ActionId) → IsPlan t g [] p → (c : ℕ) × Gives costs g c
plan_given t costs are g p plan =
    let low : g.0 < length t.goals = goal_of_task t g [] (start_of t) p plan in
    let at : g.0 < length costs = omega (arith, low, are.each_goal) in
    some (get_or costs g.0 None) (slice_get-get_or costs g.0 None at)
  where
    some : (x : Option ℕ) → slice_get costs g.0 ≡ Some x → (c : ℕ) × Gives costs g c
    some None e = absurd (are.right g.0 None e p plan)
    some (Some c) e = (c, e)
