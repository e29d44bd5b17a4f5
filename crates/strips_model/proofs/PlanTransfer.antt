-- Two relations of the same plans: what is asked about agents has the same answers for both.
use Rattle.std.proofs.Common.{◌↔◌, ℕ, List, [], length, Option, Some, None}
use Rattle.grd_base.specs.declared.ids.ActionId.{ActionId}
use Rattle.grd_base.specs.declared.ids.GoalId.{GoalId}
use Rattle.strips_model.specs.Values.{PlainWitness}
use Rattle.strips_model.specs.Agents.{Plans, IsCostAmong, IsOptimalAmong, IsRecognisedAmong, BeginsOptimalAmong, IsCommonAmong, HasPlanAmong, IsWcdAmong, KeepsCostsAmong, IsBestAmong}
use Rattle.strips_model.specs.Answers.{IsWitnessAmong, IsRightWcdAmong, IsRightAmong, AreRightAmong, PlainAnswer, IsRightYes, IsRightGoal, IsRightAnswer}

-- the same sequences are plans
abbrev pub Same : Plans → Plans → Type 0
Same P Q = (g : GoalId) (removed p : List ActionId) → P g removed p ↔ Q g removed p

pub turned : (P Q : Plans) → Same P Q → Same Q P
turned P Q same g removed p = ((same g removed p).1, (same g removed p).0)

pub cost_same : (P Q : Plans) → Same P Q → (g : GoalId) (removed : List ActionId) (c : Option ℕ) → IsCostAmong P g removed c → IsCostAmong Q g removed c
cost_same P Q same g removed None none = λ p plan. none p ((same g removed p).1 plan)
cost_same P Q same g removed (Some n) ((p, long, plan), low) = ((p, long, (same g removed p).0 plan), λ q other. low q ((same g removed q).1 other))

pub optimal_same : (P Q : Plans) → Same P Q → (g : GoalId) (removed p : List ActionId) → IsOptimalAmong P g removed p → IsOptimalAmong Q g removed p
optimal_same P Q same g removed p (plan, cost) = ((same g removed p).0 plan, cost_same P Q same g removed (Some (length p)) cost)

pub recognised_same : (P Q : Plans) → Same P Q → (g : GoalId) (os : List ActionId) → IsRecognisedAmong P g os → IsRecognisedAmong Q g os
recognised_same P Q same g os is = record { plan = is.plan; optimal = optimal_same P Q same g [] is.plan is.optimal; embeds = is.embeds }

begins_same : (P Q : Plans) → Same P Q → (g : GoalId) (removed q : List ActionId) → BeginsOptimalAmong P g removed q → BeginsOptimalAmong Q g removed q
begins_same P Q same g removed q (plan, optimal, begins) = (plan, optimal_same P Q same g removed plan optimal, begins)

pub common_same : (P Q : Plans) → Same P Q → (removed : List ActionId) (i j : GoalId) (q : List ActionId) → IsCommonAmong P removed i j q → IsCommonAmong Q removed i j q
common_same P Q same removed i j q is = record {
  different = is.different;
  first = begins_same P Q same i removed q is.first;
  second = begins_same P Q same j removed q is.second;
}

has_plan_same : (P Q : Plans) → Same P Q → (g : GoalId) (removed : List ActionId) → HasPlanAmong P g removed → HasPlanAmong Q g removed
has_plan_same P Q same g removed (p, plan) = (p, (same g removed p).0 plan)

pub wcd_same : (P Q : Plans) → Same P Q → (removed : List ActionId) (w : Option ℕ) → IsWcdAmong P removed w → IsWcdAmong Q removed w
wcd_same P Q same removed None few = λ i j different first second.
    few i j different (has_plan_same Q P (turned P Q same) i removed first) (has_plan_same Q P (turned P Q same) j removed second)
wcd_same P Q same removed (Some n) ((i, j, q, long, common), most) = (
  (i, j, q, long, common_same P Q same removed i j q common),
  λ i2 j2 q2 other. most i2 j2 q2 (common_same Q P (turned P Q same) removed i2 j2 q2 other),
)

pub witness_same : (P Q : Plans) → Same P Q → (removed : List ActionId) (w : PlainWitness) → IsWitnessAmong P removed w → IsWitnessAmong Q removed w
witness_same P Q same removed w is = record {
  rise = is.rise;
  first = optimal_same P Q same w.goals.0 removed w.plans.0 is.first;
  second = optimal_same P Q same w.goals.1 removed w.plans.1 is.second;
  first_begins = is.first_begins;
  second_begins = is.second_begins;
}

pub right_wcd_same : (P Q : Plans) → Same P Q → (removed : List ActionId) (w : Option PlainWitness) → IsRightWcdAmong P removed w → IsRightWcdAmong Q removed w
right_wcd_same P Q same removed None is = wcd_same P Q same removed None is
right_wcd_same P Q same removed (Some w) (is, long) = (witness_same P Q same removed w is, wcd_same P Q same removed (Some (length w.prefix)) long)

pub keeps_same : (P Q : Plans) → Same P Q → (removed : List ActionId) → KeepsCostsAmong P removed → KeepsCostsAmong Q removed
keeps_same P Q same removed keeps g c cost = cost_same P Q same g removed c (keeps g c (cost_same Q P (turned P Q same) g [] c cost))

pub best_same : (P Q : Plans) → Same P Q → (budget : ℕ) (removed : List ActionId) → IsBestAmong P budget removed → IsBestAmong Q budget removed
best_same P Q same budget removed is = record {
  few = is.few;
  keeps = keeps_same P Q same removed is.keeps;
  least = λ other few keeps w v here there.
      is.least other few (keeps_same Q P (turned P Q same) other keeps) w v
      (wcd_same Q P (turned P Q same) removed (Some w) here) (wcd_same Q P (turned P Q same) other (Some v) there);
  none = λ none. is.none (wcd_same Q P (turned P Q same) [] None none);
}

right_same : (P Q : Plans) → Same P Q → (g : GoalId) (removed : List ActionId) (x : Option (List ActionId)) → IsRightAmong P g removed x → IsRightAmong Q g removed x
right_same P Q same g removed None is = cost_same P Q same g removed None is
right_same P Q same g removed (Some plan) is = optimal_same P Q same g removed plan is

pub all_right_same : (P Q : Plans) → Same P Q → (goals : ℕ) (removed : List ActionId) (found : List (Option (List ActionId)))
    → AreRightAmong P goals removed found → AreRightAmong Q goals removed found
all_right_same P Q same goals removed found are = record {
  each_goal = are.each_goal;
  right = λ k x at. right_same P Q same (record { 0 = k }) removed x (are.right k x at);
}

yes_same : (P Q : Plans) → Same P Q → (os : List ActionId) (g : GoalId) (x : Option (List ActionId)) → IsRightYes P os g x → IsRightYes Q os g x
yes_same P Q same os g None never = λ is. never (recognised_same Q P (turned P Q same) g os is)
yes_same P Q same os g (Some plan) (optimal, embeds) = (optimal_same P Q same g [] plan optimal, embeds)

-- a whole answer is right for both
pub answer_same : (P Q : Plans) → Same P Q → (goals : ℕ) (os : List ActionId) (budget : ℕ) (a : PlainAnswer)
    → IsRightAnswer P goals os budget a → IsRightAnswer Q goals os budget a
answer_same P Q same goals os budget a is = record {
  each_goal = is.each_goal;
  right = λ k x at. let right : IsRightGoal P os (record { 0 = k }) x = is.right k x at in record {
    cost = cost_same P Q same (record { 0 = k }) [] x.cost right.cost;
    yes = yes_same P Q same os (record { 0 = k }) x.yes right.yes;
  };
  wcd = right_wcd_same P Q same [] a.wcd is.wcd;
  best = best_same P Q same budget a.design.removed is.best;
  left = wcd_same P Q same a.design.removed a.design.wcd is.left;
}
