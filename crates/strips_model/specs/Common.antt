-- Sequences that are common to two goals, and how long two goals can't be told apart: this project's
-- own wording, after Keren, Gal and Karpas 2014. Two goals with the same atoms are different goals.
use Rattle.std.specs.Prelude.{ℕ, List, length, Option}
use Rattle.grd_base.specs.declared.ids.ActionId.{ActionId}
use Rattle.grd_base.specs.declared.ids.GoalId.{GoalId}
use Rattle.strips_model.specs.Values.{PlainTask, PlainWitness}
use Rattle.strips_model.specs.Agents.{BeginsOptimalAmong, IsCommonAmong, HasPlanAmong, IsWcdAmong, KeepsCostsAmong, IsBestAmong}
use Rattle.strips_model.specs.Answers.{IsWitnessAmong, IsRightWcdAmong, IsRightAmong, AreRightAmong}
use Rattle.strips_model.specs.Plans.{IsPlan}

-- some optimal plan of the goal, without the removed actions, begins with the sequence
abbrev pub BeginsOptimal : PlainTask → GoalId → List ActionId → List ActionId → Type 0
BeginsOptimal t = BeginsOptimalAmong (IsPlan t)

-- the sequence is common to the two goals: they are different, and it begins an optimal plan of each
abbrev pub IsCommon : PlainTask → List ActionId → GoalId → GoalId → List ActionId → Type 0
IsCommon t = IsCommonAmong (IsPlan t)

-- the goal has a plan without the removed actions
abbrev pub HasPlan : PlainTask → GoalId → List ActionId → Type 0
HasPlan t = HasPlanAmong (IsPlan t)

-- the worst-case distinctiveness: some sequence of that length is common to two goals, and none that
-- is longer is; or none, where fewer than two goals have plans
abbrev pub IsWcd : PlainTask → List ActionId → Option ℕ → Type 0
IsWcd t = IsWcdAmong (IsPlan t)

-- each goal costs without the removed actions what it costs with all, or has no plan either way
abbrev pub KeepsCosts : PlainTask → List ActionId → Type 0
KeepsCosts t = KeepsCostsAmong (IsPlan t)

-- a best design for a budget
abbrev pub IsBest : PlainTask → ℕ → List ActionId → Type 0
IsBest t = IsBestAmong (IsPlan t)

-- two goals, the first below the second, with an optimal plan of each that begins with the sequence
abbrev pub IsWitness : PlainTask → List ActionId → PlainWitness → Type 0
IsWitness t = IsWitnessAmong (IsPlan t)

-- the witness is right: its sequence has the greatest length; or there is none, where fewer than two
-- goals have plans
abbrev pub IsRightWcd : PlainTask → List ActionId → Option PlainWitness → Type 0
IsRightWcd t = IsRightWcdAmong (IsPlan t)

-- what was found for a goal is right: an optimal plan, or none where there is no plan
abbrev pub IsRight : PlainTask → GoalId → List ActionId → Option (List ActionId) → Type 0
IsRight t = IsRightAmong (IsPlan t)

-- what was found is right for each goal, in the order of the goals
abbrev pub AreRight : PlainTask → List ActionId → List (Option (List ActionId)) → Type 0
AreRight t = AreRightAmong (IsPlan t) (length t.goals)
