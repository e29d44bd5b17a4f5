-- What contracts see of an answer about a task with observations and a budget, and when it is right.
use Rattle.std.specs.Prelude.{◌≡◌, ℕ, ◌<◌, List, [], length, Option, Some, None, slice_get}
use Rattle.grd_base.specs.declared.ids.ActionId.{ActionId}
use Rattle.grd_base.specs.declared.ids.GoalId.{GoalId}
use Rattle.strips_model.specs.Values.{PlainWitness}
use Rattle.strips_model.specs.Agents.{Plans, IsCostAmong, IsOptimalAmong, Embeds, IsRecognisedAmong, BeginsWith, IsWcdAmong, IsBestAmong}

-- two goals, the first below the second, with an optimal plan of each that begins with the sequence
pub record IsWitnessAmong (plans : Plans) (removed : List ActionId) (w : PlainWitness) : Type 0 where
  pub rise : w.goals.0.0 < w.goals.1.0
  pub first : IsOptimalAmong plans w.goals.0 removed w.plans.0
  pub second : IsOptimalAmong plans w.goals.1 removed w.plans.1
  pub first_begins : BeginsWith w.plans.0 w.prefix
  pub second_begins : BeginsWith w.plans.1 w.prefix

-- the witness is right: its sequence has the greatest length; or there is none, where fewer than two
-- goals have plans
abbrev pub IsRightWcdAmong : Plans → List ActionId → Option PlainWitness → Type 0
IsRightWcdAmong plans removed None = IsWcdAmong plans removed None
IsRightWcdAmong plans removed (Some w) = IsWitnessAmong plans removed w × IsWcdAmong plans removed (Some (length w.prefix))

-- what was found for a goal is right: an optimal plan, or none where there is no plan
abbrev pub IsRightAmong : Plans → GoalId → List ActionId → Option (List ActionId) → Type 0
IsRightAmong plans g removed None = IsCostAmong plans g removed None
IsRightAmong plans g removed (Some plan) = IsOptimalAmong plans g removed plan

-- what was found is right for each of so many goals, in their order
pub record AreRightAmong (plans : Plans) (goals : ℕ) (removed : List ActionId) (found : List (Option (List ActionId))) : Type 0 where
  pub each_goal : length found ≡ goals
  pub right : (k : ℕ) (x : Option (List ActionId)) → slice_get found k ≡ Some x → IsRightAmong plans (record { 0 = k }) removed x

-- what is answered of a goal: its cost and, where it is recognised, a plan
pub record PlainGoalAnswer : Type 0 where
  pub cost : Option ℕ
  pub yes : Option (List ActionId)

-- the actions to remove, and the worst-case distinctiveness without them
pub record PlainDesign : Type 0 where
  pub removed : List ActionId
  pub wcd : Option ℕ

-- an answer: of each goal in order, of two goals that can't be told apart, and the design
pub record PlainAnswer : Type 0 where
  pub goals : List PlainGoalAnswer
  pub wcd : Option PlainWitness
  pub design : PlainDesign

-- a goal is answered with a plan that is optimal and embeds the observations; or with none, where it is not
-- recognised
abbrev pub IsRightYes : Plans → List ActionId → GoalId → Option (List ActionId) → Type 0
IsRightYes plans os g (Some plan) = IsOptimalAmong plans g [] plan × Embeds os plan
IsRightYes plans os g None = IsRecognisedAmong plans g os → ⊥

-- what is answered of a goal is right
pub record IsRightGoal (plans : Plans) (os : List ActionId) (g : GoalId) (a : PlainGoalAnswer) : Type 0 where
  pub cost : IsCostAmong plans g [] a.cost
  pub yes : IsRightYes plans os g a.yes

-- the answer about so many goals is right: of each goal, with a longest common sequence, and with a best
-- design for the budget and its worst-case distinctiveness
pub record IsRightAnswer (plans : Plans) (goals : ℕ) (os : List ActionId) (budget : ℕ) (a : PlainAnswer) : Type 0 where
  pub each_goal : length a.goals ≡ goals
  pub right : (k : ℕ) (x : PlainGoalAnswer) → slice_get a.goals k ≡ Some x → IsRightGoal plans os (record { 0 = k }) x
  pub wcd : IsRightWcdAmong plans [] a.wcd
  pub best : IsBestAmong plans budget a.design.removed
  pub left : IsWcdAmong plans a.design.removed a.design.wcd
