-- Agents with slack, which may take some actions more than a goal costs (this project's own wording).
use Rattle.std.specs.Prelude.{◌≢◌, ℕ, ◌+◌, ◌≤◌, List, [], length, Option, Some}
use Rattle.grd_base.specs.declared.ids.ActionId.{ActionId}
use Rattle.grd_base.specs.declared.ids.GoalId.{GoalId}
use Rattle.strips_model.specs.Agents.{Plans, IsCostAmong, BeginsWith, IsGreatestAmong}

-- the sequence begins a plan of the goal that has at most so many actions more than the goal costs
pub record BeginsSlackAmong (plans : Plans) (slack : ℕ) (g : GoalId) (q : List ActionId) : Type 0 where
  pub plan : List ActionId
  pub is_plan : plans g [] plan
  pub cost : ℕ
  pub is_cost : IsCostAmong plans g [] (Some cost)
  pub short : length plan ≤ cost + slack
  pub begins : BeginsWith plan q

-- the sequence begins such a plan of each of two different goals
pub record IsSlackCommonAmong (plans : Plans) (slack : ℕ) (i j : GoalId) (q : List ActionId) : Type 0 where
  pub different : i ≢ j
  pub first : BeginsSlackAmong plans slack i q
  pub second : BeginsSlackAmong plans slack j q

-- the worst-case distinctiveness of agents with slack
abbrev pub IsSlackWcdAmong : Plans → ℕ → Option ℕ → Type 0
IsSlackWcdAmong plans slack = IsGreatestAmong plans [] (IsSlackCommonAmong plans slack)
