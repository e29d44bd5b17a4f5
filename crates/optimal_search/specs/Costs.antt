-- What `costs` answers for a goal.
use Rattle.std.specs.Prelude.{ℕ, ◌≤◌, List, [], length, All, IfSome}
use Rattle.grd_base.specs.declared.ids.GoalId.{GoalId}
use Rattle.grd_base.specs.Counts.{AllDistinct}
use Rattle.strips_model.specs.Values.{PlainTask}
use Rattle.strips_model.specs.Plans.{IsCost}
use Rattle.strips_model.specs.Reached.{IsNear}
use Rattle.cost_certificate.specs.Rows.{PlainRow}
use Rattle.cost_certificate.specs.Tables.{IsRowOver, states_by_steps}
use Rattle.cost_certificate.specs.Found.{PlainCost, HasNothingElse, ShowsCost}

-- the rows by steps have states that are near for the goal, no two the same and at most `limit` of them
pub record AreFewNear (t : PlainTask) (g : GoalId) (limit : ℕ) (rows : List PlainRow) : Type 0 where
  pub near : All (IsNear t g) (states_by_steps rows)
  pub distinct : AllDistinct (states_by_steps rows)
  pub few : length (states_by_steps rows) ≤ limit

-- what was found of a goal is right: the cost is its cost, at most the limit, its plan and its table
-- show it with nothing else beside them, and the table keeps few states and names atoms of the task
pub record IsRightCost (t : PlainTask) (g : GoalId) (limit : ℕ) (found : PlainCost) : Type 0 where
  pub cost : IsCost t g [] found.cost
  pub within_limit : IfSome found.cost (λ c. c ≤ limit)
  pub shown : ShowsCost t g [] found
  pub alone : HasNothingElse found.plan found.table found.cost
  pub kept : AreFewNear t g limit found.table
  pub over : All (IsRowOver t) found.table
