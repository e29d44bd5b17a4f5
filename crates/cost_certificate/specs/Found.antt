-- What shows the cost of a goal.
use Rattle.std.specs.Prelude.{◌≡◌, ℕ, zero, suc, List, [], length, Option, Some, None}
use Rattle.grd_base.specs.declared.ids.ActionId.{ActionId}
use Rattle.grd_base.specs.declared.ids.GoalId.{GoalId}
use Rattle.grd_base.specs.declared.limits.Bound.TheVariants.{Steps, Never}
use Rattle.strips_model.specs.Values.{PlainTask}
use Rattle.strips_model.specs.Plans.{start_of, IsPlan}
use Rattle.cost_certificate.specs.Rows.{PlainRow}
use Rattle.cost_certificate.specs.Tables.{HasRow, IsValidTable}

-- a cost, or none, with a plan and a table
pub record PlainCost : Type 0 where
  pub cost : Option ℕ
  pub plan : List ActionId
  pub table : List PlainRow

-- a cost is shown by a plan of that length and, where it is not 0, by a valid table with a row of one
-- step less for the start; that there is no plan is shown by one with the row `Never` for the start
abbrev pub IsShown : PlainTask → GoalId → List ActionId → List ActionId → List PlainRow → Option ℕ → Type 0
IsShown t g removed plan table (Some zero) = IsPlan t g removed plan × (length plan ≡ 0)
IsShown t g removed plan table (Some (suc c)) =
    IsPlan t g removed plan × (length plan ≡ suc c) × IsValidTable t g removed table × HasRow table (start_of t) (Steps c)
IsShown t g removed plan table None = IsValidTable t g removed table × HasRow table (start_of t) Never

-- what the cost does not need is empty: the table of a cost of 0, and the plan where there is none
abbrev pub HasNothingElse : List ActionId → List PlainRow → Option ℕ → Type 0
HasNothingElse plan table (Some zero) = table ≡ []
HasNothingElse plan table (Some (suc c)) = Unit {0}
HasNothingElse plan table None = plan ≡ []

-- a cost that its plan and its table show
abbrev pub ShowsCost : PlainTask → GoalId → List ActionId → PlainCost → Type 0
ShowsCost t g removed found = IsShown t g removed found.plan found.table found.cost
