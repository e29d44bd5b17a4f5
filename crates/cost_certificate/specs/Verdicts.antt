-- Verdicts on goals, and what shows them.
use Rattle.std.specs.Prelude.{◌≡◌, ℕ, List, [], Option, Some, None, All}
use Rattle.grd_base.specs.declared.ids.ActionId.{ActionId}
use Rattle.grd_base.specs.declared.ids.GoalId.{GoalId}
use Rattle.grd_base.specs.declared.limits.Bound.TheVariants.{Steps}
use Rattle.strips_model.specs.Values.{PlainTask}
use Rattle.strips_model.specs.Agents.{Embeds}
use Rattle.strips_model.specs.Plans.{start_of, IsOptimal, IsRecognised}
use Rattle.strips_model.specs.Observed.{observed_task}
use Rattle.cost_certificate.specs.declared.found.Verdict.{Verdict}
use Rattle.cost_certificate.specs.declared.found.Verdict.TheVariants.{Yes, No}
use Rattle.cost_certificate.specs.Rows.{PlainRow}
use Rattle.cost_certificate.specs.Tables.{HasRow, IsRowOver, IsValidTable}

-- a verdict: a plan that embeds the observations, or a table of the observed task
pub data PlainVerdict : Type 0 where
  recognised : List ActionId → PlainVerdict
  refuted : List PlainRow → PlainVerdict

-- what contracts see of a verdict
abbrev pub plain_verdict : Verdict → PlainVerdict
plain_verdict (Yes plan) = recognised plan.items
plain_verdict (No table) = refuted table

-- a table of the observed task which shows that its plans are longer than the cost; without a cost it is
-- empty
abbrev pub ShowsNo : PlainTask → GoalId → List PlainRow → Option ℕ → Type 0
ShowsNo made g table (Some c) = IsValidTable made g [] table × HasRow table (start_of made) (Steps c) × All (IsRowOver made) table
ShowsNo made g table None = table ≡ []

-- a verdict is right for a goal of this cost: it is recognised with an optimal plan that embeds the
-- observations, or it is not, as the table shows
abbrev pub IsRightVerdict : PlainTask → List ActionId → GoalId → Option ℕ → PlainVerdict → Type 0
IsRightVerdict t os g cost (recognised plan) = IsOptimal t g [] plan × Embeds os plan
IsRightVerdict t os g cost (refuted table) = (IsRecognised t g os → ⊥) × ShowsNo (observed_task t os) g table cost
