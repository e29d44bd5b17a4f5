-- The first fault of live rows: the goals of the tables, then each table, then what each row has for
-- itself, then how each row is followed, and then whether some row begins.
use Rattle.std.specs.Prelude.{◌≡◌, ◌⊎◌, ℕ, ◌<◌, ◌≤◌, List, map, Option, Some, All, Any}
use Rattle.grd_base.specs.declared.ids.ActionId.{ActionId}
use Rattle.strips_model.specs.Values.{PlainTask}
use Rattle.strips_model.specs.Plans.{State, set_of, step_without}
use Rattle.cost_certificate.specs.declared.kinds.CheckKind.{CheckKind}
use Rattle.cost_certificate.specs.declared.kinds.CheckKind.TheVariants.{BadLine, BadNumber, LiveSuccessor, LiveTooDeep, ClaimMissing}
use Rattle.cost_certificate.specs.Tables.{IsValidTable}
use Rattle.cost_certificate.specs.Faults.{IsFirstBad, IsFaultOf}
use Rattle.design_certificate.specs.declared.live.LiveFault.{LiveFault}
use Rattle.design_certificate.specs.Live.{PlainLiveRow, PlainLiveRows, GoalTable, given_from, HasNumber, IsFollowed, Begins}

module _ (t : PlainTask) (costs : List (Option ℕ)) (removed : List ActionId) (len : ℕ) (live : PlainLiveRows) where
  -- one table for each goal to which a number is given, in order
  abbrev pub HaveGoals : Type 0
  HaveGoals = map (λ x. x.0) live.tables ≡ given_from 0 costs

  abbrev pub IsGoalTable : GoalTable → Type 0
  IsGoalTable x = IsValidTable t x.0 removed x.1

  -- a row is not too deep, and its goals have numbers
  abbrev pub HasNumbers : PlainLiveRow → Type 0
  HasNumbers row = (row.depth ≤ len) × All (HasNumber costs) row.goals

  -- a row is followed at each successor
  unfoldable pub IsFollowedOn : PlainLiveRow → Type 0
  IsFollowedOn row = (a : ActionId) (u : State) → step_without t removed (set_of row.state) a ≡ Some u → IsFollowed costs len live row u

  -- a row that is not followed: its next row is missing, or would be too deep
  abbrev pub IsLeft : CheckKind → PlainLiveRow → Type 0
  IsLeft kind r = (IsFollowedOn r → ⊥) × (((kind ≡ LiveSuccessor) × (r.depth < len)) ⊎ ((kind ≡ LiveTooDeep) × (len ≤ r.depth)))

  module _ (kind : CheckKind) (row : ℕ) where
    -- no row begins
    abbrev pub NoneBegins : Type 0
    NoneBegins = (kind ≡ ClaimMissing) × (row ≡ 0) × (Any (Begins t costs) live.rows → ⊥)

    -- a row is the first that is not followed; or all are, and none begins
    abbrev pub RowsFail : Type 0
    RowsFail = IsFirstBad IsFollowedOn (IsLeft kind) live.rows row ⊎ (All IsFollowedOn live.rows × NoneBegins)

    -- a row is the first that has a number out of range; or none has, and the rows fail
    abbrev pub NumbersFail : Type 0
    NumbersFail = ((kind ≡ BadNumber) × IsFirstBad HasNumbers (λ r. HasNumbers r → ⊥) live.rows row) ⊎ (All HasNumbers live.rows × RowsFail)

    -- a table is the first that fails, and fails so; or all are valid, and the numbers fail
    abbrev pub TablesFail : Type 0
    TablesFail =
        ((place : ℕ) × IsFirstBad IsGoalTable (λ x. (set : ℕ) × IsFaultOf t x.0 removed x.1 kind row set) live.tables place)
        ⊎ (All IsGoalTable live.tables × NumbersFail)

    -- the kind and the place of the first fault
    abbrev pub FailsLive : Type 0
    FailsLive = ((kind ≡ BadLine) × (row ≡ 0) × (HaveGoals → ⊥)) ⊎ (HaveGoals × TablesFail)

  -- the fault is the first of the live rows
  abbrev pub IsLiveFault : LiveFault → Type 0
  IsLiveFault fault = FailsLive fault.kind fault.row
