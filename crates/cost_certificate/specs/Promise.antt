-- The promise: what the clauses of public calls cite of this crate, in the order in which to read it.
-- What is left out serves private contracts alone.

-- What contracts see of a row of a table.
pub use Rattle.cost_certificate.specs.Rows.{PlainRow}
-- Valid tables.
pub use Rattle.cost_certificate.specs.Tables.{IsAtMost, HasRow, SuccessorsHave, StepsHold, HasEmptyCut}
pub use Rattle.cost_certificate.specs.Tables.{CutsSuffice, SetsHold, RowsHold, IsSoundRow, IsValidTable}
pub use Rattle.cost_certificate.specs.Tables.{AreSets, IsRowOver, Refutes, with_state, states_by_steps}
-- The first fault of a table.
pub use Rattle.cost_certificate.specs.Faults.{IsFirstBad, FailsSet, IsFirstBadSet, FailsSets, FailsWhy}
pub use Rattle.cost_certificate.specs.Faults.{FailsRow, IsFaultOf, IsTableFault}
-- What shows the cost of a goal.
pub use Rattle.cost_certificate.specs.Found.{PlainCost, IsShown, HasNothingElse, ShowsCost}
-- Verdicts on goals, and what shows them.
pub use Rattle.cost_certificate.specs.Verdicts.{PlainVerdict, plain_verdict, ShowsNo, IsRightVerdict}
