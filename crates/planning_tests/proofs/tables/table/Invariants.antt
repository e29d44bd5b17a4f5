use Rattle.std.proofs.Common.{All}
use Rattle.cost_certificate.specs.Tables.{IsRowOver}
use Rattle.planning_tests.proofs.tables.table.Given as goal

abbrev pub invariant-loop-one : goal.invariant-loop-one
invariant-loop-one l = All (IsRowOver l.task) l.rows.items
