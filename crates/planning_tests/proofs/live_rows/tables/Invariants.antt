use Rattle.std.specs.Prelude.{All}
use Rattle.design_certificate.specs.Ranges.{IsTableOver}
use Rattle.planning_tests.proofs.live_rows.tables.Given as goal

abbrev pub invariant-loop-one : goal.invariant-loop-one
invariant-loop-one l = All (IsTableOver l.fn.task) l.tables.items
