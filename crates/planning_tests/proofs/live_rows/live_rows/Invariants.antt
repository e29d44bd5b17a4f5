use Rattle.std.specs.Prelude.{All}
use Rattle.design_certificate.specs.Ranges.{IsLiveRowOver}
use Rattle.planning_tests.proofs.live_rows.live_rows.Given as goal

abbrev pub invariant-loop-one : goal.invariant-loop-one
invariant-loop-one l = All (IsLiveRowOver l.fn.task) l.rows.items
