use Rattle.std.specs.Prelude.{All}
use Rattle.design_certificate.specs.Ranges.{IsNamedOver}
use Rattle.planning_tests.proofs.trees.named_tables.Given as goal

abbrev pub invariant-loop-one : goal.invariant-loop-one
invariant-loop-one l = All (IsNamedOver l.fn.task) l.named.items
