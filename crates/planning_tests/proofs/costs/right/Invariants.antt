use Rattle.std.proofs.Common.{◌≡◌}
use Rattle.planning_tests.proofs.costs.right.Given as goal

abbrev pub invariant-loop-question : goal.invariant-loop-question
invariant-loop-question g l = (l.oracle.task ≡ l.initial.oracle.task) × (l.oracle.task.atoms ≡ l.below)
