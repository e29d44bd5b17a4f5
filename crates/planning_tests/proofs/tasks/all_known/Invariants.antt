use Rattle.std.proofs.Common.{All, ◌<◌, length}
use Rattle.planning_tests.proofs.tasks.all_known.Given as goal

abbrev pub invariant-loop-a : goal.invariant-loop-a
invariant-loop-a l = All (λ a. a.0 < length l.task.actions) l.plan.items
