use Rattle.std.proofs.Common.{◌≤◌, length}
use Rattle.planning_tests.proofs.numbering.insert.Given as goal

abbrev pub invariant-loop-n : goal.invariant-loop-n
invariant-loop-n g l = length l.store ≤ l.n-index
