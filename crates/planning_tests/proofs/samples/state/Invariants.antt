use Rattle.std.proofs.Common.{◌≡◌, ℕ, ◌≤◌, false}
use Rattle.grd_base.specs.Bits.{members}
use Rattle.planning_tests.proofs.samples.state.Given as goal

abbrev pub invariant-loop-n : goal.invariant-loop-n
invariant-loop-n l = (m : ℕ) → l.below ≤ m → members l.s m ≡ false
