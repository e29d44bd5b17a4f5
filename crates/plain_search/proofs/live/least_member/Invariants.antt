use Rattle.std.proofs.Common.{◌≡◌, ℕ, false, ◌<◌, ◌≤◌}
use Rattle.grd_base.specs.Bits.{members}
use Rattle.plain_search.proofs.live.least_member.Given as goal

abbrev pub invariant-loop-n : goal.invariant-loop-n
invariant-loop-n l = (k : ℕ) → l.fn.from ≤ k → k < l.n → members l.set k ≡ false
