use Rattle.std.proofs.Common.{◌≡◌, ◌<◌, length, All}
use Rattle.cut_bounds.proofs.costs.met.Given as goal

abbrev pub invariant-loop-a : goal.invariant-loop-a
invariant-loop-a l = (length l.unmet ≡ length l.initial.unmet) × All (λ a. a.0 < length l.initial.unmet) l.found.items
