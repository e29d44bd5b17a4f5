use Rattle.std.proofs.Common.{IfSome, Contains}
use Rattle.cut_bounds.proofs.costs.dearest.Given as goal

abbrev pub invariant-loop-a : goal.invariant-loop-a
invariant-loop-a l = IfSome l.found (λ a. Contains l.fn.atoms a)
