use Rattle.std.proofs.Common.{map}
use Rattle.ground_all.proofs.TupleNumbers.{IsFilled}
use Rattle.ground_all.proofs.tuples.fill.Given as goal

abbrev pub invariant-loop-at : goal.invariant-loop-at
invariant-loop-at l = IsFilled (map (λ place. place.items) l.places) l.number l.at l.rest l.objects
