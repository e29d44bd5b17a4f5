use Rattle.std.proofs.Common.{◌≡◌, length, map, take}
use Rattle.std.specs.Prelude.{Some, slice_get}
use Rattle.ground_all.specs.Tuples.{tuples}
use Rattle.ground_all.proofs.tuples.number_of.Given as goal

abbrev pub invariant-loop-place : goal.invariant-loop-place
invariant-loop-place l =
    slice_get (tuples (take (length l.yielded) (map (λ place. place.items) l.places))) l.number ≡ Some (take (length l.yielded) l.objects)
