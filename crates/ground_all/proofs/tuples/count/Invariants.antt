use Rattle.std.proofs.Common.{◌≡◌, length, map, take}
use Rattle.ground_all.specs.Tuples.{tuples}
use Rattle.ground_all.proofs.tuples.count.Given as goal

abbrev pub invariant-loop-place : goal.invariant-loop-place
invariant-loop-place l = l.count ≡ length (tuples (take l.place-index (map (λ place. place.items) l.places)))
