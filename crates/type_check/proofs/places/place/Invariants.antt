use Rattle.std.proofs.Common.{◌≡◌, length, map}
use Rattle.type_check.proofs.ObjectPlaces.{HasPlace}
use Rattle.type_check.proofs.places.place.Given as goal

abbrev pub invariant-loop-object : goal.invariant-loop-object
invariant-loop-object l =
    (goal.iterator-loop-object).can_next l.object-iterator ×
    (goal.iterator-loop-object).is_finite l.object-iterator ×
    (l.number ≡ length l.yielded) ×
    HasPlace l.files.domain l.parameter.types (map (λ o. o.now) l.yielded) l.place.items
