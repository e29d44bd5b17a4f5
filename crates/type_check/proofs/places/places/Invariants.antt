use Rattle.std.proofs.Common.{map, take}
use Rattle.type_check.specs.Typing.{ArePlaces}
use Rattle.type_check.proofs.places.places.Given as goal

abbrev pub invariant-loop-parameter : goal.invariant-loop-parameter
invariant-loop-parameter l =
    ArePlaces l.files.domain l.files.problem (take l.parameter-index l.parameters) (map (λ place. place.items) l.places.items)
