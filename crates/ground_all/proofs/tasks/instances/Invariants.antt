use Rattle.std.proofs.Common.{◌≡◌, map, take}
use Rattle.std.specs.List.{flat_map}
use Rattle.type_check.specs.Values.{PlainTypedSchema}
use Rattle.ground_all.specs.Tuples.{tuples}
use Rattle.ground_all.specs.Grounding.{instance_of}
use Rattle.ground_all.specs.Found.{instance_action}
use Rattle.ground_all.proofs.tasks.instances.Given as goal

abbrev pub invariant-loop-schema : goal.invariant-loop-schema
invariant-loop-schema l =
    l.actions.items ≡ map (instance_action l.atoms) (flat_map (λ (s : PlainTypedSchema). map (instance_of s) (tuples s.places)) (take l.schema-index l.schemas))
