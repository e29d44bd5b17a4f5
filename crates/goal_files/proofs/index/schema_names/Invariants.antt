use Rattle.std.proofs.Common.{◌≡◌, map, take}
use Rattle.goal_files.proofs.index.schema_names.Given as goal

abbrev pub invariant-loop-schema : goal.invariant-loop-schema
invariant-loop-schema l = l.names ≡ map (λ x. x.name.text) (take l.schema-index l.schemas)
