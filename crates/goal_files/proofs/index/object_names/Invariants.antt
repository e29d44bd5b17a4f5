use Rattle.std.proofs.Common.{◌≡◌, map, take}
use Rattle.goal_files.proofs.index.object_names.Given as goal

abbrev pub invariant-loop-object : goal.invariant-loop-object
invariant-loop-object l = l.names ≡ map (λ x. x.name.text) (take l.object-index l.objects)
