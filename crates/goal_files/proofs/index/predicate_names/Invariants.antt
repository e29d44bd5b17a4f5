use Rattle.std.proofs.Common.{◌≡◌, map, take}
use Rattle.goal_files.proofs.index.predicate_names.Given as goal

abbrev pub invariant-loop-predicate : goal.invariant-loop-predicate
invariant-loop-predicate l = l.names ≡ map (λ x. x.name.text) (take l.predicate-index l.predicates)
