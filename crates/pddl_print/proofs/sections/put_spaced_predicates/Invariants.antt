use Rattle.std.proofs.Common.{◌≡◌, ◌++◌, map, take}
use Rattle.pddl_print.specs.Canonical.{spaced, predicate_text}
use Rattle.pddl_print.proofs.sections.put_spaced_predicates.Given as goal

abbrev pub invariant-loop-predicate : goal.invariant-loop-predicate
invariant-loop-predicate l = l.out.items ≡ l.fn.out.items ++ spaced (map predicate_text (take l.predicate-index l.predicates))
