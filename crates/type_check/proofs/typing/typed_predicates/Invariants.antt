use Rattle.std.proofs.Common.{take}
use Rattle.pddl_reader.specs.Sections.{Pairwise}
use Rattle.type_check.specs.Typing.{IsTypedPredicate}
use Rattle.type_check.proofs.typing.typed_predicates.Given as goal

abbrev pub invariant-loop-predicate : goal.invariant-loop-predicate
invariant-loop-predicate l =
    Pairwise (IsTypedPredicate l.files.domain l.files.problem) (take l.predicate-index l.predicates) l.typed.items
