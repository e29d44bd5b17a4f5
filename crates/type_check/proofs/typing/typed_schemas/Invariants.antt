use Rattle.std.proofs.Common.{map}
use Rattle.pddl_reader.specs.Sections.{Pairwise}
use Rattle.type_check.specs.Typing.{IsTypedSchema}
use Rattle.type_check.proofs.typing.typed_schemas.Given as goal

abbrev pub invariant-loop-action : goal.invariant-loop-action
invariant-loop-action l =
    (goal.iterator-loop-action).can_next l.action-iterator ×
    (goal.iterator-loop-action).is_finite l.action-iterator ×
    Pairwise (IsTypedSchema l.files.domain l.files.problem) (map (λ turn. turn.0.now) l.yielded) l.schemas.items
