use Rattle.std.proofs.Common.{◌≡◌, map}
use Rattle.type_check.specs.Typing.{typed_object}
use Rattle.type_check.proofs.objects.typed_objects.Given as goal

abbrev pub invariant-loop-object : goal.invariant-loop-object
invariant-loop-object l =
    (goal.iterator-loop-object).can_next l.object-iterator ×
    (goal.iterator-loop-object).is_finite l.object-iterator ×
    (l.objects.items ≡ map (typed_object l.files.domain) (map (λ o. o.now) l.yielded))
