use Rattle.std.proofs.Common.{map, ap, ◌∙◌}
use Rattle.std.proofs.lemmas.Iterator.{YieldsList-from_slice}
use Rattle.std.proofs.lemmas.Iterator.Consumers.{YieldsList-turn, YieldsList-end, YieldsList-from_chain}
use Rattle.type_check.specs.Typing.{typed_object}
use Rattle.type_check.proofs.Known.{all_walked, known_at}
use Rattle.type_check.proofs.objects.typed_objects.Goals as goal

pub typed_object-requires : goal.typed_object-requires
typed_object-requires c =
    let constants = c.domain.inside.constants.items in
    let objects = c.problem.inside.objects.items in
    let road = YieldsList-from_chain (YieldsList-from_slice constants (cc)) (YieldsList-from_slice objects (cc)) (cc) (cc) in
    let turn = YieldsList-turn road c.loop-object.yielded _ c.loop-object.yielded_by _ _ c.in-Some.object c.in-Some.is c.next.ensures.steps in
    record {
      known = known_at c.files.inside.domain.now c.files.inside.types c.files.inside.problem.now constants objects
          c.files.invariant.0 (ap (λ d. d.constants) c.domain.view_is) (ap (λ p. p.objects) c.problem.view_is) c.files.invariant.1
          c.in-Some.object.now _ turn.0 turn.1;
    }

pub returns : goal.returns
returns c =
    let constants = c.domain.inside.constants.items in
    let objects = c.problem.inside.objects.items in
    let road = YieldsList-from_chain (YieldsList-from_slice constants (cc)) (YieldsList-from_slice objects (cc)) (cc) (cc) in
    let end = YieldsList-end road c.loop-object.yielded _ c.loop-object.yielded_by _ _ c.in-None.is c.next.ensures.steps in
    let all = all_walked c.args.files.now c.files.inside.domain.now c.files.inside.problem.now constants objects c.files.view_is (ap (λ d. d.constants) c.domain.view_is) (ap (λ p. p.objects) c.problem.view_is) in
    c.loop-object.invariant.2 ∙ ap (map (typed_object c.args.files.now.domain)) (end.0 ∙ all)
