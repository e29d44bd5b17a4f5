use Rattle.std.proofs.Common.{◌≡◌, ◌++◌, [], ◌∷◌, length, map, sym, ap, ◌∙◌, arith, rules, Bor}
use Rattle.std.proofs.lemmas.Bool.{false≢true}
use Rattle.std.proofs.lemmas.List.{length-map, map_push, length_push}
use Rattle.std.proofs.lemmas.Iterator.{YieldsList-from_slice}
use Rattle.std.proofs.lemmas.Iterator.Consumers.{YieldsList-turn, YieldsList-end, YieldsList-from_chain}
use Rattle.pddl_reader.specs.Values.{PlainTypedName}
use Rattle.type_check.proofs.Known.{all_walked, known_at, few_before}
use Rattle.type_check.proofs.ObjectPlaces.{HasPlace, is_place, turn_with, turn_without}
use Rattle.type_check.proofs.places.place.Goals as goal
use Rattle.type_check.proofs.places.place.Goals.{then-object_fits+in_ok-push, else-object_fits}

pub object_fits-requires : goal.object_fits-requires
object_fits-requires c =
    let constants = c.domain.inside.constants.items in
    let objects = c.problem.inside.objects.items in
    let road = YieldsList-from_chain (YieldsList-from_slice constants (cc)) (YieldsList-from_slice objects (cc)) (cc) (cc) in
    let turn = YieldsList-turn road c.loop-object.yielded _ c.loop-object.yielded_by _ _ c.in-Some.object c.in-Some.is c.next.ensures.steps in
    record {
      known = known_at c.files.inside.domain.now c.files.inside.types c.files.inside.problem.now constants objects
          c.files.invariant.0 (ap (λ d. d.constants) c.domain.view_is) (ap (λ p. p.objects) c.problem.view_is) c.files.invariant.1
          c.in-Some.object.now _ turn.0 turn.1;
    }

pub overflow_add-number : goal.overflow_add-number
overflow_add-number c =
    let constants = c.domain.inside.constants.items in
    let objects = c.problem.inside.objects.items in
    let road = YieldsList-from_chain (YieldsList-from_slice constants (cc)) (YieldsList-from_slice objects (cc)) (cc) (cc) in
    let turn = YieldsList-turn road c.loop-object.yielded _ c.loop-object.yielded_by _ _ c.in-Some.object c.in-Some.is c.next.ensures.steps in
    let few = few_before c.files.inside.domain.now c.files.inside.problem.now constants objects
    (ap (λ d. d.constants) c.domain.view_is) (ap (λ p. p.objects) c.problem.view_is) c.files.invariant.1 _ turn.0 in
    omega (arith, few, c.loop-object.invariant.2)

pub loop-object-preserved : goal.loop-object-preserved
loop-object-preserved c =
    let seen = map (λ (o : Bor PlainTypedName). o.now) c.loop-object.yielded in
    let next = map (λ (o : Bor PlainTypedName). o.now) (c.loop-object.yielded ++ c.in-Some.object ∷ []) in
    let more : next ≡ seen ++ c.in-Some.object.now ∷ [] = map_push (λ (o : Bor PlainTypedName). o.now) c.loop-object.yielded c.in-Some.object in
    let many : c.loop-object.number ≡ length seen = c.loop-object.invariant.2 ∙ sym (length-map c.loop-object.yielded (λ (o : Bor PlainTypedName). o.now)) in
    let same_domain = c.files.invariant.0 ∙ ap (λ f. f.domain) c.files.view_is in
    let same_types = c.as_slice.ensures ∙ ap (λ n. n.types) c.parameter.view_is in
    let new : HasPlace c.args.files.now.domain c.args.parameter.now.types next c.if-object_fits.place.items =
    elim c.if-object_fits.branch [
      | then-object_fits+in_ok-push w ↦ turn_with _ _ _ _ same_domain same_types seen next c.in-Some.object.now more c.loop-object.place.items _ c.loop-object.invariant.3 c.loop-object.number many (ap (λ v. v.items) w.place-is ∙ w.in_ok-push.ensures.items) (c.object_fits.ensures.0 w.if-object_fits.true)
      | else-object_fits w ↦ turn_without _ _ _ _ same_domain same_types seen next c.in-Some.object.now more c.loop-object.place.items _ c.loop-object.invariant.3 (ap (λ v. v.items) w.place-is) (λ h. false≢true (sym w.if-object_fits.false ∙ c.object_fits.ensures.1 h))
    ] in
    ((λ _. tt, λ _. tt), search rules, omega (arith, length_push c.loop-object.yielded c.in-Some.object, c.loop-object.invariant.2), new)

pub returns : goal.returns
returns c =
    let constants = c.domain.inside.constants.items in
    let objects = c.problem.inside.objects.items in
    let road = YieldsList-from_chain (YieldsList-from_slice constants (cc)) (YieldsList-from_slice objects (cc)) (cc) (cc) in
    let end = YieldsList-end road c.loop-object.yielded _ c.loop-object.yielded_by _ _ c.in-None.is c.next.ensures.steps in
    let all = all_walked c.args.files.now c.files.inside.domain.now c.files.inside.problem.now constants objects c.files.view_is (ap (λ d. d.constants) c.domain.view_is) (ap (λ p. p.objects) c.problem.view_is) in
    is_place c.args.files.now.domain c.args.files.now.problem c.args.parameter.now _ c.loop-object.place.items (end.0 ∙ all) c.loop-object.invariant.3
