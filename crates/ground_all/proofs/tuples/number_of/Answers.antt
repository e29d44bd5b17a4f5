use Rattle.std.proofs.Common.{rules, ◌≡◌, ◌+◌, ◌*◌, length, map, take, arith, sym, subst, ℕ}
use Rattle.std.specs.Prelude.{Some, slice_get}
use Rattle.std.proofs.lemmas.Slice.Zip.{zip_turn}
use Rattle.std.proofs.lemmas.List.{length-map, length_push}
use Rattle.ground_all.specs.Tuples.{tuples}
use Rattle.ground_all.proofs.TupleLaws.{fit_length}
use Rattle.ground_all.proofs.TupleNumbers.{number_next, no_number, number_below}
use Rattle.ground_all.proofs.tuples.number_of.Goals as goal

pub returns-then-places-objects : goal.returns-then-places-objects
returns-then-places-objects c fit =
    let long = fit_length (map (λ place. place.items) c.args.places.now) c.args.objects.now fit in
    c.if-places-objects.true (omega (arith, long, length-map c.args.places.now (λ place. place.items)))

-- the number of the tuple with this object
next : (c : goal.After-len) → slice_get (tuples (take (length c.loop-place.yielded + 1) (map (λ place. place.items) c.args.places.now))) (c.loop-place.number * c.len.result + c.in-Ok.at) ≡ Some (take (length c.loop-place.yielded + 1) c.args.objects.now)
next c =
    let turn = zip_turn c.args.places.now c.args.objects.now c.loop-place.yielded c.into_iter-place-iterator.result c.loop-place.place-iterator c.next.new.self _ (search rules) (search rules) c.loop-place.yielded_by (c.in-Some.place, c.in-Some.object) c.in-Some.is c.next.ensures.steps in
    let long : c.len.result ≡ length c.in-Some.place.now.items = search rules in
    number_next (λ place. place.items) c.args.places.now (length c.loop-place.yielded) c.in-Some.place.now turn.0 (turn.2 c.in-Some.place.now) c.requires c.args.objects.now c.in-Some.object.now turn.1 (turn.3 c.in-Some.object.now)
    c.loop-place.number c.len.result c.in-Ok.at c.loop-place.invariant long c.deref.result.now c.deref.ensures.value c.in-Ok.ensures.position

pub overflow_mul-number : goal.overflow_mul-number
overflow_mul-number c = omega (arith, number_below (map (λ place. place.items) c.args.places.now) c.requires _ _ _ (next c))

pub overflow_add-number : goal.overflow_add-number
overflow_add-number c = omega (arith, number_below (map (λ place. place.items) c.args.places.now) c.requires _ _ _ (next c))

pub loop-place-preserved : goal.loop-place-preserved
loop-place-preserved c =
    let number : ℕ = c.loop-place.number * c.len.result + c.in-Ok.at in
    subst (λ n. slice_get (tuples (take n (map (λ place. place.items) c.args.places.now))) number ≡ Some (take n c.args.objects.now)) (sym (length_push c.loop-place.yielded (c.in-Some.place, c.in-Some.object))) (next c)

pub returns-in-Err : goal.returns-in-Err
returns-in-Err c =
    let turn = zip_turn c.args.places.now c.args.objects.now c.loop-place.yielded c.into_iter-place-iterator.result c.loop-place.place-iterator c.next.new.self _ (search rules) (search rules) c.loop-place.yielded_by (c.in-Some.place, c.in-Some.object) c.in-Some.is c.next.ensures.steps in
    no_number (λ place. place.items) c.args.places.now (length c.loop-place.yielded) c.in-Some.place.now turn.0 (turn.2 c.in-Some.place.now) c.requires c.args.objects.now c.in-Some.object.now turn.1 (turn.3 c.in-Some.object.now)
    c.in-Err.field-0 c.deref.result.now c.deref.ensures.value c.in-Err.ensures.position
