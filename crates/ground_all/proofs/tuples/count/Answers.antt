use Rattle.std.proofs.Common.{◌≡◌, ◌+◌, length, map, arith, rules, ap, ◌∙◌}
use Rattle.std.proofs.lemmas.List.{length-map, take_all}
use Rattle.ground_all.specs.Tuples.{tuples}
use Rattle.ground_all.proofs.TupleNumbers.{count_next, tuples_below}
use Rattle.ground_all.proofs.tuples.count.Goals as goal

pub overflow_mul-count : goal.overflow_mul-count
overflow_mul-count c =
    let long : c.len.result ≡ length c.place-item.result.items = search rules in
    let next = count_next (λ place. place.items) c.args.places.now c.loop-place.place-index c.place-item.result (omega arith) c.place-item.is c.loop-place.count c.len.result c.loop-place.invariant long in
    omega (arith, next, tuples_below (map (λ place. place.items) c.args.places.now) c.requires (c.loop-place.place-index + 1))

pub loop-place-preserved : goal.loop-place-preserved
loop-place-preserved c =
    let long : c.len.result ≡ length c.place-item.result.items = search rules in
    count_next (λ place. place.items) c.args.places.now c.loop-place.place-index c.place-item.result (omega arith) c.place-item.is c.loop-place.count c.len.result c.loop-place.invariant long

pub returns : goal.returns
returns c =
    let places = map (λ place. place.items) c.args.places.now in
    c.loop-place.invariant ∙ ap (λ places. length (tuples places)) (take_all c.loop-place.place-index places (omega (arith, length-map c.args.places.now (λ place. place.items))))
