use Rattle.std.proofs.Common.{rules, ◌≡◌, ◌<◌, ◌-◌, ◌%◌, length, map, arith, get_or}
use Rattle.std.proofs.lemmas.List.{length-map}
use Rattle.std.proofs.lemmas.Nat.{mod_below}
use Rattle.ground_all.proofs.TupleNumbers.{filled_none, filled_all, filled_size, filled_more}
use Rattle.ground_all.proofs.tuples.fill.Goals as goal

pub loop-at-init : goal.loop-at-init
loop-at-init c =
    filled_none (map (λ place. place.items) c.args.places.now) c.args.number (length c.args.places.now) c.args.objects.now c.requires.one
    (omega (arith, length-map c.args.places.now (λ place. place.items))) (omega arith)

-- the place has objects
some : (c : goal.After-len) → 0 < c.len.result
some c =
    let long : c.len.result ≡ length c.index-places-at.result.items = search rules in
    filled_size (λ place. place.items) c.args.places.now (c.loop-at.at - 1) c.index-places-at.result (omega arith) c.index-places-at.is c.args.number c.loop-at.at c.loop-at.rest c.loop-at.objects (omega arith) c.loop-at.invariant
    c.len.result long

pub nonzero_rem-rest : goal.nonzero_rem-rest
nonzero_rem-rest c = some c

pub index-requires : goal.index-requires
index-requires c = omega (arith, mod_below c.loop-at.rest c.len.result (some c), c.len.ensures)

pub nonzero_div-rest : goal.nonzero_div-rest
nonzero_div-rest c =
    let long : c.len-rest.result ≡ length c.index-places-at.result.items = search rules in
    filled_size (λ place. place.items) c.args.places.now (c.loop-at.at - 1) c.index-places-at.result (omega arith) c.index-places-at.is c.args.number c.loop-at.at c.loop-at.rest c.loop-at.objects (omega arith) c.loop-at.invariant
    c.len-rest.result long

pub loop-at-preserved : goal.loop-at-preserved
loop-at-preserved c =
    let long : c.len-rest.result ≡ length c.index-places-at.result.items = search rules in
    let here : c.index.result.now ≡ get_or c.index-places-at.result.items (c.loop-at.rest % c.len-rest.result) c.index.result.now = cc (c.index.ensures, c.len.ensures) in
    filled_more (λ place. place.items) c.args.places.now (c.loop-at.at - 1) c.index-places-at.result (omega arith) c.index-places-at.is c.args.number c.loop-at.at c.loop-at.rest c.loop-at.objects (omega arith) c.loop-at.invariant
    c.index.result.now c.len-rest.result long (omega arith) here

pub returns : goal.returns
returns c = filled_all (map (λ place. place.items) c.args.places.now) c.args.number c.loop-at.at c.loop-at.rest c.loop-at.objects (omega arith) c.loop-at.invariant
