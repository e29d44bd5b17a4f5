use Rattle.std.proofs.Common.{◌+◌, inl, inr, refl, sym, ◌∙◌, ap, arith, rules}
use Rattle.std.specs.Option.{option_map}
use Rattle.std.proofs.lemmas.Option.{slice_get_within}
use Rattle.grd_base.specs.Bits.{members}
use Rattle.plain_search.specs.Walks.{visits}
use Rattle.plain_search.specs.Depths.{Deepens}
use Rattle.plain_search.proofs.WalkStateLemmas.{state_there, no_state}
use Rattle.plain_search.proofs.WalkPlanLemmas.{passed_on}
use Rattle.plain_search.proofs.LayerLemmas.{deepens_begun, layered, more_steps, depth_read}
use Rattle.plain_search.proofs.layers.layers_within.Goals as goal

pub loop-from-init : goal.loop-from-init
loop-from-init g c = rw c.in_ok-vec.ensures.items (deepens_begun c.args.moves.now c.args.limit c.args.steps (visits c.in_ok-begin.field-0) (rw c.task.ensures at c.in_ok-begin.ensures.begun) c.requires.limit)

pub index-depth-requires : goal.index-depth-requires
index-depth-requires g c =
    let vs = visits c.loop-from.layers.visited in
    let there = state_there vs c.loop-from.head c.in-Some.from (ap (option_map members) (sym c.in-Some.is) ∙ c.state.ensures) in
    omega (arith, c.loop-from.layers.depths.ok.0, c.loop-from.invariant.depths.same_length, slice_get_within vs c.loop-from.head there.0 there.1)

pub expand-requires : goal.expand-requires
expand-requires g c =
    let vs = visits c.loop-from.layers.visited in
    let is = c.loop-from.invariant in
    let there = state_there vs c.loop-from.head c.in-Some.from (ap (option_map members) (sym c.in-Some.is) ∙ c.state.ensures) in
    let deepens : Deepens c.args.moves.now c.args.limit c.loop-from.head 0 (members c.in-Some.from) (c.index-depth.result.now + 1) vs c.loop-from.layers.depths.items =
    record {
      walk = record { walk = is.walk.walk; few = is.walk.few; visit = there.0; here = there.1; state = there.2 };
      depths = is.depths;
      depth = c.index-depth.result.now;
      here = depth_read vs c.loop-from.layers.depths.items c.loop-from.head c.index-depth.result.now there.0 is.depths there.1 c.index-depth.ensures;
      next = refl;
    } in
    (search rules, (search rules, (c.requires.width, (c.requires.atoms, deepens))))

pub returns-in_err-expand-clause-many : goal.returns-in_err-expand-clause-many
returns-in_err-expand-clause-many g c e =
    let error = c.from_residual-in_err-expand in
    more_steps c.args.moves.now c.args.limit (c.index-depth.result.now + 1) c.args.steps (omega arith) (c.in_err-expand.ensures.many (passed_on error.result _ _ error.ensures.1 e))

pub overflow_add-head : goal.overflow_add-head
overflow_add-head g c =
    let vs = visits c.loop-from.layers.visited in
    let there = state_there vs c.loop-from.head c.in-Some.from (ap (option_map members) (sym c.in-Some.is) ∙ c.state.ensures) in
    omega (arith, c.loop-from.invariant.walk.few, slice_get_within vs c.loop-from.head there.0 there.1)

pub loop-from-smaller : goal.loop-from-smaller
loop-from-smaller g c =
    let vs = visits c.loop-from.layers.visited in
    let there = state_there vs c.loop-from.head c.in-Some.from (ap (option_map members) (sym c.in-Some.is) ∙ c.state.ensures) in
    omega (arith, c.loop-from.invariant.walk.few, slice_get_within vs c.loop-from.head there.0 there.1)

pub returns-then-depth-steps-clause-layered : goal.returns-then-depth-steps-clause-layered
returns-then-depth-steps-clause-layered g c =
    let vs = visits c.loop-from.layers.visited in
    let is = c.loop-from.invariant in
    let there = state_there vs c.loop-from.head c.in-Some.from (ap (option_map members) (sym c.in-Some.is) ∙ c.state.ensures) in
    let depth = depth_read vs c.loop-from.layers.depths.items c.loop-from.head c.index-depth.result.now there.0 is.depths there.1 c.index-depth.ensures in
    layered c.args.moves.now c.args.limit c.args.steps c.loop-from.head vs c.loop-from.layers.depths.items is (inr (c.index-depth.result.now, depth, c.if-depth-steps.true))

pub returns-clause-layered : goal.returns-clause-layered
returns-clause-layered g c =
    layered c.args.moves.now c.args.limit c.args.steps c.loop-from.head (visits c.loop-from.layers.visited) c.loop-from.layers.depths.items c.loop-from.invariant
    (inl (no_state (visits c.loop-from.layers.visited) c.loop-from.head c.in_default.ensures))
