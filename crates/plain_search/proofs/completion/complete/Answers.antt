use Rattle.std.proofs.Common.{◌<◌, List, length, sym, arith, rules}
use mathlib.Core.Path.{subst}
use Rattle.std.proofs.lemmas.Option.{slice_get_within}
use Rattle.grd_base.specs.declared.ids.ActionId.{ActionId}
use Rattle.plain_search.specs.Walks.{visits}
use Rattle.plain_search.specs.Live.{IsNext}
use Rattle.plain_search.proofs.CompletionLemmas.{IsPart, part_begins, part_more, part_behind, part_done}
use Rattle.plain_search.proofs.CommonLemmas.{live_later}
use Rattle.plain_search.proofs.completion.complete.Goals as goal

pub loop-a-init : goal.loop-a-init
loop-a-init g c =
    let vs = visits c.args.layers.now.visited in
    let depths = c.args.layers.now.depths.items in
    let part = part_begins c.args.moves.now vs depths c.requires.deep c.args.goal c.args.place c.requires.live.0 c.requires.live.1 c.args.prefix.now c.requires.live.2 c.requires.live.3
    (c.requires.way c.requires.deep.layered.path c.requires.deep.layered.ways) in
    record {
      part = subst (λ p. IsPart c.args.moves.now vs depths c.args.goal c.args.prefix.now c.args.place p) (sym c.in_ok-plan.ensures.items) part;
      behind = omega arith;
    }

pub live_step-requires : goal.live_step-requires
live_step-requires g c = (
  search rules,
  (
    c.requires.width,
    (
      c.requires.atoms,
      (
        c.requires.goal,
        (
          c.requires.deep,
          live_later c.args.moves.now (visits c.args.layers.now.visited) c.args.layers.now.depths.items c.args.place c.loop-a.at c.args.live.now c.loop-a.invariant.behind c.requires.known,
        ),
      ),
    ),
  ),
)

pub loop-a-smaller : goal.loop-a-smaller
loop-a-smaller g c =
    let vs = visits c.args.layers.now.visited in
    let depths = c.args.layers.now.depths.items in
    let next : IsNext c.args.moves.now vs depths c.args.goal c.loop-a.at c.in-Some.a c.in-Some.next = c.in-Some.ensures.found in
    let within : c.loop-a.at < length vs = slice_get_within vs c.loop-a.at next.here.visit next.here.there in
    let behind : c.loop-a.at < c.in-Some.next =
    part_behind c.args.moves.now vs depths c.requires.deep c.args.goal c.args.prefix.now c.loop-a.at c.loop-a.plan.items c.loop-a.invariant.part c.in-Some.a c.in-Some.next next in
    omega arith

pub loop-a-preserved : goal.loop-a-preserved
loop-a-preserved g c =
    let vs = visits c.args.layers.now.visited in
    let depths = c.args.layers.now.depths.items in
    let next : IsNext c.args.moves.now vs depths c.args.goal c.loop-a.at c.in-Some.a c.in-Some.next = c.in-Some.ensures.found in
    let behind : c.loop-a.at < c.in-Some.next =
    part_behind c.args.moves.now vs depths c.requires.deep c.args.goal c.args.prefix.now c.loop-a.at c.loop-a.plan.items c.loop-a.invariant.part c.in-Some.a c.in-Some.next next in
    let part = part_more c.args.moves.now vs depths c.requires.deep c.args.goal c.args.prefix.now c.loop-a.at c.loop-a.plan.items c.loop-a.invariant.part c.in-Some.a c.in-Some.next next in
    record {
      part = subst (λ p. IsPart c.args.moves.now vs depths c.args.goal c.args.prefix.now c.in-Some.next p) (sym {A = List ActionId} c.in_ok-push.ensures.items) part;
      behind = omega (arith, c.loop-a.invariant.behind);
    }

pub returns-clause-least : goal.returns-clause-least
returns-clause-least g c =
    let part = c.loop-a.invariant.part in
    part_done c.args.moves.now (visits c.args.layers.now.visited) c.args.layers.now.depths.items c.requires.deep c.args.goal c.args.prefix.now c.loop-a.at c.loop-a.plan.items part c.in_default.ensures.none
