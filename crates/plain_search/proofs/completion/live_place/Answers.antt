use Rattle.std.proofs.Common.{◌<◌, length, sym, ◌∙◌, rules}
use Rattle.grd_base.specs.Bits.{members}
use Rattle.plain_search.specs.Walks.{visits}
use Rattle.plain_search.proofs.CommonLemmas.{leads_within, tells_live, tells_none}
use Rattle.plain_search.proofs.completion.live_place.Goals as goal

pub returns-in_default-clause-none : goal.returns-in_default-clause-none
returns-in_default-clause-none g c place to live = c.in_default.ensures.none place to

pub bounds-live-place : goal.bounds-live-place
bounds-live-place g c =
    leads_within c.args.task.now (visits c.args.layers.now.visited) c.args.layers.now.depths.items (members c.args.from.now) c.args.depth c.args.a c.in-Some.place c.args.live.now c.in-Some.ensures.found
    c.requires.known

pub offset_bounds-live-place : goal.offset_bounds-live-place
offset_bounds-live-place g c =
    let within : c.in-Some.place < length c.args.live.now = bounds-live-place g c in
    search rules

pub returns-then-contains-clause-found : goal.returns-then-contains-clause-found
returns-then-contains-clause-found g c = (
  c.in-Some.ensures.found,
  tells_live c.args.task.now (visits c.args.layers.now.visited) c.args.layers.now.depths.items (members c.args.from.now) c.args.depth c.args.goal c.args.a c.in-Some.place c.args.live.now _
      c.in-Some.ensures.found c.requires.known (sym c.contains.ensures ∙ c.if-contains.true),
)

pub returns-else-contains-clause-none : goal.returns-else-contains-clause-none
returns-else-contains-clause-none g c =
    tells_none c.args.task.now (visits c.args.layers.now.visited) c.args.layers.now.depths.items (members c.args.from.now) c.args.depth c.args.goal c.args.a c.in-Some.place c.args.live.now _
    c.in-Some.ensures.found c.requires.known (sym c.contains.ensures ∙ c.if-contains.false)
