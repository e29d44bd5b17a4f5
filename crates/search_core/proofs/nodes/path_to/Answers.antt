use Rattle.std.proofs.Common.{arith}
use Rattle.search_core.proofs.PlaceLemmas.{value_at}
use Rattle.search_core.proofs.ParentLemmas.{way_first, way_lower, way_more, way_end, parent_within}
use Rattle.search_core.proofs.nodes.path_to.Goals as goal

pub loop-way-init : goal.loop-way-init
loop-way-init g c =
    let here = value_at c.args.found.now.entries c.args.place c.index.result.now c.index.ensures in
    rw c.new-path.ensures.items (way_first c.args.found.now.entries c.args.place here.0 c.index.result.now here.1)

pub index-requires-in-loop-way : goal.index-requires-in-loop-way
index-requires-in-loop-way g c = parent_within c.args.found.now.entries c.args.place c.requires.parents c.loop-way.path.items c.loop-way.way (omega arith) c.loop-way.invariant

pub loop-way-smaller : goal.loop-way-smaller
loop-way-smaller g c =
    let here = value_at c.args.found.now.entries c.loop-way.way.parent c.index-in-loop-way.result.now c.index-in-loop-way.ensures in
    way_lower c.args.found.now.entries c.args.place c.requires.parents c.loop-way.path.items c.loop-way.way (omega arith) c.loop-way.invariant here.0 c.index-in-loop-way.result.now here.1

pub loop-way-preserved : goal.loop-way-preserved
loop-way-preserved g c =
    let here = value_at c.args.found.now.entries c.loop-way.way.parent c.index-in-loop-way.result.now c.index-in-loop-way.ensures in
    rw c.in_ok-push.ensures.items
    (way_more c.args.found.now.entries c.args.place c.requires.parents c.loop-way.path.items c.loop-way.way (omega arith) c.loop-way.invariant here.0 c.index-in-loop-way.result.now here.1)

pub returns : goal.returns
returns g c = rw c.reverse.ensures.items (way_end c.args.found.now.entries c.args.place c.loop-way.path.items c.loop-way.way (omega arith) c.loop-way.invariant)
