use Rattle.std.proofs.Common.{arith}
use Rattle.std.proofs.lemmas.Option.{slice_get_within}
use Rattle.search_core.proofs.PlaceLemmas.{value_at}
use Rattle.search_core.proofs.WayLemmas.{way_first, way_more, way_end}
use Rattle.search_core.proofs.found.path_through.Goals as goal

pub loop-at-init : goal.loop-at-init
loop-at-init g c = rw c.in_ok-path.ensures.items (way_first c.args.found.now.entries c.args.place c.args.last c.requires.place)

pub index-requires : goal.index-requires
index-requires g c = slice_get_within _ _ _ c.loop-at.invariant.at

pub loop-at-smaller : goal.loop-at-smaller
loop-at-smaller g c =
    let here = value_at c.args.found.now.entries c.loop-at.at c.index.result.now c.index.ensures in
    c.requires.earlier c.loop-at.at (here.0, c.index.result.now) (omega arith) here.1

pub loop-at-preserved : goal.loop-at-preserved
loop-at-preserved g c =
    let here = value_at c.args.found.now.entries c.loop-at.at c.index.result.now c.index.ensures in
    rw c.in_ok-push.ensures.items
    (way_more c.args.found.now.entries c.args.place c.args.last c.requires.earlier c.loop-at.path.items c.loop-at.at (here.0, c.index.result.now) here.1 (omega arith) c.loop-at.invariant)

pub returns : goal.returns
returns g c = rw c.reverse.ensures.items (way_end c.args.found.now.entries c.args.place c.args.last c.loop-at.path.items c.loop-at.at (omega arith) c.loop-at.invariant)
