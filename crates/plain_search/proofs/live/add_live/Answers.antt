use Rattle.grd_base.specs.Bits.{members}
use Rattle.plain_search.specs.Walks.{visits}
use Rattle.plain_search.proofs.CommonLemmas.{gathers_pass, gathers_put}
use Rattle.plain_search.proofs.live.add_live.Goals as goal

pub returns-in-Some : goal.returns-in-Some
returns-in-Some g c =
    gathers_put c.args.task.now (visits c.args.layers.now.visited) c.args.layers.now.depths.items (members c.args.from.now) c.args.depth c.requires.deep c.args.a.0
    (members c.args.here.now) (members c.union_in.new.self) c.in-Some.next c.args.live.now _ c.requires.gathers c.in-Some.ensures.found c.requires.known c.union_in.ensures

pub returns-in_default : goal.returns-in_default
returns-in_default g c =
    gathers_pass c.args.task.now (visits c.args.layers.now.visited) c.args.layers.now.depths.items (members c.args.from.now) c.args.depth c.args.a.0 (members c.args.here.now)
    c.requires.gathers c.in_default.ensures.none
