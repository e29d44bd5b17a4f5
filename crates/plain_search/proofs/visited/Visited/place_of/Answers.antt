use Rattle.grd_base.specs.Bits.{IsWhole}
use Rattle.plain_search.proofs.WalkStateLemmas.{place_found, place_none}
use Rattle.plain_search.proofs.visited.Visited.place_of.Goals as goal

pub returns-clause-found : goal.returns-clause-found
returns-clause-found g c = rw (← c.self.view_is) (place_found c.self.inside.steps.entries c.args.state.now c.get_index_of.result c.get_index_of.ensures.index)

pub returns-clause-none : goal.returns-clause-none
returns-clause-none g c =
    let whole : IsWhole c.args.state.now = c.whole.ensures in
    rw (← c.self.view_is) (place_none c.self.inside.steps.entries c.args.state.now c.get_index_of.result c.self.invariant.0 whole c.get_index_of.ensures.found)
