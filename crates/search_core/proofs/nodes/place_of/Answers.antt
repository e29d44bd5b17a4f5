use Rattle.search_core.proofs.LookupLemmas.{held_at, fresh_by}
use Rattle.search_core.proofs.nodes.place_of.Goals as goal

pub returns-clause-held : goal.returns-clause-held
returns-clause-held g c = held_at _ _ g.met.S.State.Ord.total g.met.S.State.Ord.matches_eq g.met.S.Space.same _ _ _ c.get_index_of.ensures.index

pub returns-clause-fresh : goal.returns-clause-fresh
returns-clause-fresh g c = fresh_by _ _ g.met.S.State.Ord.total g.met.S.State.Ord.matches_eq g.met.S.Space.same _ _ _ c.get_index_of.ensures.found
