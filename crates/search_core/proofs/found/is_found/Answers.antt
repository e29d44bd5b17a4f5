use Rattle.search_core.proofs.LookupLemmas.{held_or_not}
use Rattle.search_core.proofs.found.is_found.Goals as goal

pub returns : goal.returns
returns g c = held_or_not _ _ g.met.S.State.Ord.total g.met.S.State.Ord.matches_eq g.met.S.Space.same _ _ _ c.contains_key.ensures
