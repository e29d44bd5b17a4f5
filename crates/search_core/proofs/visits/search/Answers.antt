use Rattle.std.proofs.Common.{ap, length, ◌∙◌, ◌++◌, ◌∷◌, []}
use Rattle.search_core.proofs.VisitLemmas.{progress_none, new_first}
use Rattle.search_core.proofs.visits.search.Goals as goal

pub admit-requires-clause-progress : goal.admit-requires-clause-progress
admit-requires-clause-progress g c = progress_none _ _ _ _ _ _ _ _ _ c.requires.fresh.0 c.requires.fresh.1

pub admit-requires-clause-new : goal.admit-requires-clause-new
admit-requires-clause-new g c = new_first _ _ _ _ _ _ _ c.requires.fresh.0 c.requires.open

pub explore-requires-clause-start : goal.explore-requires-clause-start
explore-requires-clause-start g c =
    let added = c.in_ok-admit.ensures.added in
    ap length added.pushed ∙ ap (λ xs. length (xs ++ added.entry ∷ [])) c.requires.fresh.0
