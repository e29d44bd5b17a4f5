use Rattle.search_core.proofs.PlaceLemmas.{value_at}
use Rattle.search_core.proofs.EndLemmas.{linked, parents, found_answer}
use Rattle.search_core.proofs.best_first.found_at.Goals as goal

pub path_to-requires-clause-parents : goal.path_to-requires-clause-parents
path_to-requires-clause-parents g c = parents _ _ _ _ _ _ _ _ _ c.requires.taken.nodes

pub returns : goal.returns
returns g c =
    let here = value_at c.args.reach.found.entries c.args.place c.index.result.now c.index.ensures in
    found_answer _ _ _ _ _ _ _ _ (g.met.F.Floor.admissible c.args.question.now.floor.now c.args.question.now.space.now) _ _ c.requires (here.0, c.index.result.now) here.1 _ _
    (c.in_ok-path.ensures _ _ (linked _ _ _ _ _ _ _ _ _ c.requires.taken.nodes) (here.0, c.index.result.now) here.1) c.in_ok-rows.ensures
