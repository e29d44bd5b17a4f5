use Rattle.search_core.proofs.EndLemmas.{never_answer}
use Rattle.search_core.proofs.best_first.none_left.Goals as goal

pub returns : goal.returns
returns g c =
    never_answer _ _ _ _ _ _ _ _ (g.met.F.Floor.admissible c.args.question.now.floor.now c.args.question.now.space.now) _ c.requires _ c.in_ok-rows.ensures
