use Rattle.std.proofs.Common.{◌∷◌, inr, refl, ap, ◌∙◌}
use Rattle.pddl_reader.proofs.ListLemmas.{first_word}
use Rattle.pddl_reader.proofs.lists.first_word.Goals as goal

pub returns-in-Word-clause-found : goal.returns-in-Word-clause-found
returns-in-Word-clause-found c = first_word _ _ _ _ c.in_ok-item.ensures.found c.in-Word.is

pub returns-in-List-clause-fault : goal.returns-in-List-clause-fault
returns-in-List-clause-fault c =
    inr (c.in-List.list, c.in_ok-item.rest.now, c.in_ok-item.ensures.found.whole ∙ ap (λ i. i ∷ c.in_ok-item.rest.now) c.in-List.is, refl)
