use Rattle.std.proofs.Common.{◌≡◌, ◌∷◌, rules}
use Rattle.pddl_reader.proofs.ListLemmas.{first_item}
use Rattle.pddl_reader.proofs.lists.first_item.Goals as goal

pub returns-in-Some-clause-found : goal.returns-in-Some-clause-found
returns-in-Some-clause-found c =
    let whole : c.args.items.now ≡ c.in-Some.item.now ∷ c.in-Some.rest.now = search rules in
    first_item _ _ _ whole
