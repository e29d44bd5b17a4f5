use Rattle.std.proofs.lemmas.List.Elements.{All-contains_itself}
use Rattle.search_core.proofs.TurnLemmas.{between_after, lighter_after}
use Rattle.search_core.proofs.turns.turn.Goals as goal

pub expand-requires-clause-steps : goal.expand-requires-clause-steps
expand-requires-clause-steps g c = rw c.in_ok-steps.ensures (All-contains_itself _)

pub returns-clause-on : goal.returns-clause-on
returns-clause-on g c =
    between_after _ _ _ _ _ _ _ _ _ _ _ _ c.in_ok-expand.ensures.on.expanding (rw c.in_ok-steps.ensures at c.in_ok-expand.ensures.held)

pub returns-clause-lighter : goal.returns-clause-lighter
returns-clause-lighter g c = lighter_after _ _ _ _ _ _ _ _ _ _ _ _ _ _ _ c.in_ok-head.ensures.lighter c.in_ok-expand.ensures.on
