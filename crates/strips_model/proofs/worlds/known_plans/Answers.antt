use Rattle.strips_model.proofs.WorldLemmas.{ends_same, plans_same}
use Rattle.strips_model.proofs.worlds.known_plans.Goals as goal

pub returns-clause-ends : goal.returns-clause-ends
returns-clause-ends c = λ w is_world removed p. ends_same w is_world removed p

pub returns-clause-plans : goal.returns-clause-plans
returns-clause-plans c = λ w is_world g removed p. plans_same w is_world g removed p
