use Rattle.strips_model.proofs.WorldLemmas.{ends_same, plans_same}
use Rattle.ground_all.specs.Grounding.{ground_world}
use Rattle.ground_all.proofs.WorldLaws.{world_is}
use Rattle.ground_all.proofs.laws.known_world.Goals as goal

pub returns-clause-world : goal.returns-clause-world
returns-clause-world c = λ t goals typed. world_is t goals

pub returns-clause-ends : goal.returns-clause-ends
returns-clause-ends c = λ t goals typed removed p. ends_same (ground_world t goals) (world_is t goals) removed p

pub returns-clause-plans : goal.returns-clause-plans
returns-clause-plans c = λ t goals typed g removed p. plans_same (ground_world t goals) (world_is t goals) g removed p
