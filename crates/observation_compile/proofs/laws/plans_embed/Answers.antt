use Rattle.observation_compile.proofs.ObservedLaws.{plan_reads, observed_plan, cost_recognised}
use Rattle.observation_compile.proofs.laws.plans_embed.Goals as goal

pub returns-clause-sound : goal.returns-clause-sound
returns-clause-sound c t os g p task = plan_reads t os task g p

pub returns-clause-complete : goal.returns-clause-complete
returns-clause-complete c t os g p task = observed_plan t os task g p

pub returns-clause-recognised : goal.returns-clause-recognised
returns-clause-recognised c t os g cost task = cost_recognised t os task g cost
