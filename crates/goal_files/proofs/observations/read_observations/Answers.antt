use Rattle.goal_files.proofs.ObservationAnswers.{spelled_exactly, fault_exactly}
use Rattle.goal_files.proofs.observations.read_observations.Goals as goal

pub returns-clause-spelled_exactly : goal.returns-clause-spelled_exactly
returns-clause-spelled_exactly c = spelled_exactly c.args.typed.now c.requires.typed c.args.text.now (λ v. v.items) c.few_observations.result c.few_observations.ensures.spelled c.few_observations.ensures.fault

pub returns-clause-fault_exactly : goal.returns-clause-fault_exactly
returns-clause-fault_exactly c = fault_exactly c.args.typed.now c.requires.typed c.args.text.now (λ v. v.items) c.few_observations.result c.few_observations.ensures.spelled c.few_observations.ensures.fault
