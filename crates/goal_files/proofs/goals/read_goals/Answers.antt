use Rattle.goal_files.proofs.GoalAnswers.{spelled_exactly, fault_exactly}
use Rattle.goal_files.proofs.goals.read_goals.Goals as goal

pub returns-clause-spelled_exactly : goal.returns-clause-spelled_exactly
returns-clause-spelled_exactly c = spelled_exactly c.args.typed.now c.requires.typed c.args.text.now (λ v. v.items) c.some_goals.result c.some_goals.ensures.spelled c.some_goals.ensures.fault

pub returns-clause-fault_exactly : goal.returns-clause-fault_exactly
returns-clause-fault_exactly c = fault_exactly c.args.typed.now c.requires.typed c.args.text.now (λ v. v.items) c.some_goals.result c.some_goals.ensures.spelled c.some_goals.ensures.fault
