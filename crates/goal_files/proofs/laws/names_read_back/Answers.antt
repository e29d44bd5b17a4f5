use Rattle.type_check.specs.Ground.{atom_text, action_text}
use Rattle.std.proofs.Common.{[], ◌∷◌}
use Rattle.goal_files.proofs.GoalAnswers.{one_goal}
use Rattle.goal_files.proofs.ObservationAnswers.{one_spelled}
use Rattle.goal_files.proofs.ReadBack.{action_spelled, actions_spelled, atom_spelled}
use Rattle.goal_files.proofs.laws.names_read_back.Goals as goal

pub returns-clause-action : goal.returns-clause-action
returns-clause-action c t n task typed = action_spelled t task n typed

pub returns-clause-one_action : goal.returns-clause-one_action
returns-clause-one_action c t n other task typed spells = one_spelled t task (action_text t n) other n spells (action_spelled t task n typed)

pub returns-clause-observations : goal.returns-clause-observations
returns-clause-observations c t names task typed = actions_spelled t task names typed

pub returns-clause-atom : goal.returns-clause-atom
returns-clause-atom c t a task typed = atom_spelled t task a typed

pub returns-clause-one_atom : goal.returns-clause-one_atom
returns-clause-one_atom c t a other task typed spells = one_goal t task (atom_text t a) other (a ∷ []) spells (atom_spelled t task a typed)
