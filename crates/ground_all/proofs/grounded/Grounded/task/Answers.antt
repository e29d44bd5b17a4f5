use Rattle.std.proofs.Common.{length, ap, ◌∙◌}
use Rattle.strips_model.specs.Values.{PlainTask}
use Rattle.ground_all.specs.Grounding.{task_atoms, instances, PlainGrounded}
use Rattle.ground_all.proofs.TaskLaws.{task_atoms_many, task_actions}
use Rattle.ground_all.proofs.grounded.Grounded.task.Goals as goal

pub returns-clause-atoms : goal.returns-clause-atoms
returns-clause-atoms c =
    ap (λ (t : PlainTask). t.atoms) c.self.invariant.is_task ∙ task_atoms_many c.self.inside.typed.now c.self.inside.goals.now
    ∙ ap (λ (w : PlainGrounded). length (task_atoms w.typed)) c.self.view_is

pub returns-clause-actions : goal.returns-clause-actions
returns-clause-actions c =
    ap (λ (t : PlainTask). length t.actions) c.self.invariant.is_task ∙ task_actions c.self.inside.typed.now c.self.inside.goals.now
    ∙ ap (λ (w : PlainGrounded). length (instances w.typed)) c.self.view_is
