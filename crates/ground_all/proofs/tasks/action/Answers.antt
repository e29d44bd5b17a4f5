use Rattle.std.proofs.Common.{sym, subst}
use Rattle.grd_base.specs.declared.ids.AtomId.{AtomId}
use Rattle.grd_base.specs.Rising.{IsRisingBy}
use Rattle.strips_model.specs.Values.{WorldAction}
use Rattle.ground_all.specs.Found.{start_world}
use Rattle.ground_all.proofs.TaskLaws.{numbers_rise}
use Rattle.ground_all.proofs.tasks.action.Goals as goal

pub task_action-requires-clause-absent : goal.task_action-requires-clause-absent
task_action-requires-clause-absent c =
    subst (λ (a : WorldAction). IsRisingBy (λ (n : AtomId). n.0) a.absent) (sym c.in_ok-action.ensures) (numbers_rise (start_world c.args.atoms.now) _)

pub task_action-requires-clause-add : goal.task_action-requires-clause-add
task_action-requires-clause-add c =
    subst (λ (a : WorldAction). IsRisingBy (λ (n : AtomId). n.0) a.add) (sym c.in_ok-action.ensures) (numbers_rise (start_world c.args.atoms.now) _)

pub task_action-requires-clause-del : goal.task_action-requires-clause-del
task_action-requires-clause-del c =
    subst (λ (a : WorldAction). IsRisingBy (λ (n : AtomId). n.0) a.del) (sym c.in_ok-action.ensures) (numbers_rise (start_world c.args.atoms.now) _)
