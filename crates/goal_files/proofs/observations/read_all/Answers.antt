use Rattle.std.proofs.Common.{◌∙◌}
use Rattle.goal_files.specs.Observations.{SpellsAction}
use Rattle.goal_files.specs.LineReading.{IsObsLineFault}
use Rattle.goal_files.proofs.LineAnswers.{text_spelled, text_fault}
use Rattle.goal_files.proofs.ObservationAnswers.{line_fault}
use Rattle.goal_files.proofs.observations.read_all.Goals as goal

pub returns-clause-spelled : goal.returns-clause-spelled
returns-clause-spelled c =
    text_spelled SpellsAction c.args.typed.now c.in_ok-index.index c.in_ok-index.ensures c.args.text.now c.deref.result.now (c.deref.ensures.value ∙ c.in_ok-lines.ensures)
    (λ v. v.items) c.read_each.result c.read_each.ensures.spelled

pub returns-clause-fault : goal.returns-clause-fault
returns-clause-fault c =
    text_fault SpellsAction c.args.typed.now c.in_ok-index.index c.in_ok-index.ensures c.args.text.now c.deref.result.now (c.deref.ensures.value ∙ c.in_ok-lines.ensures)
    IsObsLineFault _ c.read_each.result (line_fault c.args.typed.now c.args.text.now) c.read_each.ensures.fault
