use Rattle.std.proofs.Common.{sym, ap, ◌∙◌}
use Rattle.pddl_reader.specs.Forms.{form_at}
use Rattle.pddl_reader.specs.Steps.{behind}
use Rattle.pddl_reader.specs.Reading.{condition_at}
use Rattle.pddl_reader.proofs.ReadLemmas.{behind-nothing, fault_passes}
use Rattle.pddl_reader.proofs.conditions.condition.Goals as goal

pub returns-in_err-add_condition-clause-fault : goal.returns-in_err-add_condition-clause-fault
returns-in_err-add_condition-clause-fault c =
    let read = condition_at c.args.part (form_at c.args.text.now c.args.item.now) in
    fault_passes read read c.from_residual.result c.in_err-add_condition.field-0.0 c.from_residual.ensures.1 c.in_err-add_condition.ensures.fault (λ e. e)

pub returns-clause-read : goal.returns-clause-read
returns-clause-read c =
    let read = condition_at c.args.part (form_at c.args.text.now c.args.item.now) in
    sym (behind-nothing read) ∙ ap (λ found. behind found read) (sym c.new-found.ensures.items) ∙ c.in_ok-add_condition.ensures.read
