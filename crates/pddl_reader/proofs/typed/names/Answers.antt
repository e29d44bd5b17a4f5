use Rattle.std.proofs.Common.{◌+◌, drop, sym, ap, ◌∙◌, arith}
use Rattle.pddl_reader.specs.Forms.{form_at}
use Rattle.pddl_reader.specs.Items.{forms_at}
use Rattle.pddl_reader.specs.Steps.{behind}
use Rattle.pddl_reader.specs.Reading.{each_at, name_at}
use Rattle.pddl_reader.proofs.ReadLemmas.{fault_passes, next_over, next_read, next_fault}
use Rattle.pddl_reader.proofs.typed.names.Goals as goal

pub name-requires : goal.name-requires
name-requires c = (next_over c.args.text.now c.args.items.now c.loop-item.item-index c.item-item.result (omega arith) c.item-item.is c.loop-item.invariant.over).0

pub returns-in_err-name-clause-fault : goal.returns-in_err-name-clause-fault
returns-in_err-name-clause-fault c =
    let text = c.args.text.now in
    fault_passes (name_at (form_at text c.item-item.result)) (each_at name_at (forms_at text c.args.items.now)) c.from_residual.result c.in_err-name.field-0.0 c.from_residual.ensures.1 c.in_err-name.ensures.fault
    (λ e. sym c.loop-item.invariant.same ∙ next_fault text c.args.items.now c.loop-item.item-index c.item-item.result (omega arith) c.item-item.is name_at c.loop-item.names.items c.in_err-name.field-0.0 e)

pub loop-item-preserved : goal.loop-item-preserved
loop-item-preserved c =
    let text = c.args.text.now in
    let items = c.args.items.now in
    let i = c.loop-item.item-index in
    record {
      over = (next_over text items i c.item-item.result (omega arith) c.item-item.is c.loop-item.invariant.over).1;
      same =
          ap (λ names. behind names (each_at name_at (forms_at text (drop (i + 1) items)))) c.in_ok-push.ensures.items
          ∙ sym (next_read text items i c.item-item.result (omega arith) c.item-item.is name_at c.loop-item.names.items c.in_ok-name.field-0 c.in_ok-name.ensures.read)
          ∙ c.loop-item.invariant.same;
    }
