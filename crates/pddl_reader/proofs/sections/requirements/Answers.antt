use Rattle.std.proofs.Common.{◌∷◌, ◌++◌, [], inr, sym, ◌∙◌, arith}
use Rattle.pddl_reader.specs.Forms.{form_at}
use Rattle.pddl_reader.specs.Items.{forms_at}
use Rattle.pddl_reader.specs.Reading.{each_at, requirement_at}
use Rattle.pddl_reader.proofs.ReadLemmas.{fault_passes, next_over, next_read, next_fault}
use Rattle.pddl_reader.proofs.sections.requirements.Goals as goal

pub requirement-requires : goal.requirement-requires
requirement-requires c = (next_over c.args.text.now c.args.items.now c.loop-item.item-index c.item-item.result (omega arith) c.item-item.is c.loop-item.invariant.0).0

pub returns-in_err-requirement-clause-fault : goal.returns-in_err-requirement-clause-fault
returns-in_err-requirement-clause-fault c =
    let text = c.args.text.now in
    fault_passes (requirement_at (form_at text c.item-item.result)) (each_at requirement_at (forms_at text c.args.items.now)) c.from_residual.result c.in_err-requirement.field-0.0 c.from_residual.ensures.1 (inr c.in_err-requirement.ensures.fault)
    (λ e. sym c.loop-item.invariant.2 ∙ next_fault text c.args.items.now c.loop-item.item-index c.item-item.result (omega arith) c.item-item.is requirement_at c.loop-item.invariant.1 c.in_err-requirement.field-0.0 e)

pub loop-item-preserved : goal.loop-item-preserved
loop-item-preserved c =
    let text = c.args.text.now in
    let items = c.args.items.now in
    let i = c.loop-item.item-index in
    let before = c.loop-item.invariant.1 in
    let read = c.in_ok-requirement.ensures.read in (
      (next_over text items i c.item-item.result (omega arith) c.item-item.is c.loop-item.invariant.0).1,
      before ++ read.0 ∷ [],
      sym (next_read text items i c.item-item.result (omega arith) c.item-item.is requirement_at before read.0 read.1) ∙ c.loop-item.invariant.2,
    )
