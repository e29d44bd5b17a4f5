use Rattle.std.proofs.Common.{◌+◌, drop, sym, ap, ◌∙◌, arith}
use Rattle.pddl_reader.specs.Forms.{form_at}
use Rattle.pddl_reader.specs.Items.{forms_at}
use Rattle.pddl_reader.specs.Reading.{each_at, atom_at}
use Rattle.pddl_reader.specs.Steps.{behind}
use Rattle.pddl_reader.specs.declared.kinds.Part.TheVariants.{Start}
use Rattle.pddl_reader.proofs.ReadLemmas.{fault_passes, next_over, next_read, next_fault}
use Rattle.pddl_reader.proofs.sections.start_atoms.Goals as goal

pub atom-requires : goal.atom-requires
atom-requires c = (next_over c.args.text.now c.args.items.now c.loop-item.item-index c.item-item.result (omega arith) c.item-item.is c.loop-item.invariant.over).0

pub returns-in_err-atom-clause-fault : goal.returns-in_err-atom-clause-fault
returns-in_err-atom-clause-fault c =
    let text = c.args.text.now in
    fault_passes ((atom_at Start) (form_at text c.item-item.result)) (each_at (atom_at Start) (forms_at text c.args.items.now)) c.from_residual.result c.in_err-atom.field-0.0 c.from_residual.ensures.1 c.in_err-atom.ensures.fault
    (λ e. sym c.loop-item.invariant.same ∙ next_fault text c.args.items.now c.loop-item.item-index c.item-item.result (omega arith) c.item-item.is (atom_at Start) c.loop-item.found.items c.in_err-atom.field-0.0 e)

pub loop-item-preserved : goal.loop-item-preserved
loop-item-preserved c =
    let text = c.args.text.now in
    let items = c.args.items.now in
    let i = c.loop-item.item-index in
    let rest = each_at (atom_at Start) (forms_at text (drop (i + 1) items)) in
    record {
      over = (next_over text items i c.item-item.result (omega arith) c.item-item.is c.loop-item.invariant.over).1;
      same =
          ap (λ found. behind found rest) c.in_ok-push.ensures.items
          ∙ sym (next_read text items i c.item-item.result (omega arith) c.item-item.is (atom_at Start) c.loop-item.found.items c.in_ok-atom.field-0 c.in_ok-atom.ensures.read)
          ∙ c.loop-item.invariant.same;
    }
