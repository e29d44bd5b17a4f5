use Rattle.std.proofs.Common.{[], arith, subst}
use Rattle.std.proofs.lemmas.List.{drop_all}
use Rattle.pddl_reader.specs.Forms.{form_at}
use Rattle.pddl_reader.specs.Items.{forms_at}
use Rattle.pddl_reader.specs.Reading.{section_at, sections_from}
use Rattle.pddl_reader.proofs.ReadLemmas.{drop-next, fault_passes, next_over}
use Rattle.pddl_reader.proofs.SectionReads.{ReadsSections, next_section, section_fault, sections_end}
use Rattle.pddl_reader.proofs.document.read_sections.Goals as goal

pub take-requires : goal.take-requires
take-requires c = (next_over c.args.text.now c.args.items.now c.loop-item.item-index c.item-item.result (omega arith) c.item-item.is c.loop-item.invariant.over).0

pub returns-in_err-take-clause-fault : goal.returns-in_err-take-clause-fault
returns-in_err-take-clause-fault c =
    let text = c.args.text.now in
    let items = c.args.items.now in
    let i = c.loop-item.item-index in
    let document = c.args.document in
    let sections = c.loop-item.sections in
    let forms = forms_at text items in
    let here = subst (λ rest. ReadsSections document forms sections (forms_at text rest)) (drop-next items i c.item-item.result (omega arith) c.item-item.is) c.loop-item.invariant.reads in
    fault_passes (section_at document sections.given.items (form_at text c.item-item.result)) (sections_from document [] forms) c.from_residual.result c.in_err-take.field-0.0 c.from_residual.ensures.1 c.in_err-take.ensures.fault
    (section_fault document forms _ _ sections c.in_err-take.field-0.0 here)

pub loop-item-preserved : goal.loop-item-preserved
loop-item-preserved c =
    let text = c.args.text.now in
    let items = c.args.items.now in
    let i = c.loop-item.item-index in
    let document = c.args.document in
    let sections = c.loop-item.sections in
    let forms = forms_at text items in
    let here = subst (λ rest. ReadsSections document forms sections (forms_at text rest)) (drop-next items i c.item-item.result (omega arith) c.item-item.is) c.loop-item.invariant.reads in
    let read = c.in_ok-take.ensures.read in
    record {
      over = (next_over text items i c.item-item.result (omega arith) c.item-item.is c.loop-item.invariant.over).1;
      reads = next_section document forms _ _ sections c.take.new.self read.0 here read.1 read.2;
    }

pub returns-clause-read : goal.returns-clause-read
returns-clause-read c =
    let text = c.args.text.now in
    let items = c.args.items.now in
    let forms = forms_at text items in
    sections_end c.args.document forms c.loop-item.sections
    (subst (λ rest. ReadsSections c.args.document forms c.loop-item.sections (forms_at text rest)) (drop_all c.loop-item.item-index items c.loop-item-test.false) c.loop-item.invariant.reads)
