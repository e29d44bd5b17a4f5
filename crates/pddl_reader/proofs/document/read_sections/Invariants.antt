use Rattle.std.proofs.Common.{drop}
use Rattle.pddl_reader.specs.Items.{AreItemsOver, forms_at}
use Rattle.pddl_reader.proofs.SectionReads.{ReadsSections}
use Rattle.pddl_reader.proofs.document.read_sections.Given as goal

abbrev pub invariant-loop-item : goal.invariant-loop-item
invariant-loop-item l = record {
  over : AreItemsOver l.text (drop l.item-index l.items);
  reads : ReadsSections l.document (forms_at l.text l.items) l.sections (forms_at l.text (drop l.item-index l.items));
}
