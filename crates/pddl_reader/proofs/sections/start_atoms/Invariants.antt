use Rattle.std.proofs.Common.{◌≡◌, drop}
use Rattle.pddl_reader.specs.Items.{AreItemsOver, forms_at}
use Rattle.pddl_reader.specs.Reading.{each_at, atom_at}
use Rattle.pddl_reader.specs.Steps.{behind}
use Rattle.pddl_reader.specs.declared.kinds.Part.TheVariants.{Start}
use Rattle.pddl_reader.proofs.sections.start_atoms.Given as goal

abbrev pub invariant-loop-item : goal.invariant-loop-item
invariant-loop-item l = record {
  over : AreItemsOver l.text (drop l.item-index l.items);
  same : behind l.found.items (each_at (atom_at Start) (forms_at l.text (drop l.item-index l.items))) ≡ each_at (atom_at Start) (forms_at l.text l.items);
}
