use Rattle.std.proofs.Common.{◌≡◌, drop}
use Rattle.pddl_reader.specs.Items.{AreItemsOver, forms_at}
use Rattle.pddl_reader.specs.Reading.{each_at, predicate_at}
use Rattle.pddl_reader.specs.Steps.{behind}
use Rattle.pddl_reader.proofs.sections.predicates.Given as goal

abbrev pub invariant-loop-item : goal.invariant-loop-item
invariant-loop-item l = record {
  over : AreItemsOver l.text (drop l.item-index l.items);
  same : behind l.found.items (each_at predicate_at (forms_at l.text (drop l.item-index l.items))) ≡ each_at predicate_at (forms_at l.text l.items);
}
