use Rattle.std.proofs.Common.{◌≡◌, drop, map}
use Rattle.pddl_reader.specs.Items.{AreItemsOver, forms_at}
use Rattle.pddl_reader.specs.Reading.{each_at, term_at}
use Rattle.pddl_reader.specs.Terms.{plain_term}
use Rattle.pddl_reader.specs.Steps.{behind}
use Rattle.pddl_reader.proofs.conditions.terms.Given as goal

abbrev pub invariant-loop-item : goal.invariant-loop-item
invariant-loop-item l = record {
  over : AreItemsOver l.text (drop l.item-index l.items);
  same : behind (map plain_term l.terms.items) (each_at (term_at l.part) (forms_at l.text (drop l.item-index l.items))) ≡ each_at (term_at l.part) (forms_at l.text l.items);
}
