use Rattle.std.proofs.Common.{◌≡◌, drop}
use Rattle.pddl_reader.specs.Forms.{forms_of, form_at}
use Rattle.pddl_reader.specs.Items.{AreItemsOver, forms_at}
use Rattle.pddl_reader.specs.Steps.{behind}
use Rattle.pddl_reader.specs.Reading.{condition_at, conditions_at}
use Rattle.pddl_reader.proofs.conditions.+add_condition.Given as goal

abbrev pub decreases-add_condition : goal.decreases-add_condition
decreases-add_condition l = goal.size-add_condition l

abbrev pub invariant-loop-item : goal.invariant-loop-item
invariant-loop-item l = record {
  over : AreItemsOver l.text (drop l.item-index l.rest);
  same : behind l.found.items (conditions_at l.part (forms_of (forms_at l.text (drop l.item-index l.rest)))) ≡ behind l.initial.found.items (condition_at l.part (form_at l.text l.item));
}
