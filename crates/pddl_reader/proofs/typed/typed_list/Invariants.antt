use Rattle.std.proofs.Common.{◌≡◌, [], drop}
use Rattle.pddl_reader.specs.Items.{AreItemsOver, forms_at}
use Rattle.pddl_reader.specs.Reading.{typed_from}
use Rattle.pddl_reader.specs.TypedSteps.{typed_behind}
use Rattle.pddl_reader.proofs.typed.typed_list.Given as goal

abbrev pub invariant-loop-item : goal.invariant-loop-item
invariant-loop-item l = record {
  over : AreItemsOver l.text (drop l.item-index l.items);
  same : typed_behind l.listed l.reading l.at (forms_at l.text (drop l.item-index l.items)) ≡ typed_from l.listed l.at [] (forms_at l.text l.items);
}
