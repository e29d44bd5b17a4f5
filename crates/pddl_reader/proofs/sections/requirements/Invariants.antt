use Rattle.std.proofs.Common.{◌≡◌, List, drop}
use Rattle.pddl_reader.specs.Forms.{Word}
use Rattle.pddl_reader.specs.Items.{AreItemsOver, forms_at}
use Rattle.pddl_reader.specs.Reading.{each_at, requirement_at}
use Rattle.pddl_reader.specs.Steps.{behind}
use Rattle.pddl_reader.proofs.sections.requirements.Given as goal

abbrev pub invariant-loop-item : goal.invariant-loop-item
invariant-loop-item l =
    AreItemsOver l.text (drop l.item-index l.items)
    × (words : List Word)
    × behind words (each_at requirement_at (forms_at l.text (drop l.item-index l.items))) ≡ each_at requirement_at (forms_at l.text l.items)
