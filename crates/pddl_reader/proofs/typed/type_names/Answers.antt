use Rattle.pddl_reader.proofs.ItemLemmas.{list_over}
use Rattle.pddl_reader.proofs.typed.type_names.Goals as goal

pub list_type-requires : goal.list_type-requires
list_type-requires c = list_over c.args.text.now c.args.item.now c.in-List.list c.deref.result.now c.in-List.is c.deref.ensures.value c.requires
