use Rattle.pddl_reader.proofs.sections.predicate_in.Goals as goal

pub name-requires : goal.name-requires
name-requires c = c.in_ok-item.ensures.found.over_item c.args.text.now c.requires
