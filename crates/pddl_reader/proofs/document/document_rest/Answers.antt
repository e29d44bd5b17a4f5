use Rattle.pddl_reader.proofs.document.document_rest.Goals as goal

pub head-requires : goal.head-requires
head-requires c = c.in_ok-first.ensures.found.over_item c.args.text.now c.requires

pub read_sections-requires : goal.read_sections-requires
read_sections-requires c = c.in_ok-first.ensures.found.over_rest c.args.text.now c.requires
