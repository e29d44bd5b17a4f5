use Rattle.pddl_reader.proofs.document.read_document.Goals as goal

pub document_rest-requires : goal.document_rest-requires
document_rest-requires c = c.in_ok-token.ensures.found.over_rest c.args.text.now c.requires
