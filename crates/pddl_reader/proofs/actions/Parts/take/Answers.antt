use Rattle.pddl_reader.proofs.PartLemmas.{takes_part}
use Rattle.pddl_reader.proofs.actions.Parts.take.Goals as goal

pub read_part-requires-clause-over : goal.read_part-requires-clause-over
read_part-requires-clause-over c =
    c.in_ok-item.ensures.found.over_item c.args.text.now (c.in_ok-token.ensures.found.over_rest c.args.text.now c.requires.over)

pub returns-clause-over : goal.returns-clause-over
returns-clause-over c =
    c.in_ok-item.ensures.found.over_rest c.args.text.now (c.in_ok-token.ensures.found.over_rest c.args.text.now c.requires.over)

pub returns-clause-read : goal.returns-clause-read
returns-clause-read c =
    takes_part c.args.at c.args.self.now _ _ _ _ _ _ _ (c.in_ok-token.ensures.found.forms c.args.text.now) (c.in_ok-item.ensures.found.forms c.args.text.now)
    c.in_ok-part.ensures.read c.in_ok-read_part.ensures.read
