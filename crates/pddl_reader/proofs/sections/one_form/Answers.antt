use Rattle.std.proofs.lemmas.Result.{on_ok_weaker}
use Rattle.pddl_reader.specs.Forms.{form_at}
use Rattle.pddl_reader.proofs.SectionSteps.{one_form_read}
use Rattle.pddl_reader.proofs.sections.one_form.Goals as goal

pub returns-clause-read : goal.returns-clause-read
returns-clause-read c =
    on_ok_weaker c.no_item.result
    (λ none text. (form_at text c.in_ok-_item._item.now, one_form_read c.args.at text c.args.items.now _ _ (c.in_ok-_item.ensures.found.forms text) none))
    c.no_item.ensures.none
