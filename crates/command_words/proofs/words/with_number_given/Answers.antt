use Rattle.std.proofs.Common.{sym, ◌∙◌, subst, [], ◌∷◌}
use Rattle.command_words.specs.Words.{items_of, ReadsLimits}
use Rattle.command_words.proofs.WordsGiven.{limits_with}
use Rattle.command_words.proofs.words.with_number_given.Goals as goal

pub returns-in-Some-read_number : goal.returns-in-Some-read_number
returns-in-Some-read_number c =
    let items = items_of c.args.items.now in
    subst (ReadsLimits (c.args.name ∷ []) items c.args.limits) (sym c.with_number.ensures)
    (limits_with c.args.name items c.args.limits c.in-Some-value_of.text.now c.in-Some.range c.in-Some-read_number.n c.requires c.in-Some-value_of.ensures
    (sym c.range.ensures ∙ c.in-Some.is) c.in-Some-read_number.ensures)
