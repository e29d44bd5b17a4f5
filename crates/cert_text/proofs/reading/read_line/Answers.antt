use Rattle.std.proofs.Common.{sym, ◌∙◌, ap}
use Rattle.std.specs.Option.{option_map}
use Rattle.cert_text.specs.Values.{plain}
use Rattle.cert_text.proofs.Spelling.{of_no_kind, over_range, good_line}
use Rattle.cert_text.proofs.reading.read_line.Goals as goal

pub returns-in-None : goal.returns-in-None
returns-in-None c = of_no_kind c.args.line.now (sym c.in_ok-read_words.ensures ∙ ap (option_map plain) c.in-None.is)

pub returns-in-Some : goal.returns-in-Some
returns-in-Some c =
    over_range c.args.line.now (plain c.in-Some.field-0)
    (sym c.in_ok-read_words.ensures ∙ ap (option_map plain) c.in-Some.is)
    (sym c.holds_over_range.ensures ∙ c.if-holds_over_range.true)

pub returns-in-Some-2 : goal.returns-in-Some-2
returns-in-Some-2 c =
    good_line c.args.line.now (plain c.in-Some.field-0)
    (sym c.in_ok-read_words.ensures ∙ ap (option_map plain) c.in-Some.is)
    (sym c.holds_over_range.ensures ∙ c.if-holds_over_range.false)
