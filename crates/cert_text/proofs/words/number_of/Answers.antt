use Rattle.std.proofs.Common.{◌≡◌, ◌^◌, take, min, ap, ◌∙◌, sym, arith, rules, refl}
use Rattle.std.specs.Str.{all_ascii_digits}
use Rattle.std.proofs.lemmas.List.{take_all}
use Rattle.cert_text.specs.Reading.{value_of}
use Rattle.cert_text.proofs.NumberLaws.{value_none, number_found}
use Rattle.cert_text.proofs.words.number_of.Goals as goal

pub loop-digit-init : goal.loop-digit-init
loop-digit-init c = record { begins = search rules; digits = refl; number = rw value_none refl }

pub returns : goal.returns
returns c =
    let all : take c.loop-digit.digit-index c.args.word.now ≡ c.args.word.now = take_all _ c.args.word.now (omega arith) in
    number_found (2 ^ 32) c.args.word.now c.loop-digit.number c.loop-digit.invariant.begins
    (sym (ap all_ascii_digits all) ∙ c.loop-digit.invariant.digits)
    (c.loop-digit.invariant.number ∙ ap (λ w. min (value_of w) (2 ^ 32)) all)
