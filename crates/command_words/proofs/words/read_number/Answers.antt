use Rattle.std.proofs.Common.{arith, rules, true, ◌≡◌, sym, ◌∙◌}
use Rattle.std.specs.Char.{is_ascii_digit}
use Rattle.std.specs.List.{list_all}
use Rattle.std.specs.Str.Parse.{digits_value}
use borrow.Author.Tests.{tests}
use Rattle.std.proofs.lemmas.Str.Parse.{IsNumeralModel, numerals_by_value}
use Rattle.std.proofs.lemmas.Bool.{true≢false}
use Rattle.std.proofs.lemmas.Iterator.Adapters.{YieldsList-from_bytes}
use Rattle.std.proofs.lemmas.Iterator.Search.{all_from_yields_List}
use Rattle.command_words.proofs.words.read_number.Goals as goal
use Rattle.command_words.proofs.words.read_number.Goals.{then-is_empty-via-then-is_empty, then-is_empty-via-else-is_empty+then-text-gt-MOST_DIGITS, then-is_empty-via-else-is_empty+else-text-gt-MOST_DIGITS+then-not-all}

digits : IsNumeralModel (λ ds. list_all is_ascii_digit ds ≡ true) (digits_value 10)
digits = numerals_by_value _ (search rules)

pub returns-then-is_empty : goal.returns-then-is_empty
returns-then-is_empty c n number =
    elim c.then-is_empty.branch [
      | then-is_empty-via-then-is_empty w ↦ grind (arith, number.some, tests)
      | then-is_empty-via-else-is_empty+then-text-gt-MOST_DIGITS w ↦ omega (arith, number.short)
      | then-is_empty-via-else-is_empty+else-text-gt-MOST_DIGITS+then-not-all w ↦
          let test : w.all.result ≡ list_all is_ascii_digit c.args.text.now = all_from_yields_List is_ascii_digit _ _ w.all.result w.all.ensures.ran (YieldsList-from_bytes c.args.text.now cc) (λ x b q k. search (rules, tests)) in
          true≢false (sym (digits.from c.args.text.now number.digits) ∙ sym test ∙ w.if-not-all.true)
    ]
