use Rattle.std.proofs.Common.{◌≡◌, length, ◌++◌}
use Rattle.std.specs.Option.{option_map}
use Rattle.cert_text.specs.Reading.{all_numbers, words_left}
use Rattle.cert_text.proofs.words.all_numbers.Given as goal

abbrev pub invariant-loop-word : goal.invariant-loop-word
invariant-loop-word l = option_map (λ ns. l.numbers.items ++ ns) (all_numbers (words_left l.left)) ≡ all_numbers (words_left l.fn.rest)

abbrev pub decreases-loop-word : goal.decreases-loop-word
decreases-loop-word l = length l.left
