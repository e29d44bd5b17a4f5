use Rattle.std.proofs.Common.{◌≡◌, length}
use Rattle.cert_text.specs.Reading.{numbers_up_to, words_left}
use Rattle.cert_text.proofs.WordLaws.{with_front}
use Rattle.cert_text.proofs.words.numbers_up_to.Given as goal

abbrev pub invariant-loop-word : goal.invariant-loop-word
invariant-loop-word l = with_front l.numbers.items (numbers_up_to l.text (words_left l.left)) ≡ numbers_up_to l.text (words_left l.fn.rest)

abbrev pub decreases-loop-word : goal.decreases-loop-word
decreases-loop-word l = length l.left
