use Rattle.std.proofs.Common.{◌≡◌, length}
use Rattle.std.specs.List.{list_any}
use Rattle.cert_text.specs.Reading.{is_over_range, words, words_left}
use Rattle.cert_text.proofs.words.holds_over_range.Given as goal

abbrev pub invariant-loop-word : goal.invariant-loop-word
invariant-loop-word l = list_any is_over_range (words_left l.left) ≡ list_any is_over_range (words l.fn.line)

abbrev pub decreases-loop-word : goal.decreases-loop-word
decreases-loop-word l = length l.left
