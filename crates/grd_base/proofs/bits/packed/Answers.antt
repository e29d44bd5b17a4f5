use Rattle.std.proofs.Common.{ap, subst, sym, ◌*◌, ◌≤◌}
use Rattle.grd_base.specs.Bits.{members, bits_of}
use Rattle.grd_base.proofs.BitsLemmas.{same_words, has_past}
use Rattle.grd_base.proofs.PackedLemmas.{words_wide, words_fit, words_have}
use Rattle.grd_base.proofs.bits.packed.Goals as goal

pub returns-clause-whole : goal.returns-clause-whole
unfolding bits_of
returns-clause-whole g c s = record { wide = words_wide s 0 g.row.W; fits = words_fit s 0 g.row.W }

pub returns-clause-members : goal.returns-clause-members
unfolding members bits_of
returns-clause-members g c s none = words_have s g.row.W none

pub returns-clause-again : goal.returns-clause-again
unfolding members bits_of
returns-clause-again g c x whole =
    ap (λ ws. record { words = ws })
    (same_words g.row.W _ x.words (words_wide _ 0 g.row.W) whole.wide (words_fit _ 0 g.row.W) whole.fits
    (words_have _ g.row.W (λ n past. has_past x.words n (subst (λ w. 64 * w ≤ n) (sym whole.wide) past))))
