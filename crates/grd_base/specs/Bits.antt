-- A bit set as a set of numbers.
use Rattle.std.specs.Prelude.{◌≡◌, ℕ, zero, suc, ◌+◌, ◌*◌, ◌/◌, ◌%◌, ◌^◌, ◌<◌, ◌==◌, List, [], ◌∷◌, length, slice_index, if◌then◌else◌}
use Rattle.std.specs.Int.{bit_at}
use Rattle.grd_base.specs.declared.bits.Bits.{Bits}
use Rattle.grd_base.specs.Sets.{Set}

-- the numbers whose bit is one, in words of 64 bits: number n has bit n % 64 of word n / 64,
-- where bit 0 is a word's lowest, and past the last word there are none
unfoldable pub has : List ℕ → Set
has words n = bit_at (slice_index words (n / 64)) (n % 64) == 1

-- the members of a bit set; what its calls answer is said through these
unfoldable pub members : {W : ℕ} → Bits W → Set
members b = has b.words

-- the words are as many as the width says, each in the range of its type; every value that a
-- program holds is so
pub record IsWhole {W : ℕ} (b : Bits W) : Type 0 where
  pub wide : length b.words ≡ W
  pub fits : (k : ℕ) → slice_index b.words k < 2 ^ 64

-- the number whose n lowest bits tell which of the n numbers counted from `from` are in the set,
-- and whose other bits are zero
unfoldable pub word_of : Set → ℕ → ℕ → ℕ
word_of s from zero = 0
word_of s from (suc n) = (if s from then 1 else 0) + 2 * word_of s (suc from) n

-- the words of a set, `count` of them, from the word at `place` on
unfoldable pub words_of : Set → ℕ → ℕ → List ℕ
words_of s place zero = []
words_of s place (suc count) = word_of s (64 * place) 64 ∷ words_of s (suc place) count

-- the bit set that has the members of the set which are below 64 * W
unfoldable pub bits_of : {W : ℕ} → Set → Bits W
bits_of {W} s = record { words = words_of s 0 W }
