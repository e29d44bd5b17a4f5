-- The words that are made of a set.
use Rattle.std.proofs.Common.{◌≤◌, ◌≡◌, ℕ, zero, suc, ◌+◌, ◌*◌, ◌/◌, ◌%◌, ◌^◌, ◌<◌, Bool, true, false, eqb, length, get_or, refl, sym, ◌∙◌, ap, inl, inr, arith}
use Rattle.std.proofs.Math.Nat.{pow-succ'}
use mathlib.Core.Path.{fun_ext}
use Rattle.std.proofs.lemmas.Bool.{cases_lt}
use Rattle.std.proofs.lemmas.Nat.Bits.{bit_at-suc, bit_at_lowest}
use Rattle.std.specs.Prelude.{if◌then◌else◌}
use Rattle.std.specs.Int.{bit_at}
use Rattle.grd_base.specs.Sets.{Set}
use Rattle.grd_base.specs.Bits.{has, word_of, words_of}
use Rattle.grd_base.proofs.BitsLemmas.{has_past}

abbrev digit : Bool → ℕ
digit b = if b then 1 else 0

digit_below : (b : Bool) → digit b < 2
digit_below true = omega arith
digit_below false = omega arith

digit_is : (b : Bool) → eqb (digit b) 1 ≡ b
digit_is true = refl
digit_is false = refl

-- a word is below two to the number of its bits
pub word_below : (s : Set) (from n : ℕ) → word_of s from n < 2 ^ n
unfolding word_of
word_below s from zero = omega arith
word_below s from (suc n) =
    let rest : word_of s (suc from) n < 2 ^ n = word_below s (suc from) n in
    let low : digit (s from) < 2 = digit_below (s from) in
    let twice : 2 ^ suc n ≡ 2 * 2 ^ n = pow-succ' 2 n in
    omega (arith, twice)

-- each bit of a word
pub word_bits : (s : Set) (from n i : ℕ) → i < n → bit_at (word_of s from n) i ≡ digit (s (from + i))
unfolding word_of
word_bits s from zero i small = elim small [ ]
word_bits s from (suc n) zero small =
    let low : digit (s from) < 2 = digit_below (s from) in
    let same : (digit (s from) + 2 * word_of s (suc from) n) % 2 ≡ digit (s from) = omega arith in
    let here : from + 0 ≡ from = omega arith in
    bit_at_lowest (word_of s from (suc n)) ∙ same ∙ sym (ap (λ x. digit (s x)) here)
word_bits s from (suc n) (suc i) small =
    let low : digit (s from) < 2 = digit_below (s from) in
    let half : (digit (s from) + 2 * word_of s (suc from) n) / 2 ≡ word_of s (suc from) n = omega arith in
    let here : suc from + i ≡ from + suc i = omega arith in
    bit_at-suc (word_of s from (suc n)) i ∙ ap (λ x. bit_at x i) half ∙ word_bits s (suc from) n i (omega arith) ∙ ap (λ x. digit (s x)) here

pub words_wide : (s : Set) (place count : ℕ) → length (words_of s place count) ≡ count
unfolding words_of
words_wide s place zero = refl
words_wide s place (suc count) = ap suc (words_wide s (suc place) count)

-- each word
pub words_at : (s : Set) (place count k : ℕ) → k < count → get_or (words_of s place count) k 0 ≡ word_of s (64 * (place + k)) 64
unfolding words_of
words_at s place zero k within = elim within [ ]
words_at s place (suc count) zero within =
    let here : place + 0 ≡ place = omega arith in
    sym (ap (λ x. word_of s (64 * x) 64) here)
words_at s place (suc count) (suc k) within =
    let here : suc place + k ≡ place + suc k = omega arith in
    words_at s (suc place) count k (omega arith) ∙ ap (λ x. word_of s (64 * x) 64) here

pub words_fit : (s : Set) (place count k : ℕ) → get_or (words_of s place count) k 0 < 2 ^ 64
unfolding words_of
words_fit s place zero k = omega arith
words_fit s place (suc count) zero = word_below s (64 * place) 64
words_fit s place (suc count) (suc k) = words_fit s (suc place) count k

-- the words have the members of the set, where these are below their bits
pub words_have : (s : Set) (count : ℕ) → ((n : ℕ) → 64 * count ≤ n → s n ≡ false) → has (words_of s 0 count) ≡ s
unfolding has
words_have s count none = fun_ext (λ n.
    elim (cases_lt n (64 * count)) as (λ _. has (words_of s 0 count) n ≡ s n) [
      | inl within ↦
          let place : n / 64 < count = omega arith in
          let low : n % 64 < 64 = omega arith in
          let is : 64 * (0 + n / 64) + n % 64 ≡ n = omega arith in
          ap (λ x. eqb (bit_at x (n % 64)) 1) (words_at s 0 count (n / 64) place)
          ∙ ap (λ x. eqb x 1) (word_bits s (64 * (0 + n / 64)) 64 (n % 64) low)
          ∙ digit_is (s (64 * (0 + n / 64) + n % 64)) ∙ ap s is
      | inr past ↦
          let wide : length (words_of s 0 count) ≡ count = words_wide s 0 count in
          has_past (words_of s 0 count) n (omega (arith, wide)) ∙ sym (none n (omega arith))
    ])
