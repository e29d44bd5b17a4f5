-- The number of a word.
use Rattle.std.proofs.Common.{◌≡◌, ℕ, zero, suc, ◌+◌, ◌-◌, ◌*◌, ◌^◌, ◌<◌, Bool, true, false, cond, List, [], ◌∷◌, ◌++◌, length, take, get_or, map, refl, sym, ap, ◌∙◌, arith, Some, None, min}
use Rattle.std.specs.Prelude.{◌==◌, ◌&&◌, nat_lt}
use Rattle.std.specs.Char.{is_ascii_digit}
use Rattle.std.specs.Str.{all_ascii_digits}
use Rattle.std.specs.Int.Digits.{number_from_digits}
use Rattle.std.proofs.lemmas.Bool.{and_right, and_left, and_from}
use Rattle.std.proofs.lemmas.Bool.Decides.{nat_tests}
use Rattle.std.proofs.lemmas.List.{take_more, map-append}
use Rattle.std.proofs.lemmas.Int.Digits.{number_push}
use Rattle.cert_text.specs.Reading.{begins_numeral, is_numeral, value_of, number_up_to, is_over_range}

pub value_more : (word : List ℕ) (i : ℕ) → i < length word → value_of (take (i + 1) word) ≡ value_of (take i word) * 10 + (get_or word i 0 - 48)
unfolding value_of
value_more word i h =
    ap (λ w. number_from_digits 10 (map (λ c. c - 48) w)) (take_more word i 0 h)
    ∙ ap (number_from_digits 10) (map-append (λ c. c - 48) (take i word) (get_or word i 0 ∷ []))
    ∙ number_push 10 (map (λ c. c - 48) (take i word)) (get_or word i 0 - 48)

-- a digit more keeps the number as far as it is in memory
pub number_more : (word : List ℕ) (i n d most : ℕ) → i < length word → n ≡ min (value_of (take i word)) most → d ≡ get_or word i 0
    → min (n * 10 + (d - 48)) most ≡ min (value_of (take (i + 1) word)) most
number_more word i n d most h e f =
    rw (value_more word i h, e, f) (saturates (value_of (take i word)) (get_or word i 0 - 48) most)
  where
    saturates : (v d most : ℕ) → min (min v most * 10 + d) most ≡ min (v * 10 + d) most
    saturates v d most = omega arith

digits_push : (word : List ℕ) (c : ℕ) → all_ascii_digits (word ++ c ∷ []) ≡ (all_ascii_digits word && is_ascii_digit c)
digits_push [] c = by_test (is_ascii_digit c)
  where
    by_test : (t : Bool) → (t && true) ≡ t
    by_test true = refl
    by_test false = refl
digits_push (x ∷ word) c = ap (λ t. is_ascii_digit x && t) (digits_push word c) ∙ grouped (is_ascii_digit x) _ _
  where
    grouped : (a b c : Bool) → (a && (b && c)) ≡ ((a && b) && c)
    grouped true b c = refl
    grouped false b c = refl

pub digits_more : (word : List ℕ) (i d : ℕ) → i < length word → all_ascii_digits (take i word) ≡ true → d ≡ get_or word i 0 → is_ascii_digit d ≡ true
    → all_ascii_digits (take (i + 1) word) ≡ true
digits_more word i d h before e digit =
    ap all_ascii_digits (take_more word i 0 h) ∙ digits_push (take i word) (get_or word i 0)
    ∙ and_from _ _ before (ap is_ascii_digit (sym e) ∙ digit)

pub digit_missing : (word : List ℕ) (i d : ℕ) → i < length word → d ≡ get_or word i 0 → is_ascii_digit d ≡ false → all_ascii_digits word ≡ false
digit_missing [] i d h e fails = absurd (omega arith)
digit_missing (x ∷ word) zero d h e fails = and_left _ _ (ap is_ascii_digit (sym e) ∙ fails)
digit_missing (x ∷ word) (suc i) d h e fails = and_right _ _ (digit_missing word i d (omega arith) e fails)

-- ---- what is found

pub number_found : (most : ℕ) (word : List ℕ) (n : ℕ) → begins_numeral word ≡ true → all_ascii_digits word ≡ true → n ≡ min (value_of word) most → Some n ≡ number_up_to most word
unfolding number_up_to
number_found most word n begins digits e = rw (begins, digits, e) refl

pub no_number_begins : (most : ℕ) (word : List ℕ) → begins_numeral word ≡ false → None ≡ number_up_to most word
unfolding number_up_to
no_number_begins most word fails = rw fails refl

pub no_number_digits : (most : ℕ) (word : List ℕ) → all_ascii_digits word ≡ false → None ≡ number_up_to most word
unfolding number_up_to
no_number_digits most word fails = sym (ap (λ t. cond t (Some (min (value_of word) most)) None) (and_right (begins_numeral word) _ fails))

-- ---- the number at most the greatest of the range, and a number over it

pub number_smaller : (word : List ℕ) (n : ℕ) → Some n ≡ number_up_to (2 ^ 32) word → Some (min n (2 ^ 32 - 1)) ≡ number_up_to (2 ^ 32 - 1) word
unfolding number_up_to
number_smaller word n e = by_test (is_numeral word) e
  where
    by_test : (t : Bool) → Some n ≡ cond t (Some (min (value_of word) (2 ^ 32))) None → Some (min n (2 ^ 32 - 1)) ≡ cond t (Some (min (value_of word) (2 ^ 32 - 1))) None
    by_test true f = let same : n ≡ min (value_of word) (2 ^ 32) = cc in ap Some (omega arith)
    by_test false f = absurd cc

pub no_number_smaller : (word : List ℕ) → None ≡ number_up_to (2 ^ 32) word → None ≡ number_up_to (2 ^ 32 - 1) word
unfolding number_up_to
no_number_smaller word e = by_test (is_numeral word) e
  where
    by_test : (t : Bool) → None ≡ cond t (Some (min (value_of word) (2 ^ 32))) None → None ≡ cond t (Some (min (value_of word) (2 ^ 32 - 1))) None
    by_test true f = absurd cc
    by_test false f = refl

pub over_by_number : (word : List ℕ) (n : ℕ) → Some n ≡ number_up_to (2 ^ 32) word → (n == 2 ^ 32) ≡ is_over_range word
unfolding number_up_to
over_by_number word n e = by_test (is_numeral word) e
  where
    by_test : (t : Bool) → Some n ≡ cond t (Some (min (value_of word) (2 ^ 32))) None → (n == 2 ^ 32) ≡ (t && nat_lt (2 ^ 32 - 1) (value_of word))
    by_test true f = let same : n ≡ min (value_of word) (2 ^ 32) = cc in rw same (capped (value_of word))
      where
        capped : (v : ℕ) → (min v (2 ^ 32) == 2 ^ 32) ≡ nat_lt (2 ^ 32 - 1) v
        capped v = grind (arith, nat_tests)
    by_test false f = absurd cc

pub not_over_by_number : (word : List ℕ) → None ≡ number_up_to (2 ^ 32) word → false ≡ is_over_range word
unfolding number_up_to
not_over_by_number word e = by_test (is_numeral word) e
  where
    by_test : (t : Bool) → None ≡ cond t (Some (min (value_of word) (2 ^ 32))) None → false ≡ (t && nat_lt (2 ^ 32 - 1) (value_of word))
    by_test true f = absurd cc
    by_test false f = refl

pub value_none : value_of [] ≡ 0
unfolding value_of
value_none = refl
