-- The numeral of a number, and the number of a numeral.
use Rattle.std.proofs.Common.{◌≡◌, ◌≢◌, ℕ, zero, suc, ◌+◌, ◌-◌, ◌*◌, ◌/◌, ◌%◌, ◌<◌, ◌≤◌, Bool, true, false, cond, List, [], ◌∷◌, ◌++◌, length, take, get_or, map, refl, sym, ap, ◌∙◌, subst, arith, Some, None, min, ◌⊎◌, inl, inr}
use Rattle.std.specs.Prelude.{◌==◌, not}
use Rattle.std.specs.Char.{is_ascii_digit}
use Rattle.std.specs.List.{AllByRecursion}
use Rattle.std.specs.Str.{all_ascii_digits}
use Rattle.std.specs.Int.Digits.{number_from_digits, digits_of, AllBelowBase}
use Rattle.std.proofs.lemmas.Bool.{and_parts, and_from, ne_eqb, cases_eq}
use Rattle.std.proofs.lemmas.Bool.Decides.{nat_tests}
use Rattle.std.proofs.lemmas.List.{length-map, take_more, take_all, get_or-take, length-take-le}
use Rattle.std.proofs.lemmas.Int.Digits.{number_push, number_after_ge, number_digits_of, digits_of_step, first_digits_of, all_below_base_digits_of}
use Rattle.cert_text.specs.Lines.{numeral}
use Rattle.cert_text.specs.Reading.{begins_numeral, is_numeral, value_of, number_up_to}

-- ---- digits below ten

abbrev Below : List ℕ → Type 0
Below ds = (i : ℕ) → i < length ds → get_or ds i 0 < 10

positive : (ds : List ℕ) → 0 < length ds → 0 < get_or ds 0 0 → 0 < number_from_digits 10 ds
positive [] some first = absurd (omega arith)
positive (d ∷ ds) some first = omega (arith, number_after_ge 10 (0 * 10 + d) ds (omega arith))

-- the digits of the number that digits write, without a zero at the front, are these
digits_again : (j : ℕ) (ds : List ℕ) → length ds ≡ j → Below ds → (0 < length ds → 0 < get_or ds 0 0)
    → digits_of 10 (number_from_digits 10 ds) ≡ ds
digits_again zero [] e below first = refl
digits_again zero (d ∷ ds) e below first = absurd (omega arith)
digits_again (suc j) ds e below first =
    let front = take j ds in
    let last = get_or ds j 0 in
    let within : j < length ds = omega arith in
    let front_len : length front ≡ j = length-take-le j ds (omega arith) in
    let whole : ds ≡ front ++ last ∷ [] = sym (take_all (j + 1) ds (omega arith)) ∙ take_more ds j 0 within in
    let value : number_from_digits 10 ds ≡ number_from_digits 10 front * 10 + last = ap (number_from_digits 10) whole ∙ number_push 10 front last in
    let small : last < 10 = below j within in
    let some : 0 < number_from_digits 10 ds = positive ds (omega arith) (first (omega arith)) in
    let quotient : number_from_digits 10 ds / 10 ≡ number_from_digits 10 front = omega arith in
    let remainder : number_from_digits 10 ds % 10 ≡ last = omega arith in
    let again : digits_of 10 (number_from_digits 10 front) ≡ front =
    digits_again j front front_len (λ i h. subst (λ d. d < 10) (sym (get_or-take j ds i 0 (omega arith))) (below i (omega arith)))
    (λ h. subst (λ d. 0 < d) (sym (get_or-take j ds 0 0 (omega arith))) (first (omega arith))) in
    digits_of_step 10 (number_from_digits 10 ds) (omega arith) some
    ∙ ap (λ q. digits_of 10 q ++ (number_from_digits 10 ds % 10 ∷ [])) quotient
    ∙ ap (λ d. digits_of 10 (number_from_digits 10 front) ++ (d ∷ [])) remainder
    ∙ ap (λ f. f ++ (last ∷ [])) again
    ∙ sym whole

-- ---- digits as bytes

abbrev digits : List ℕ → List ℕ
digits word = map (λ c. c - 48) word

abbrev glyphs : List ℕ → List ℕ
glyphs ds = map (λ d. 48 + d) ds

digits-glyphs : (ds : List ℕ) → digits (glyphs ds) ≡ ds
digits-glyphs [] = refl
digits-glyphs (d ∷ ds) = let same : 48 + d - 48 ≡ d = omega arith in rw (same, digits-glyphs ds) refl

is_digit_between : (c : ℕ) → is_ascii_digit c ≡ true → (48 ≤ c) × (c ≤ 57)
is_digit_between c e = (grind (arith, nat_tests), grind (arith, nat_tests))

glyphs-digits : (word : List ℕ) → all_ascii_digits word ≡ true → glyphs (digits word) ≡ word
glyphs-digits [] e = refl
glyphs-digits (c ∷ word) e =
    let parts = and_parts (is_ascii_digit c) (all_ascii_digits word) e in
    let between = is_digit_between c parts.0 in
    let same : 48 + (c - 48) ≡ c = omega arith in
    rw (same, glyphs-digits word parts.1) refl

digits_below : (word : List ℕ) → all_ascii_digits word ≡ true → Below (digits word)
digits_below [] e i h = absurd (omega arith)
digits_below (c ∷ word) e zero h =
    let between = is_digit_between c (and_parts (is_ascii_digit c) (all_ascii_digits word) e).0 in omega arith
digits_below (c ∷ word) e (suc i) h = digits_below word (and_parts (is_ascii_digit c) (all_ascii_digits word) e).1 i (omega arith)

glyph_is_digit : (d : ℕ) → d < 10 → is_ascii_digit (48 + d) ≡ true
glyph_is_digit d h = grind (arith, nat_tests)

glyphs_are_digits : (ds : List ℕ) → AllBelowBase 10 ds → all_ascii_digits (glyphs ds) ≡ true
glyphs_are_digits [] h = refl
glyphs_are_digits (d ∷ ds) h = and_from _ _ (glyph_is_digit d h.0) (glyphs_are_digits ds h.1)

-- ---- the numeral of a number

numeral_some : (n : ℕ) → 0 < n → numeral n ≡ glyphs (digits_of 10 n)
unfolding numeral
numeral_some zero h = absurd (omega arith)
numeral_some (suc n) h = refl

numeral_zero : numeral 0 ≡ 48 ∷ []
unfolding numeral
numeral_zero = refl

begins : (ds : List ℕ) → 0 < get_or ds 0 0 → begins_numeral (glyphs ds) ≡ true
begins [] h = absurd (omega arith)
begins (d ∷ []) h = refl
begins (d ∷ e ∷ ds) h = let other : 48 + d ≡ 48 → ⊥ = λ same. omega arith in rw (ne_eqb (48 + d) 48 other) refl

value_zero : value_of (48 ∷ []) ≡ 0
unfolding value_of
value_zero = refl

pub value_of-numeral : (n : ℕ) → value_of (numeral n) ≡ n
unfolding value_of
value_of-numeral zero = rw numeral_zero refl
value_of-numeral (suc n) =
    ap (λ w. number_from_digits 10 (digits w)) (numeral_some (suc n) (omega arith))
    ∙ ap (number_from_digits 10) (digits-glyphs (digits_of 10 (suc n)))
    ∙ number_digits_of 10 (suc n) (omega arith)

pub all_digits-numeral : (n : ℕ) → all_ascii_digits (numeral n) ≡ true
all_digits-numeral zero = rw numeral_zero refl
all_digits-numeral (suc n) = rw (numeral_some (suc n) (omega arith)) (glyphs_are_digits (digits_of 10 (suc n)) (all_below_base_digits_of 10 (suc n) (omega arith)))

pub is_numeral-numeral : (n : ℕ) → is_numeral (numeral n) ≡ true
is_numeral-numeral zero = rw numeral_zero refl
is_numeral-numeral (suc n) =
    and_from _ _ (ap begins_numeral (numeral_some (suc n) (omega arith)) ∙ begins (digits_of 10 (suc n)) (first_digits_of 10 (suc n) (omega arith) (omega arith)))
    (all_digits-numeral (suc n))

-- ---- the number of a numeral

-- where the first is no zero
numeral_again_some : (word : List ℕ) → all_ascii_digits word ≡ true → 0 < length word → 0 < get_or (digits word) 0 0 → word ≡ numeral (value_of word)
unfolding value_of
numeral_again_some word all some first =
    let again = digits_again (length (digits word)) (digits word) refl (digits_below word all) (λ h. first) in
    let above : 0 < number_from_digits 10 (digits word) = positive (digits word) (omega (arith, length-map {A = ℕ} {B = ℕ} word (λ c. c - 48))) first in
    sym (numeral_some (number_from_digits 10 (digits word)) above ∙ ap glyphs again ∙ glyphs-digits word all)

pub numeral_again : (word : List ℕ) → is_numeral word ≡ true → word ≡ numeral (value_of word)
numeral_again [] e = absurd cc
numeral_again (c ∷ []) e = by_zero (cases_eq c 48)
  where
    all : all_ascii_digits (c ∷ []) ≡ true
    all = (and_parts true (all_ascii_digits (c ∷ [])) e).1

    between : (48 ≤ c) × (c ≤ 57)
    between = is_digit_between c (and_parts (is_ascii_digit c) true all).0

    by_zero : ((c ≡ 48) ⊎ (c ≡ 48 → ⊥)) → c ∷ [] ≡ numeral (value_of (c ∷ []))
    by_zero (inl same) = rw same (sym numeral_zero ∙ ap numeral (sym value_zero))
    by_zero (inr other) = numeral_again_some (c ∷ []) all (omega arith) (omega (arith, between))
numeral_again (c ∷ d ∷ word) e =
    let parts = and_parts (not (c == 48)) (all_ascii_digits (c ∷ d ∷ word)) e in
    let between = is_digit_between c (and_parts (is_ascii_digit c) (all_ascii_digits (d ∷ word)) parts.1).0 in
    let other : c ≢ 48 = grind (arith, nat_tests) in
    numeral_again_some (c ∷ d ∷ word) parts.1 (omega arith) (omega arith)

-- ---- a number up to a most

pub number_up_to-numeral : (most n : ℕ) → number_up_to most (numeral n) ≡ Some (min n most)
unfolding number_up_to
number_up_to-numeral most n = rw (is_numeral-numeral n, value_of-numeral n) refl

pub number_up_to_some : (most : ℕ) (word : List ℕ) (m : ℕ) → number_up_to most word ≡ Some m → (n : ℕ) × (word ≡ numeral n) × (m ≡ min n most)
unfolding number_up_to
number_up_to_some most word m e = by_test (is_numeral word) refl e
  where
    by_test : (t : Bool) → is_numeral word ≡ t → cond t (Some (min (value_of word) most)) None ≡ Some m → (n : ℕ) × (word ≡ numeral n) × (m ≡ min n most)
    by_test true h f = let same : m ≡ min (value_of word) most = cc in (value_of word, numeral_again word h, same)
    by_test false h f = absurd cc

-- ---- its bytes

no_space_digits : (word : List ℕ) → all_ascii_digits word ≡ true → AllByRecursion (λ b. (b == 32) ≡ false) word
no_space_digits [] e = tt
no_space_digits (c ∷ word) e =
    let parts = and_parts (is_ascii_digit c) (all_ascii_digits word) e in
    let between = is_digit_between c parts.0 in
    (ne_eqb c 32 (λ same. omega arith), no_space_digits word parts.1)

pub no_space-numeral : (n : ℕ) → AllByRecursion (λ b. (b == 32) ≡ false) (numeral n)
no_space-numeral n = no_space_digits (numeral n) (all_digits-numeral n)

within_digits : (word : List ℕ) → all_ascii_digits word ≡ true → AllByRecursion (λ b. b ≢ 10) word
within_digits [] e = tt
within_digits (c ∷ word) e =
    let parts = and_parts (is_ascii_digit c) (all_ascii_digits word) e in
    let between = is_digit_between c parts.0 in
    ((λ same. omega arith), within_digits word parts.1)

pub within-numeral : (n : ℕ) → AllByRecursion (λ b. b ≢ 10) (numeral n)
within-numeral n = within_digits (numeral n) (all_digits-numeral n)
