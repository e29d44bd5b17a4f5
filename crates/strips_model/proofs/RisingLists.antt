-- Rising lists of numbered things: two with the same numbers are the same.
use Rattle.std.proofs.Common.{◌≡◌, ℕ, ◌<◌, ◌≤◌, Bool, true, false, ◌||◌, eqb, List, [], ◌∷◌, refl, sym, ◌∙◌, ap, inl, inr, arith}
use mathlib.Core.Path.{subst, ap₂}
use Rattle.std.specs.List.{AllByRecursion, list_any}
use Rattle.std.proofs.lemmas.Bool.{cases_eq, false≢true, or_cases, eqb-true, eq-eqb, ne_eqb, false_from_ne_true}
use Rattle.grd_base.specs.Rising.{IsRisingBy}

module _ {X : Type 0} (number : X → ℕ) where
  -- whether the list has a thing with this number
  abbrev pub has_number : List X → ℕ → Bool
  has_number xs n = list_any (λ x. eqb (number x) n) xs

  -- a thing of a list of higher ones is higher
  pub member_above : (n m : ℕ) (xs : List X) → AllByRecursion (λ y. n < number y) xs → has_number xs m ≡ true → n < m
  member_above n m [] above h = absurd (false≢true h)
  member_above n m (x ∷ xs) above h =
      elim (or_cases (eqb (number x) m) (has_number xs m) h) as (λ _. n < m) [ inl here ↦ omega (arith, eqb-true (number x) m here, above.0) | inr later ↦ member_above n m xs above.1 later ]

  pub not_below : (n : ℕ) (xs : List X) → AllByRecursion (λ y. n < number y) xs → has_number xs n ≡ false
  not_below n xs above = false_from_ne_true (has_number xs n) (λ h. absurd (let lt : n < n = member_above n n xs above h in omega arith))

  -- the first of the other list is in this one, so it is no lower than this one's first
  first_low : (x y : X) (xs ys : List X) → AllByRecursion (λ z. number x < number z) xs
      → ((n : ℕ) → has_number (x ∷ xs) n ≡ has_number (y ∷ ys) n) → number x ≤ number y
  first_low x y xs ys above e =
      let h : has_number (x ∷ xs) (number y) ≡ true = e (number y) ∙ ap (λ b. b || has_number ys (number y)) (eq-eqb (number y) (number y) refl) in
      elim (or_cases (eqb (number x) (number y)) (has_number xs (number y)) h) as (λ _. number x ≤ number y) [
        | inl here ↦ omega (arith, eqb-true (number x) (number y) here)
        | inr later ↦ omega (arith, member_above (number x) (number y) xs above later)
      ]

  -- behind the same first thing the numbers are the same
  same_rest : (k : ℕ) (xs ys : List X) → AllByRecursion (λ z. k < number z) xs → AllByRecursion (λ z. k < number z) ys
      → ((n : ℕ) → (eqb k n || has_number xs n) ≡ (eqb k n || has_number ys n)) → (n : ℕ) → has_number xs n ≡ has_number ys n
  same_rest k xs ys above_x above_y e n = elim (cases_eq k n) as (λ _. has_number xs n ≡ has_number ys n) [
    | inl same ↦ subst (λ m. has_number xs m ≡ has_number ys m) same (not_below k xs above_x ∙ sym (not_below k ys above_y))
    | inr other ↦ sym (ap (λ b. b || has_number xs n) (ne_eqb k n other)) ∙ e n ∙ ap (λ b. b || has_number ys n) (ne_eqb k n other)
  ]

  -- where things with the same number are the same, rising lists with the same numbers are the same
  pub rising_same : ((x y : X) → number x ≡ number y → x ≡ y) → (xs ys : List X) → IsRisingBy number xs → IsRisingBy number ys
      → ((n : ℕ) → has_number xs n ≡ has_number ys n) → xs ≡ ys
  rising_same exact [] [] rise_x rise_y e = refl
  rising_same exact [] (y ∷ ys) rise_x rise_y e = absurd (false≢true (e (number y) ∙ ap (λ b. b || has_number ys (number y)) (eq-eqb (number y) (number y) refl)))
  rising_same exact (x ∷ xs) [] rise_x rise_y e =
      absurd (false≢true (sym (e (number x)) ∙ ap (λ b. b || has_number xs (number x)) (eq-eqb (number x) (number x) refl)))
  rising_same exact (x ∷ xs) (y ∷ ys) rise_x rise_y e =
      let low : number x ≤ number y = first_low x y xs ys rise_x.0 e in
      let high : number y ≤ number x = first_low y x ys xs rise_y.0 (λ n. sym (e n)) in
      let same : number y ≡ number x = omega arith in
      let above : AllByRecursion (λ z. number x < number z) ys = subst (λ k. AllByRecursion (λ z. k < number z) ys) same rise_y.0 in
      let rest = same_rest (number x) xs ys rise_x.0 above (λ n. e n ∙ ap (λ k. eqb k n || has_number ys n) same) in
      ap₂ ◌∷◌ (exact x y (sym same)) (rising_same exact xs ys rise_x.1 rise_y.1 rest)
