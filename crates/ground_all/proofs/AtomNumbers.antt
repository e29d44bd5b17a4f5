-- The numbers of atoms: rising lists, the places at which a test passes, and the fluent ones of a list.
use Rattle.std.proofs.Common.{◌≡◌, ◌≢◌, ℕ, suc, zero, ◌+◌, ◌<◌, ◌≤◌, Bool, true, false, cond, ◌||◌, eqb, List, [], ◌∷◌, ◌++◌, length, take, get_or, refl, sym, ◌∙◌, ap, inl, inr, arith, Ordering, Less, nat_cmp, Option, Some, None, slice_get}
use mathlib.Core.Path.{fun_ext}
use Rattle.std.specs.Prelude.{AllPairs}
use Rattle.std.specs.Bool.{Decides}
use Rattle.std.specs.Cmp.{IsTotalOrder}
use Rattle.std.specs.Ordering.{eq_by_cmp}
use Rattle.std.specs.Option.{option_map_or}
use Rattle.std.specs.List.{AllByRecursion, dedup, dedup_from}
use Rattle.std.specs.List.Sorted.{IsSorted, IsStrictlySortedBy, IsPermutation}
use Rattle.std.proofs.lemmas.Bool.{cases_order, false≢true, eqb-true, eq-eqb, ne_eqb, false_from_ne_true}
use Rattle.std.proofs.lemmas.Bool.Decides.{nat_tests, same_from_decides}
use Rattle.std.proofs.lemmas.Cmp.{on_total, nat_cmp_total}
use Rattle.std.proofs.lemmas.List.{take_more}
use Rattle.std.proofs.lemmas.List.Elements.{All-from_recursion}
use Rattle.std.proofs.lemmas.List.Folds.{list_any-append, list_any_at}
use Rattle.std.proofs.lemmas.List.Kept.{IsStrictlySortedBy-dedup}
use Rattle.std.proofs.lemmas.List.Sorted.{list_any-IsPermutation}
use Rattle.std.proofs.lemmas.Option.{slice_get_within, get_or_from_slice_get, same_Some}
use Rattle.grd_base.specs.declared.ids.AtomId.{AtomId}
use Rattle.grd_base.specs.Rising.{IsRisingBy}
use Rattle.strips_model.specs.Plans.{set_of}
use Rattle.strips_model.specs.Values.{AreAtoms}
use Rattle.strips_model.specs.Worlds.{has_atom, places_of}
use Rattle.strips_model.proofs.AtomLists.{number, not_below, rising_same}

-- a sort and a dedup

abbrev pub same_number : AtomId → AtomId → Bool
same_number a b = eqb a.0 b.0

abbrev rank : AtomId → AtomId → Ordering
rank a b = nat_cmp a.0 b.0

rank_total : IsTotalOrder rank
rank_total = on_total (λ a. a.0) nat_cmp_total

numbers_tie : (a b : AtomId) → same_number a b ≡ eq_by_cmp rank a b
numbers_tie a b = tie a.0 b.0
  where
    tie : (x y : ℕ) → eqb x y ≡ eq_by_cmp nat_cmp x y
    tie x y = grind (arith, nat_tests)

less_is : (x y : ℕ) → nat_cmp x y ≡ Less → x < y
less_is x y e = grind (arith, nat_tests)

all_above : (a : AtomId) (xs : List AtomId) → AllByRecursion (λ b. rank a b ≡ Less) xs → AllByRecursion (λ b. a.0 < b.0) xs
all_above a [] h = h
all_above a (b ∷ bs) h = (less_is a.0 b.0 h.0, all_above a bs h.1)

rising_from : (xs : List AtomId) → IsStrictlySortedBy rank xs → IsRisingBy number xs
unfolding IsStrictlySortedBy
rising_from [] h = tt
rising_from (a ∷ rest) h = (all_above a rest h.0, rising_from rest h.1)

rising_dedup : (xs : List AtomId) → IsSorted rank xs → IsRisingBy number (dedup same_number xs)
rising_dedup xs sorted = rising_from _ (IsStrictlySortedBy-dedup rank_total numbers_tie xs sorted)

or_twice : (a b : Bool) → (a || (a || b)) ≡ (a || b)
or_twice true b = refl
or_twice false b = refl

set_of-dedup_from : (x : AtomId) (xs : List AtomId) (n : ℕ) → set_of (dedup_from same_number x xs) n ≡ (eqb x.0 n || set_of xs n)
set_of-dedup_from x [] n = refl
set_of-dedup_from x (y ∷ ys) n = each (eqb y.0 x.0) refl (set_of-dedup_from x ys n) (set_of-dedup_from y ys n)
  where
    each : (b : Bool) → eqb y.0 x.0 ≡ b → set_of (dedup_from same_number x ys) n ≡ (eqb x.0 n || set_of ys n) → set_of (dedup_from same_number y ys) n ≡ (eqb y.0 n || set_of ys n)
        → set_of (cond b (dedup_from same_number x ys) (x ∷ dedup_from same_number y ys)) n ≡ (eqb x.0 n || (eqb y.0 n || set_of ys n))
    each true same one two = one ∙ sym (or_twice (eqb x.0 n) (set_of ys n)) ∙ ap (λ k. eqb x.0 n || (eqb k n || set_of ys n)) (sym (eqb-true y.0 x.0 same))
    each false same one two = ap (λ b. eqb x.0 n || b) two

set_of-dedup : (xs : List AtomId) (n : ℕ) → set_of (dedup same_number xs) n ≡ set_of xs n
set_of-dedup [] n = refl
set_of-dedup (x ∷ xs) n = set_of-dedup_from x xs n

-- the places at which a test passes

module _ {A : Type 0} (p : A → Bool) where
  pub places_above : (j k : ℕ) (xs : List A) → j < k → AllByRecursion (λ a. j < a.0) (places_of p k xs)
  places_above j k [] lt = tt
  places_above j k (x ∷ xs) lt = each (p x) (places_above j (k + 1) xs (omega arith))
    where
      each : (b : Bool) → AllByRecursion (λ a. j < a.0) (places_of p (k + 1) xs)
          → AllByRecursion (λ a. j < a.0) (cond b (record { 0 = k } ∷ places_of p (k + 1) xs) (places_of p (k + 1) xs))
      each true rest = (lt, rest)
      each false rest = rest

  pub places_rise : (k : ℕ) (xs : List A) → IsRisingBy number (places_of p k xs)
  places_rise k [] = tt
  places_rise k (x ∷ xs) = each (p x) (places_rise (k + 1) xs)
    where
      each : (b : Bool) → IsRisingBy number (places_of p (k + 1) xs)
          → IsRisingBy number (cond b (record { 0 = k } ∷ places_of p (k + 1) xs) (places_of p (k + 1) xs))
      each true rest = (places_above k (k + 1) xs (omega arith), rest)
      each false rest = rest

  pub places_below : (n k : ℕ) (xs : List A) → k + length xs ≤ n → AllByRecursion (λ a. a.0 < n) (places_of p k xs)
  places_below n k [] fits = tt
  places_below n k (x ∷ xs) fits = each (p x) (places_below n (k + 1) xs (omega arith))
    where
      each : (b : Bool) → AllByRecursion (λ a. a.0 < n) (places_of p (k + 1) xs)
          → AllByRecursion (λ a. a.0 < n) (cond b (record { 0 = k } ∷ places_of p (k + 1) xs) (places_of p (k + 1) xs))
      each true rest = (omega arith, rest)
      each false rest = rest

  -- they are atoms of a task
  pub places_are : (xs : List A) → AreAtoms (length xs) (places_of p 0 xs)
  places_are xs = record {
    rise = places_rise 0 xs;
    below = All-from_recursion (λ a. a.0 < length xs) _ (places_below (length xs) 0 xs (omega arith));
  }

  -- whether the test passes at the place
  abbrev pub passes_at : List A → ℕ → Bool
  passes_at xs n = option_map_or p (slice_get xs n) false

  places_from : (k m : ℕ) (xs : List A) → set_of (places_of p k xs) (k + m) ≡ passes_at xs m
  places_from k m [] = refl
  places_from k zero (x ∷ xs) = each (p x) (not_below (k + 0) (places_of p (k + 1) xs) (places_above (k + 0) (k + 1) xs (omega arith)))
    where
      each : (b : Bool) → set_of (places_of p (k + 1) xs) (k + 0) ≡ false
          → set_of (cond b (record { 0 = k } ∷ places_of p (k + 1) xs) (places_of p (k + 1) xs)) (k + 0) ≡ b
      each true rest = ap (λ b. b || set_of (places_of p (k + 1) xs) (k + 0)) (eq-eqb k (k + 0) (omega arith))
      each false rest = rest
  places_from k (suc m) (x ∷ xs) = each (p x) ∙ ap (set_of (places_of p (k + 1) xs)) (shift k m) ∙ places_from (k + 1) m xs
    where
      shift : (a b : ℕ) → a + suc b ≡ a + 1 + b
      shift a b = omega arith

      each : (b : Bool) → set_of (cond b (record { 0 = k } ∷ places_of p (k + 1) xs) (places_of p (k + 1) xs)) (k + suc m) ≡ set_of (places_of p (k + 1) xs) (k + suc m)
      each true = ap (λ b. b || set_of (places_of p (k + 1) xs) (k + suc m)) (ne_eqb k (k + suc m) (λ e. absurd (omega arith)))
      each false = refl

  set_of-places : (xs : List A) (n : ℕ) → set_of (places_of p 0 xs) n ≡ passes_at xs n
  set_of-places xs n = ap (set_of (places_of p 0 xs)) (front n) ∙ places_from 0 n xs
    where
      front : (m : ℕ) → m ≡ 0 + m
      front m = omega arith

-- the numbers are those of the atoms of the list that are fluent, in any order
abbrev pub Numbered : {A : Type 0} → (A → A → Bool) → List A → List A → List AtomId → Type 0
Numbered same fluents xs numbers = (n : ℕ) → set_of numbers n ≡ passes_at (has_atom same xs) fluents n

or_false : (b : Bool) → (b || false) ≡ b
or_false true = refl
or_false false = refl

-- sorted, and without repeats, they are the numbers
pub numbered_all : {A : Type 0} (same : A → A → Bool) (fluents xs : List A) (numbers sorted : List AtomId) → Numbered same fluents xs numbers
    → IsPermutation numbers sorted → IsSorted rank sorted → dedup same_number sorted ≡ places_of (has_atom same xs) 0 fluents
numbered_all same fluents xs numbers sorted numbered permuted in_order =
    rising_same _ _ (rising_dedup sorted in_order) (places_rise (has_atom same xs) 0 fluents)
    (fun_ext (λ n. set_of-dedup sorted n ∙ sym (list_any-IsPermutation (λ a. eqb a.0 n) numbers sorted permuted) ∙ numbered n ∙ sym (set_of-places (has_atom same xs) fluents n)))

-- an atom that stands at two places of different atoms stands at one
same_place : {A : Type 0} (xs : List A) (i j : ℕ) (x : A) → AllPairs (λ a b. a ≢ b) xs → slice_get xs i ≡ Some x → slice_get xs j ≡ Some x → i ≡ j
same_place xs i j x differ at_i at_j =
    let is_i : get_or xs i x ≡ x = get_or_from_slice_get xs i x x at_i in
    let is_j : get_or xs j x ≡ x = get_or_from_slice_get xs j x x at_j in
    elim (cases_order i j) as (λ _. i ≡ j) [
      | inl same ↦ same
      | inr other ↦ elim other as (λ _. i ≡ j) [
        | inl before ↦ absurd (differ i j x before (slice_get_within xs j x at_j) (is_i ∙ sym is_j))
        | inr behind ↦ absurd (differ j i x behind (slice_get_within xs i x at_i) (is_j ∙ sym is_i))
      ]
    ]

module _ {A : Type 0} (same : A → A → Bool) (decides : (a b : A) → Decides (same a b) (a ≡ b)) (fluents : List A) where
  has_push : (xs : List A) (a x : A) → has_atom same (xs ++ a ∷ []) x ≡ (has_atom same xs x || same a x)
  has_push xs a x = list_any-append (λ y. same y x) xs (a ∷ []) ∙ ap (λ b. has_atom same xs x || b) (or_false (same a x))

  -- one atom more, which is fluent
  numbered_fluent : (xs : List A) (numbers : List AtomId) (a : A) (number : AtomId) → AllPairs (λ x y. x ≢ y) fluents → Numbered same fluents xs numbers
      → slice_get fluents number.0 ≡ Some a → Numbered same fluents (xs ++ a ∷ []) (numbers ++ number ∷ [])
  numbered_fluent xs numbers a number differ numbered there n =
      list_any-append (λ b. eqb b.0 n) numbers (number ∷ []) ∙ ap (λ b. set_of numbers n || b) (or_false (eqb number.0 n))
      ∙ ap (λ b. b || eqb number.0 n) (numbered n) ∙ each (slice_get fluents n) refl
    where
      each : (o : Option A) → slice_get fluents n ≡ o
          → (option_map_or (has_atom same xs) o false || eqb number.0 n) ≡ option_map_or (has_atom same (xs ++ a ∷ [])) o false
      each None at = ne_eqb number.0 n (λ e. absurd (let none : Some a ≡ None = sym there ∙ ap (slice_get fluents) e ∙ at in cc))
      each (Some x) at = ap (λ b. has_atom same xs x || b) alike ∙ sym (has_push xs a x)
        where
          alike : eqb number.0 n ≡ same a x
          alike = same_from_decides {P = number.0 ≡ n} (eqb number.0 n) (same a x) (eqb-true number.0 n, eq-eqb number.0 n) (
            λ e. same_place fluents number.0 n a differ there (at ∙ ap Some (sym ((decides a x).0 e))),
            λ e. (decides a x).1 (same_Some a x (sym there ∙ ap (slice_get fluents) e ∙ at)),
          )

  -- one atom more, which is static
  numbered_static : (xs : List A) (numbers : List AtomId) (a : A) → Numbered same fluents xs numbers
      → has_atom same fluents a ≡ false → Numbered same fluents (xs ++ a ∷ []) numbers
  numbered_static xs numbers a numbered static n = numbered n ∙ each (slice_get fluents n) refl
    where
      each : (o : Option A) → slice_get fluents n ≡ o
          → option_map_or (has_atom same xs) o false ≡ option_map_or (has_atom same (xs ++ a ∷ [])) o false
      each None at = refl
      each (Some x) at = sym (or_false (has_atom same xs x)) ∙ ap (λ b. has_atom same xs x || b) (sym other) ∙ sym (has_push xs a x)
        where
          other : same a x ≡ false
          other = false_from_ne_true (same a x) (λ e. false≢true (sym static ∙ list_any_at (λ y. same y a) fluents n x (slice_get_within fluents n x at)
              ((decides (get_or fluents n x) a).1 (get_or_from_slice_get fluents n x x at ∙ sym ((decides a x).0 e)))))

  -- the next atom is fluent
  pub next_fluent : (xs : List A) (i : ℕ) (d : A) (numbers new : List AtomId) (number : AtomId) → i < length xs → AllPairs (λ x y. x ≢ y) fluents
      → Numbered same fluents (take i xs) numbers → slice_get fluents number.0 ≡ Some (get_or xs i d) → new ≡ numbers ++ number ∷ []
      → Numbered same fluents (take (i + 1) xs) new
  next_fluent xs i d numbers new number within differ numbered there step n =
      ap (λ ys. set_of ys n) step ∙ numbered_fluent (take i xs) numbers (get_or xs i d) number differ numbered there n
      ∙ ap (λ ys. passes_at (has_atom same ys) fluents n) (sym (take_more xs i d within))

  -- the next atom is static
  pub next_static : (xs : List A) (i : ℕ) (d : A) (numbers new : List AtomId) → i < length xs
      → Numbered same fluents (take i xs) numbers → has_atom same fluents (get_or xs i d) ≡ false → new ≡ numbers
      → Numbered same fluents (take (i + 1) xs) new
  next_static xs i d numbers new within numbered static step n =
      ap (λ ys. set_of ys n) step ∙ numbered_static (take i xs) numbers (get_or xs i d) numbered static n
      ∙ ap (λ ys. passes_at (has_atom same ys) fluents n) (sym (take_more xs i d within))
