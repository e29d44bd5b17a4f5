-- The rising list of the atoms of a state.
use Rattle.std.proofs.Common.{◌≡◌, ℕ, zero, suc, ◌+◌, ◌<◌, ◌≤◌, Bool, true, false, ◌||◌, ◌&&◌, cond, eqb, List, ◌∷◌, refl, sym, ◌∙◌, ap, inl, inr, arith}
use mathlib.Core.Path.{fun_ext, ap₂}
use Rattle.std.specs.List.{AllByRecursion}
use Rattle.std.proofs.lemmas.Bool.{cases_eq, cases_lt, eq-eqb, ne_eqb}
use Rattle.std.proofs.lemmas.List.Elements.{All-from_recursion}
use Rattle.grd_base.specs.declared.ids.AtomId.{AtomId}
use Rattle.grd_base.specs.Rising.{IsRisingBy}
use Rattle.strips_model.specs.Values.{AreAtoms}
use Rattle.strips_model.specs.Plans.{State, set_of}
use Rattle.strips_model.proofs.AtomLists.{number, rising_same}
use Rattle.strips_model.specs.StateLists.{atoms_from}

-- a list with an atom before it, or without
abbrev pub with_atom : Bool → ℕ → List AtomId → List AtomId
with_atom b k rest = cond b (record { 0 = k } ∷ rest) rest

-- the set of a list with an atom before it, or without
set_with : (b : Bool) (k m : ℕ) (rest : List AtomId) → set_of (with_atom b k rest) m ≡ ((b && eqb k m) || set_of rest m)
set_with true k m rest = refl
set_with false k m rest = refl

module _ (s : State) where
  -- numbers below the first are not in the list
  atoms_before : (k n m : ℕ) → m < k → set_of (atoms_from s k n) m ≡ false
  unfolding atoms_from
  atoms_before k zero m low = refl
  atoms_before k (suc n) m low =
      set_with (s k) k m (atoms_from s (suc k) n) ∙ ap₂ (λ x y. (s k && x) || y) (ne_eqb k m (omega arith)) (atoms_before (suc k) n m (omega arith)) ∙ none (s k)
    where
      none : (b : Bool) → ((b && false) || false) ≡ false
      none true = refl
      none false = refl

  -- nor are numbers past the last
  atoms_past : (k n m : ℕ) → k + n ≤ m → set_of (atoms_from s k n) m ≡ false
  unfolding atoms_from
  atoms_past k zero m high = refl
  atoms_past k (suc n) m high =
      set_with (s k) k m (atoms_from s (suc k) n) ∙ ap₂ (λ x y. (s k && x) || y) (ne_eqb k m (omega arith)) (atoms_past (suc k) n m (omega arith)) ∙ none (s k)
    where
      none : (b : Bool) → ((b && false) || false) ≡ false
      none true = refl
      none false = refl

  -- in between it has the members of the set
  atoms_within : (k n m : ℕ) → k ≤ m → m < k + n → set_of (atoms_from s k n) m ≡ s m
  unfolding atoms_from
  atoms_within k zero m low high = absurd (omega arith)
  atoms_within k (suc n) m low high = elim (cases_eq k m) as (λ _. set_of (atoms_from s k (suc n)) m ≡ s m) [
    | inl same ↦
        set_with (s k) k m (atoms_from s (suc k) n) ∙ ap₂ (λ x y. (s k && x) || y) (eq-eqb k m same) (atoms_before (suc k) n m (omega arith)) ∙ here (s k) ∙ ap s same
    | inr other ↦
        set_with (s k) k m (atoms_from s (suc k) n) ∙ ap₂ (λ x y. (s k && x) || y) (ne_eqb k m other) (atoms_within (suc k) n m (omega arith) (omega arith)) ∙ later (s k) (s m)
  ]
    where
      here : (b : Bool) → ((b && true) || false) ≡ b
      here true = refl
      here false = refl

      later : (b c : Bool) → ((b && false) || c) ≡ c
      later true c = refl
      later false c = refl

  -- the atoms below n are the set, where it has no others
  pub atoms_have : (n : ℕ) → ((m : ℕ) → n ≤ m → s m ≡ false) → set_of (atoms_from s 0 n) ≡ s
  atoms_have n none = fun_ext (λ m. elim (cases_lt m n) as (λ _. set_of (atoms_from s 0 n) m ≡ s m) [
    | inl low ↦ atoms_within 0 n m (omega arith) (omega arith)
    | inr high ↦ atoms_past 0 n m (omega arith) ∙ sym (none m high)
  ])

  each_with : (P : AtomId → Type 0) (b : Bool) (k : ℕ) (rest : List AtomId) → P (record { 0 = k }) → AllByRecursion P rest → AllByRecursion P (with_atom b k rest)
  each_with P true k rest here later = (here, later)
  each_with P false k rest here later = later

  rise_with : (b : Bool) (k : ℕ) (rest : List AtomId) → AllByRecursion (λ y. k < y.0) rest → IsRisingBy number rest → IsRisingBy number (with_atom b k rest)
  rise_with true k rest above rise = (above, rise)
  rise_with false k rest above rise = rise

  -- the atoms are no lower than the first and below the end
  atoms_high : (j k n : ℕ) → j < k → AllByRecursion (λ y. j < y.0) (atoms_from s k n)
  unfolding atoms_from
  atoms_high j k zero low = tt
  atoms_high j k (suc n) low = each_with (λ y. j < y.0) (s k) k (atoms_from s (suc k) n) low (atoms_high j (suc k) n (omega arith))

  atoms_low : (j k n : ℕ) → k + n ≤ j → AllByRecursion (λ y. y.0 < j) (atoms_from s k n)
  unfolding atoms_from
  atoms_low j k zero high = tt
  atoms_low j k (suc n) high = each_with (λ y. y.0 < j) (s k) k (atoms_from s (suc k) n) (omega arith) (atoms_low j (suc k) n (omega arith))

  atoms_rise : (k n : ℕ) → IsRisingBy number (atoms_from s k n)
  unfolding atoms_from
  atoms_rise k zero = tt
  atoms_rise k (suc n) = rise_with (s k) k (atoms_from s (suc k) n) (atoms_high k (suc k) n (omega arith)) (atoms_rise (suc k) n)

  -- they are atoms of the task in rising order
  pub are_atoms : (n : ℕ) → AreAtoms n (atoms_from s 0 n)
  are_atoms n = record {
    rise = atoms_rise 0 n;
    below = All-from_recursion (λ y. y.0 < n) (atoms_from s 0 n) (atoms_low n 0 n (omega arith));
  }

  -- a rising list with the members of the set is the list of its atoms
  pub atoms_are : (n : ℕ) (xs : List AtomId) → ((m : ℕ) → n ≤ m → s m ≡ false) → AreAtoms n xs → set_of xs ≡ s → xs ≡ atoms_from s 0 n
  atoms_are n xs none are same = rising_same xs (atoms_from s 0 n) are.rise (atoms_rise 0 n) (same ∙ sym (atoms_have n none))
