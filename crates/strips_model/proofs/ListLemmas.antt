-- Rising lists of atoms and the sets of their atoms.
use Rattle.std.proofs.Common.{◌≡◌, ℕ, ◌+◌, ◌<◌, ◌≤◌, Bool, true, false, ◌||◌, eqb, List, [], ◌∷◌, ◌++◌, refl, sym, ◌∙◌, ap, inl, inr, arith}
use mathlib.Core.Path.{ap₂}
use Rattle.std.specs.List.{AllByRecursion}
use Rattle.std.proofs.lemmas.Bool.{cases_eq, cases_lt, false≢true, or_parts, eq-eqb, ne_eqb}
use Rattle.grd_base.specs.declared.ids.AtomId.{AtomId}
use Rattle.grd_base.specs.Rising.{IsRisingBy}
use Rattle.strips_model.specs.Plans.{State, set_of}

abbrev number : AtomId → ℕ
number a = a.0

all_push : (n k : ℕ) (xs : List AtomId) → AllByRecursion (λ y. k < y.0) xs → k < n → AllByRecursion (λ y. k < y.0) (xs ++ record { 0 = n } ∷ [])
all_push n k [] above lt = (lt, tt)
all_push n k (x ∷ xs) above lt = (above.0, all_push n k xs above.1 lt)

pub rising_push : (xs : List AtomId) (n : ℕ) → IsRisingBy number xs → ((m : ℕ) → n ≤ m → set_of xs m ≡ false) → IsRisingBy number (xs ++ record { 0 = n } ∷ [])
rising_push [] n rising none = (tt, tt)
rising_push (x ∷ xs) n rising none =
    let lt : x.0 < n = elim (cases_lt x.0 n) [
      | inl below ↦ below
      | inr past ↦ absurd (false≢true (sym (none x.0 past) ∙ ap (λ b. b || set_of xs x.0) (eq-eqb x.0 x.0 refl)))
    ] in
    (all_push n x.0 xs rising.0 lt, rising_push xs n rising.1 (λ m past. (or_parts (eqb x.0 m) (set_of xs m) (none m past)).1))

pub set_push : (xs : List AtomId) (n m : ℕ) → set_of (xs ++ record { 0 = n } ∷ []) m ≡ (set_of xs m || eqb n m)
set_push [] n m = or_comm (eqb n m)
  where
    or_comm : (b : Bool) → (b || false) ≡ (false || b)
    or_comm true = refl
    or_comm false = refl
set_push (x ∷ xs) n m = ap (λ b. eqb x.0 m || b) (set_push xs n m) ∙ sym (or_assoc (eqb x.0 m) (set_of xs m) (eqb n m))
  where
    or_assoc : (a b c : Bool) → ((a || b) || c) ≡ (a || (b || c))
    or_assoc true b c = refl
    or_assoc false b c = refl

-- the list so far has the members below n
pub record Told (s : State) (n : ℕ) (xs : List AtomId) : Type 0 where
  pub same : (m : ℕ) → m < n → set_of xs m ≡ s m
  pub none : (m : ℕ) → n ≤ m → set_of xs m ≡ false
  pub rising : IsRisingBy number xs

pub told_member : (s : State) (n : ℕ) (xs : List AtomId) → Told s n xs → s n ≡ true → Told s (n + 1) (xs ++ record { 0 = n } ∷ [])
told_member s n xs told member = record {
  same = λ m lt. set_push xs n m ∙ (elim (cases_eq n m) as (λ _. (set_of xs m || eqb n m) ≡ s m) [
    | inl here ↦ ap₂ ◌||◌ (told.none m (omega arith)) (eq-eqb n m here) ∙ sym (ap s (sym here) ∙ member)
    | inr other ↦ ap₂ ◌||◌ (told.same m (omega arith)) (ne_eqb n m other) ∙ or_false (s m)
  ]);
  none = λ m le. set_push xs n m ∙ ap₂ ◌||◌ (told.none m (omega arith)) (ne_eqb n m (omega arith));
  rising = rising_push xs n told.rising told.none;
}
  where
    or_false : (b : Bool) → (b || false) ≡ b
    or_false true = refl
    or_false false = refl

pub told_other : (s : State) (n : ℕ) (xs : List AtomId) → Told s n xs → s n ≡ false → Told s (n + 1) xs
told_other s n xs told other = record {
  same = λ m lt. elim (cases_eq n m) as (λ _. set_of xs m ≡ s m) [
    | inl here ↦ told.none m (omega arith) ∙ sym (ap s (sym here) ∙ other)
    | inr differ ↦ told.same m (omega arith)
  ];
  none = λ m le. told.none m (omega arith);
  rising = told.rising;
}
