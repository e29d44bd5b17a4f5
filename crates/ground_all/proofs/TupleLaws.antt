-- The tuples of places: their objects fit, and no two are the same.
use Rattle.std.specs.Prelude.{◌≡◌, ◌≢◌, ℕ, ◌<◌, List, length, All, AllPairs, Contains}
use Rattle.std.proofs.Common.{[], ◌∷◌, ◌++◌, suc, zero, map, get_or, refl, ap, subst, inl, inr, arith, ◌⊎◌}
use Rattle.std.specs.List.{flat_map}
use Rattle.std.proofs.lemmas.List.{get_or-map, length-map}
use Rattle.std.proofs.lemmas.List.Elements.{All-nil, All-cons, All-head, All-tail, All-append, All-contains, All-from_recursion, Contains-get_or, Contains-append_right, Contains-append_cases}
use Rattle.std.proofs.lemmas.List.Kept.{AllPairs-cons}
use Rattle.grd_base.specs.Rising.{IsRisingBy}
use Rattle.type_check.specs.Ground.{FitPlaces}
use Rattle.ground_all.specs.Tuples.{tuples}
use Rattle.ground_all.specs.Sound.{AreBelow}

-- ---- elements of lists

first_or_later : {X : Type 0} (x : X) (xs : List X) (y : X) → Contains (x ∷ xs) y → (x ≡ y) ⊎ Contains xs y
first_or_later x xs y (zero, within, is) = inl is
first_or_later x xs y (suc k, within, is) = inr (k, omega arith, is)

in_none : {X : Type 0} (x : X) → Contains [] x → ⊥
in_none x (k, within, is) = omega arith

first : {X : Type 0} (x : X) (xs : List X) → Contains (x ∷ xs) x
first x xs = (0, omega arith, refl)

module _ {X Y : Type 0} (f : X → Y) where
  has_map : (xs : List X) (y : Y) → Contains (map f xs) y → (x : X) × Contains xs x × (f x ≡ y)
  has_map [] y has = absurd (in_none y has)
  has_map (x ∷ xs) y has = elim (first_or_later (f x) (map f xs) y has) [
    | inl is ↦ (x, first x xs, is)
    | inr later ↦ let found = has_map xs y later in (found.0, Contains-append_right (x ∷ []) xs found.0 found.1, found.2)
  ]

module _ {X Y : Type 0} (f : X → List Y) where
  has_flat_map : (xs : List X) (y : Y) → Contains (flat_map f xs) y → (x : X) × Contains xs x × Contains (f x) y
  has_flat_map [] y has = absurd (in_none y has)
  has_flat_map (x ∷ xs) y has = elim (Contains-append_cases (f x) (flat_map f xs) y has) [
    | inl there ↦ (x, first x xs, there)
    | inr later ↦ let found = has_flat_map xs y later in (found.0, Contains-append_right (x ∷ []) xs found.0 found.1, found.2)
  ]

-- ---- lists without repeats

pairs_append : {X : Type 0} (R : X → X → Type 0) (xs ys : List X) → AllPairs R xs → AllPairs R ys → ((x y : X) → Contains xs x → Contains ys y → R x y) → AllPairs R (xs ++ ys)
pairs_append R [] ys left right across = right
pairs_append R (x ∷ xs) ys left right across =
    AllPairs-cons R x (xs ++ ys)
    (All-append (R x) xs ys (λ k d within. left 0 (suc k) d (omega arith) (omega arith)) (λ k d within. across x (get_or ys k d) (first x xs) (Contains-get_or ys k d within)))
    (pairs_append R xs ys (λ i j d less within. left (suc i) (suc j) d (omega arith) (omega arith)) right (λ y z has. across y z (Contains-append_right (x ∷ []) xs y has)))

module _ {Y : Type 0} (f : ℕ → List Y) (each : (k : ℕ) → AllPairs (λ a b. a ≢ b) (f k)) (apart : (i j : ℕ) → i < j → (a b : Y) → Contains (f i) a → Contains (f j) b → a ≢ b) where
  flat_map_differ : (ks : List ℕ) → IsRisingBy (λ k. k) ks → AllPairs (λ a b. a ≢ b) (flat_map f ks)
  flat_map_differ [] rise = λ i j d less within. absurd (omega arith)
  flat_map_differ (k ∷ ks) rise =
      pairs_append (λ a b. a ≢ b) (f k) (flat_map f ks) (each k) (flat_map_differ ks rise.1)
      (λ a b has later. let found = has_flat_map f ks b later in apart k found.0 (All-contains (λ j. k < j) ks found.0 (All-from_recursion (λ j. k < j) ks rise.0) found.1) a b has found.2)

-- ---- the laws

-- the tuples that begin with this object
abbrev pub with_first : List (List ℕ) → ℕ → List (List ℕ)
with_first rests k = map (λ (rest : List ℕ). k ∷ rest) rests

pub has_fit : (places : List (List ℕ)) (objects : List ℕ) → Contains (tuples places) objects → FitPlaces places objects
has_fit [] objects has = elim (first_or_later [] [] objects has) [
  | inl is ↦ subst (λ objects. FitPlaces [] objects) is tt
  | inr later ↦ absurd (in_none objects later)
]
has_fit (place ∷ places) objects has =
    let found = has_flat_map (with_first (tuples places)) place objects has in
    let rest = has_map (λ (rest : List ℕ). found.0 ∷ rest) (tuples places) objects found.2 in
    subst (λ objects. FitPlaces (place ∷ places) objects) rest.2 (found.1, has_fit places rest.0 rest.1)

first_differs : (rests : List (List ℕ)) (i j : ℕ) → i < j → (a b : List ℕ) → Contains (with_first rests i) a → Contains (with_first rests j) b → a ≢ b
first_differs rests i j less a b in_first in_second same =
    let one = has_map (λ (rest : List ℕ). i ∷ rest) rests a in_first in
    let other = has_map (λ (rest : List ℕ). j ∷ rest) rests b in_second in
    let heads : i ≡ j = cc (one.2, other.2) in
    omega arith

rest_differs : (rests : List (List ℕ)) → AllPairs (λ a b. a ≢ b) rests → (k : ℕ) → AllPairs (λ a b. a ≢ b) (with_first rests k)
rest_differs rests differ k i j d less within same =
    let f : List ℕ → List ℕ = λ (rest : List ℕ). k ∷ rest in
    let inside : j < length rests = omega (arith, length-map rests f) in
    let one = get_or-map f rests i [] d (omega arith) in
    let other = get_or-map f rests j [] d inside in
    differ i j [] less inside (cc (one, other))

pub tuples_differ : (places : List (List ℕ)) → All (IsRisingBy (λ k. k)) places → AllPairs (λ a b. a ≢ b) (tuples places)
tuples_differ [] rise = λ i j d less within. absurd (omega arith)
tuples_differ (place ∷ places) rise =
    flat_map_differ (with_first (tuples places)) (rest_differs (tuples places) (tuples_differ places (All-tail (IsRisingBy (λ k. k)) place places rise))) (first_differs (tuples places))
    place (All-head (IsRisingBy (λ k. k)) place places rise)

pub fit_length : (places : List (List ℕ)) (objects : List ℕ) → FitPlaces places objects → length objects ≡ length places
fit_length [] [] fit = refl
fit_length [] (k ∷ objects) fit = absurd fit
fit_length (place ∷ places) [] fit = absurd fit
fit_length (place ∷ places) (k ∷ objects) fit = ap suc (fit_length places objects fit.1)

pub fit_below : (count : ℕ) (places : List (List ℕ)) (objects : List ℕ) → AreBelow count places → FitPlaces places objects → All (λ k. k < count) objects
fit_below count [] [] below fit = All-nil (λ k. k < count)
fit_below count [] (k ∷ objects) below fit = absurd fit
fit_below count (place ∷ places) [] below fit = absurd fit
fit_below count (place ∷ places) (k ∷ objects) below fit =
    All-cons (λ j. j < count) k objects
    (All-contains (λ j. j < count) place k (All-head (All (λ j. j < count)) place places below) fit.0)
    (fit_below count places objects (All-tail (All (λ j. j < count)) place places below) fit.1)
