-- Lists that grow by an element, and lists made of others.
use Rattle.std.proofs.Common.{◌≡◌, ◌⊎◌, ℕ, zero, suc, List, [], ◌∷◌, ◌++◌, length, map, get_or, Some, refl, ap, ◌∙◌, inl, inr, arith}
use Rattle.std.specs.Prelude.{slice_get, All, Any, Contains}
use Rattle.std.proofs.lemmas.List.Elements.{All-head, Contains-get_or}
use Rattle.std.proofs.lemmas.List.{length-map, get_or-map}

-- an element behind others, or one of them
pub at_push : {X : Type 0} (xs : List X) (x : X) (i : ℕ) (y : X) → slice_get (xs ++ x ∷ []) i ≡ Some y → (slice_get xs i ≡ Some y) ⊎ ((i ≡ length xs) × (x ≡ y))
at_push [] x zero y e = inr (refl, cc)
at_push [] x (suc i) y e = cc
at_push (z ∷ xs) x zero y e = inl e
at_push (z ∷ xs) x (suc i) y e = elim (at_push xs x i y e) as (λ _. (slice_get (z ∷ xs) (suc i) ≡ Some y) ⊎ ((suc i ≡ length (z ∷ xs)) × (x ≡ y))) [
  | inl before ↦ inl before
  | inr last ↦ inr (ap suc last.0, last.1)
]

-- an element of a list made of another is made of an element of that
pub Contains-from_map : {X Y : Type 0} (f : X → Y) (xs : List X) (y : Y) → Contains (map f xs) y → Any (λ x. f x ≡ y) xs
Contains-from_map f [] y there = absurd (omega (arith, there.1))
Contains-from_map f (x ∷ xs) y (zero, within, at) = (0, x, omega arith, refl, at)
Contains-from_map f (x ∷ xs) y (suc k, within, at) =
    let later = Contains-from_map f xs y (k, omega arith, at) in
    (suc later.0, later.1, omega (arith, later.2), later.3, later.4)

-- the images of a list's elements are in the mapped list
pub Contains-map : {X Y : Type 0} (f : X → Y) (xs : List X) (x : X) → Contains xs x → Contains (map f xs) (f x)
Contains-map f xs x (k, within, at) = (k, omega (arith, length-map xs f), get_or-map f xs k x (f x) within ∙ ap f at)

-- where each element is, the first of a list that is not empty is
pub any_first : {X : Type 0} (P : X → Type 0) (xs : List X) → All P xs → length xs ≡ 1 → Any P xs
any_first P [] all one = cc
any_first P (x ∷ xs) all one = (0, x, omega arith, refl, All-head P x xs all)

-- what holds of each element that the list contains holds of all
pub All-from_contains : {X : Type 0} (P : X → Type 0) (xs : List X) → ((x : X) → Contains xs x → P x) → All P xs
All-from_contains P xs each = λ k d within. each (get_or xs k d) (Contains-get_or xs k d within)
