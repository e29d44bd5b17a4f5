-- Elements at their places, and one more element at the end.
use Rattle.std.proofs.Common.{◌≡◌, ℕ, zero, suc, ◌<◌, ◌⊎◌, List, [], ◌∷◌, ◌++◌, length, map, refl, ap, ◌∙◌, inl, inr, arith, Some}
use Rattle.std.specs.Prelude.{slice_get, Any}
use Rattle.std.specs.Option.{option_map}
use Rattle.std.proofs.lemmas.Option.{slice_get-map, slice_get-get_or, slice_get_within, get_or_from_slice_get}

module _ {X : Type 0} where
  -- an old place, or that of the new element
  pub pushed_cases : (xs : List X) (y x : X) (k : ℕ) → slice_get (xs ++ y ∷ []) k ≡ Some x → (slice_get xs k ≡ Some x) ⊎ ((k ≡ length xs) × (x ≡ y))
  pushed_cases [] y x zero h = inr (refl, cc)
  pushed_cases [] y x (suc k) h = cc
  pushed_cases (z ∷ xs) y x zero h = inl h
  pushed_cases (z ∷ xs) y x (suc k) h =
      elim (pushed_cases xs y x k h) as (λ _. (slice_get xs k ≡ Some x) ⊎ ((suc k ≡ suc (length xs)) × (x ≡ y))) [ inl old ↦ inl old | inr new ↦ inr (ap suc new.0, new.1) ]

  pub pushed_old : (xs : List X) (y x : X) (k : ℕ) → slice_get xs k ≡ Some x → slice_get (xs ++ y ∷ []) k ≡ Some x
  pushed_old [] y x k h = cc
  pushed_old (z ∷ xs) y x zero h = h
  pushed_old (z ∷ xs) y x (suc k) h = pushed_old xs y x k h

  pub pushed_new : (xs : List X) (y : X) → slice_get (xs ++ y ∷ []) (length xs) ≡ Some y
  pushed_new [] y = refl
  pushed_new (z ∷ xs) y = pushed_new xs y

  pub old_at : (xs : List X) (y x : X) (k : ℕ) → k < length xs → slice_get (xs ++ y ∷ []) k ≡ Some x → slice_get xs k ≡ Some x
  old_at xs y x k within at = elim (pushed_cases xs y x k at) [ inl old ↦ old | inr new ↦ absurd (omega (arith, new.0)) ]

  pub there : (xs : List X) (k : ℕ) → k < length xs → (x : X) × (slice_get xs k ≡ Some x)
  there [] k within = absurd (omega arith)
  there (x ∷ xs) zero within = (x, refl)
  there (x ∷ xs) (suc k) within = there xs k (omega arith)

  pub same_at : (xs : List X) (k : ℕ) (x y : X) → slice_get xs k ≡ Some x → slice_get xs k ≡ Some y → x ≡ y
  same_at xs k x y p q = cc

  pub Any-from_at : (P : X → Type 0) (xs : List X) (k : ℕ) (x : X) → slice_get xs k ≡ Some x → P x → Any P xs
  Any-from_at P xs k x at p = (k, x, slice_get_within xs k x at, get_or_from_slice_get xs k x x at, p)

  pub at_from_Any : (P : X → Type 0) (xs : List X) → Any P xs → (k : ℕ) × (x : X) × (slice_get xs k ≡ Some x) × P x
  at_from_Any P xs any = (any.0, any.1, slice_get-get_or xs any.0 any.1 any.2 ∙ ap Some any.3, any.4)

-- what stands at a place of a mapped list comes from the same place
pub at_of_map : {X Y : Type 0} (f : X → Y) (xs : List X) (k : ℕ) (y : Y) → slice_get (map f xs) k ≡ Some y → (x : X) × (slice_get xs k ≡ Some x) × (f x ≡ y)
at_of_map f [] k y h = cc
at_of_map f (x ∷ xs) zero y h = (x, refl, cc)
at_of_map f (x ∷ xs) (suc k) y h = at_of_map f xs k y h

pub map_at : {X Y : Type 0} (f : X → Y) (xs : List X) (k : ℕ) (x : X) → slice_get xs k ≡ Some x → slice_get (map f xs) k ≡ Some (f x)
map_at f xs k x h = slice_get-map f xs k ∙ ap (option_map f) h
