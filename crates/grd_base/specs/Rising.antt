-- Rising lists: lists of numbered things in the order of their numbers, without repeats.
use Rattle.std.specs.Prelude.{ℕ, ◌<◌, List, [], ◌∷◌, Bool, ◌==◌}
use Rattle.std.specs.List.{AllByRecursion, list_any}
use Rattle.grd_base.specs.declared.ids.ActionId.{ActionId}

-- each element's number is below those of all later ones; n gives the number of an element
abbrev pub IsRisingBy : {X : Type 0} → (X → ℕ) → List X → Type 0
IsRisingBy n [] = Unit {0}
IsRisingBy n (x ∷ xs) = AllByRecursion (λ y. n x < n y) xs × IsRisingBy n xs

-- actions in rising order
abbrev pub IsRising : List ActionId → Type 0
IsRising = IsRisingBy (λ a. a.0)

-- whether the action is in the list, as a test that computes
abbrev pub has_id : List ActionId → ActionId → Bool
has_id ids a = list_any (λ b. b.0 == a.0) ids
