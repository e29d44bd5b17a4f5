-- Tuples of objects.
use Rattle.std.specs.Prelude.{ℕ, ◌+◌, List, [], ◌∷◌, map}
use Rattle.std.specs.List.{flat_map}

-- all tuples with an object of each place, in dictionary order
abbrev pub tuples : List (List ℕ) → List (List ℕ)
tuples [] = [] ∷ []
tuples (place ∷ places) = flat_map (λ k. map (λ (rest : List ℕ). k ∷ rest) (tuples places)) place

-- each with its number, from k on
abbrev pub numbered : {X : Type 0} → ℕ → List X → List (ℕ × X)
numbered k [] = []
numbered k (x ∷ xs) = (k, x) ∷ numbered (k + 1) xs
