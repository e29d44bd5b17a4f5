-- Lists that are seen by a function of their elements.
use Rattle.std.proofs.Common.{◌≡◌, ℕ, ◌<◌, List, length, map, get_or, sym, ap, ◌∙◌, subst, arith}
use Rattle.std.specs.List.{All}
use Rattle.std.proofs.lemmas.List.{length-map, get_or-map}

-- an element stands there
pub element_here : {X Y : Type 0} (f : X → Y) (xs : List X) (i : ℕ) (x : X) (y : Y) → i < length xs → x ≡ get_or xs i x → y ≡ f x → (i < length (map f xs)) × (y ≡ get_or (map f xs) i y)
element_here f xs i x y within is e = (omega (arith, length-map xs f), e ∙ ap f is ∙ sym (get_or-map f xs i x y within))

-- each has the property
pub all_mapped : {X Y : Type 0} (P : Y → Type 0) (f : X → Y) (xs : List X) (ys : List Y) → ys ≡ map f xs → All P ys → All (λ x. P (f x)) xs
all_mapped P f xs ys e all k d within = subst P (get_or-map f xs k d (f d) within) (subst (All P) e all k (f d) (omega (arith, length-map xs f)))
