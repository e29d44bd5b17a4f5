-- Lists that are related one by one, as far as they have come, and what such pairs tell.
use Rattle.std.proofs.Common.{◌≡◌, ℕ, zero, suc, ◌+◌, ◌<◌, List, [], ◌∷◌, ◌++◌, length, get_or, map, take, Some, slice_get, refl, sym, ap, ◌∙◌, subst, arith, Bor}
use Rattle.std.specs.List.{All, zip}
use Rattle.std.proofs.lemmas.List.{take_more}
use Rattle.std.proofs.lemmas.List.Elements.{All-nil, All-cons, All-head, All-tail}
use Rattle.std.proofs.lemmas.Option.{none-some, same_Some}
use Rattle.std.proofs.lemmas.Slice.Zip.{firsts-zip}
use Rattle.pddl_reader.specs.Sections.{Pairwise}

pub pairs_push : {X Y : Type 0} (R : X → Y → Type 0) (xs : List X) (ys : List Y) (x : X) (y : Y) → Pairwise R xs ys → R x y → Pairwise R (xs ++ x ∷ []) (ys ++ y ∷ [])
pairs_push R [] [] x y h r = (r, tt)
pairs_push R [] (b ∷ ys) x y h r = absurd h
pairs_push R (a ∷ xs) [] x y h r = absurd h
pairs_push R (a ∷ xs) (b ∷ ys) x y h r = (h.0, pairs_push R xs ys x y h.1 r)

pub pairs_more : {X Y : Type 0} (R : X → Y → Type 0) (xs : List X) (ys next : List Y) (i : ℕ) (x : X) (y : Y) → i < length xs → x ≡ get_or xs i x → next ≡ ys ++ y ∷ []
    → Pairwise R (take i xs) ys → R x y → Pairwise R (take (i + 1) xs) next
pairs_more R xs ys next i x y within is more h r =
    let front : take (i + 1) xs ≡ take i xs ++ x ∷ [] = take_more xs i x within ∙ ap (λ a. take i xs ++ a ∷ []) (sym is) in
    subst (λ zs. Pairwise R zs next) (sym front)
    (subst (Pairwise R (take i xs ++ x ∷ [])) (sym more) (pairs_push R (take i xs) ys x y h r))

-- the firsts of what a walk over two lists has met
firsts-turns : {X Y : Type 0} (turns : List (Bor X × Y)) → map (λ t. t.0.now) turns ≡ map (λ (p : X × Y). p.0) (map (λ t. (t.0.now, t.1)) turns)
firsts-turns [] = refl
firsts-turns (t ∷ turns) = ap (λ xs. t.0.now ∷ xs) (firsts-turns turns)

pub firsts_are : {X Y : Type 0} (turns : List (Bor X × Y)) (xs : List X) (ys : List Y) → length ys ≡ length xs → map (λ t. (t.0.now, t.1)) turns ≡ zip xs ys → map (λ t. t.0.now) turns ≡ xs
firsts_are turns xs ys many are = firsts-turns turns ∙ ap (map (λ p. p.0)) are ∙ firsts-zip xs ys many

-- ---- what pairs tell

pub pairs_length : {X Y : Type 0} (R : X → Y → Type 0) (xs : List X) (ys : List Y) → Pairwise R xs ys → length xs ≡ length ys
pairs_length R [] [] h = refl
pairs_length R [] (y ∷ ys) h = absurd h
pairs_length R (x ∷ xs) [] h = absurd h
pairs_length R (x ∷ xs) (y ∷ ys) h = omega (arith, pairs_length R xs ys h.1)

-- what holds of each of the first holds of each of the second
pub pairs_give : {X Y : Type 0} (R : X → Y → Type 0) (P : X → Type 0) (Q : Y → Type 0) → ((x : X) (y : Y) → R x y → P x → Q y)
    → (xs : List X) (ys : List Y) → Pairwise R xs ys → All P xs → All Q ys
pairs_give R P Q step [] [] h all = All-nil Q
pairs_give R P Q step [] (y ∷ ys) h all = absurd h
pairs_give R P Q step (x ∷ xs) [] h all = absurd h
pairs_give R P Q step (x ∷ xs) (y ∷ ys) h all =
    All-cons Q y ys (step x y h.0 (All-head P x xs all)) (pairs_give R P Q step xs ys h.1 (All-tail P x xs all))

-- what the pairs tell of the first
pub pairs_tell : {X Y : Type 0} (R : X → Y → Type 0) (P : X → Type 0) → ((x : X) (y : Y) → R x y → P x) → (xs : List X) (ys : List Y) → Pairwise R xs ys → All P xs
pairs_tell R P step [] ys h = All-nil P
pairs_tell R P step (x ∷ xs) [] h = absurd h
pairs_tell R P step (x ∷ xs) (y ∷ ys) h = All-cons P x xs (step x y h.0) (pairs_tell R P step xs ys h.1)

-- the second at the place of a first
pub pairs_at : {X Y : Type 0} (R : X → Y → Type 0) (xs : List X) (ys : List Y) (n : ℕ) (x : X) → Pairwise R xs ys → slice_get xs n ≡ Some x
    → (y : Y) × (slice_get ys n ≡ Some y) × R x y
pairs_at R [] ys n x h at = absurd (none-some x at)
pairs_at R (a ∷ xs) [] n x h at = absurd h
pairs_at R (a ∷ xs) (y ∷ ys) zero x h at = (y, refl, subst (λ z. R z y) (same_Some a x at) h.0)
pairs_at R (a ∷ xs) (y ∷ ys) (suc n) x h at = pairs_at R xs ys n x h.1 at

-- the first at the place of a second
pub pairs_from : {X Y : Type 0} (R : X → Y → Type 0) (xs : List X) (ys : List Y) (n : ℕ) (y : Y) → Pairwise R xs ys → slice_get ys n ≡ Some y
    → (x : X) × (slice_get xs n ≡ Some x) × R x y
pairs_from R xs [] n y h at = absurd (none-some y at)
pairs_from R [] (b ∷ ys) n y h at = absurd h
pairs_from R (x ∷ xs) (b ∷ ys) zero y h at = (x, refl, subst (R x) (same_Some b y at) h.0)
pairs_from R (x ∷ xs) (b ∷ ys) (suc n) y h at = pairs_from R xs ys n y h.1 at
