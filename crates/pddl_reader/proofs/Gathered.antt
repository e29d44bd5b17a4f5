-- What a list gives with one more at its end.
use Rattle.std.proofs.Common.{◌≡◌, Bool, true, false, ◌||◌, List, [], ◌∷◌, ◌++◌, refl, sym, ap, ◌∙◌, append-nil}
use Rattle.std.specs.List.{flat_map}
use Rattle.std.proofs.lemmas.Bool.{false≢true}
use Rattle.std.proofs.lemmas.List.Concat.{flat_map-append}

-- the first that gives something, and one that gives nothing
pub with_first : {X A : Type 0} (f : X → List A) (seen : List X) (v : X) (xs : List A) → flat_map f seen ≡ [] → xs ≡ f v → xs ≡ flat_map f (seen ++ v ∷ [])
with_first f seen v xs none e = e ∙ sym (flat_map-append f seen (v ∷ []) ∙ ap (λ ys. ys ++ (f v ++ [])) none ∙ append-nil (f v))

pub with_none : {X A : Type 0} (f : X → List A) (seen : List X) (v : X) (xs : List A) → xs ≡ flat_map f seen → f v ≡ [] → xs ≡ flat_map f (seen ++ v ∷ [])
with_none f seen v xs e none = e ∙ sym (flat_map-append f seen (v ∷ []) ∙ ap (λ ys. flat_map f seen ++ (ys ++ [])) none ∙ append-nil (flat_map f seen))

-- neither of two tests passes
pub or_false : (a b : Bool) → (a || b) ≡ false → (a ≡ false) × (b ≡ false)
or_false true b h = absurd (false≢true (sym h))
or_false false b h = (refl, h)

pub or_false_right : (a : Bool) → (a || false) ≡ a
or_false_right true = refl
or_false_right false = refl
