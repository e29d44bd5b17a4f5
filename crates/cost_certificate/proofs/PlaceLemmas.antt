-- The first element of a list that is bad stands at one place.
use Rattle.std.proofs.Common.{◌≡◌, ℕ, suc, List, [], ◌∷◌, ◌++◌, length, refl, sym, ◌∙◌, ap, subst, arith}
use Rattle.std.specs.Prelude.{All, AllPairs}
use Rattle.std.proofs.lemmas.List.Elements.{All-nil, All-cons, All-head, All-tail}
use Rattle.cost_certificate.specs.Faults.{IsFirstBad}

-- what holds of each element holds of one in the middle
pub all_middle : {X : Type 0} (P : X → Type 0) (before : List X) (item : X) (behind : List X) → All P (before ++ item ∷ behind) → P item
all_middle P [] item behind all = All-head P item behind all
all_middle P (x ∷ before) item behind all = all_middle P before item behind (All-tail P x (before ++ item ∷ behind) all)

-- what holds of each pair holds of each element before one in the middle, together with it
pub pairs_middle : {X : Type 0} (R : X → X → Type 0) (before : List X) (item : X) (behind : List X) → AllPairs R (before ++ item ∷ behind) → All (λ x. R x item) before
pairs_middle R [] item behind pairs = All-nil (λ x. R x item)
pairs_middle R (x ∷ before) item behind pairs =
    let first : R x item = all_middle (R x) before item behind (λ k d within. pairs 0 (suc k) d (omega arith) (omega arith)) in
    All-cons (λ y. R y item) x before first (pairs_middle R before item behind (λ i j d low high. pairs (suc i) (suc j) d (omega arith) (omega arith)))

-- two elements of one list are at the same place, or one of them stands before the other
data Places {X : Type 0} (before : List X) (item : X) (others : List X) (other : X) : Type 0 where
  same : before ≡ others → item ≡ other → Places before item others other
  earlier : (more : List X) → others ≡ before ++ item ∷ more → Places before item others other
  later : (more : List X) → before ≡ others ++ other ∷ more → Places before item others other

places_of : {X : Type 0} (before : List X) (item : X) (behind others : List X) (other : X) (rest : List X)
    → before ++ item ∷ behind ≡ others ++ other ∷ rest → Places before item others other
places_of [] item behind [] other rest e = same refl (cc)
places_of [] item behind (y ∷ ys) other rest e = earlier ys (cc)
places_of (x ∷ xs) item behind [] other rest e = later xs (cc)
places_of (x ∷ xs) item behind (y ∷ ys) other rest e =
    let first : x ≡ y = cc in
    elim (places_of xs item behind ys other rest (cc)) [
      | same before here ↦ same (cc) here
      | earlier more is ↦ earlier more (cc)
      | later more is ↦ later more (cc)
    ]

-- elements that break a list that is good before them are the same one
pub one_place : {X : Type 0} (Good : List X → Type 0) (Bad Wrong : List X → X → Type 0)
    → ((before : List X) (item : X) (behind : List X) → Bad before item → Good (before ++ item ∷ behind) → ⊥)
    → ((before : List X) (item : X) (behind : List X) → Wrong before item → Good (before ++ item ∷ behind) → ⊥)
    → (before : List X) (item : X) (behind others : List X) (other : X) (rest : List X) → before ++ item ∷ behind ≡ others ++ other ∷ rest
    → Good before → Good others → Bad before item → Wrong others other → (before ≡ others) × (item ≡ other)
one_place Good Bad Wrong breaks breaks_too before item behind others other rest e good good_too bad wrong =
    elim (places_of before item behind others other rest e) [
      | same fronts here ↦ (fronts, here)
      | earlier more is ↦ absurd (breaks before item more bad (subst Good is good_too))
      | later more is ↦ absurd (breaks_too others other more wrong (subst Good is good))
    ]

module _ {X : Type 0} (Good : X → Type 0) where
  -- a bad element is in no list of good ones
  bad_breaks : (Bad : X → Type 0) → ((x : X) → Bad x → Good x → ⊥) → (before : List X) (item : X) (behind : List X) → Bad item → All Good (before ++ item ∷ behind) → ⊥
  bad_breaks Bad differs before item behind bad good = differs item bad (all_middle Good before item behind good)

  -- where each is good, none is the first that is bad
  pub none_bad : (Bad : X → Type 0) → ((x : X) → Bad x → Good x → ⊥) → (xs : List X) (place : ℕ) → IsFirstBad Good Bad xs place → All Good xs → ⊥
  none_bad Bad differs xs place f good = bad_breaks Bad differs f.before f.item f.behind f.bad (subst (All Good) f.whole good)

  -- the first that is bad in one way is the first that is bad in another
  pub one_bad : (Bad Wrong : X → Type 0) → ((x : X) → Bad x → Good x → ⊥) → ((x : X) → Wrong x → Good x → ⊥)
      → (xs : List X) (place elsewhere : ℕ) (f : IsFirstBad Good Bad xs place) (h : IsFirstBad Good Wrong xs elsewhere)
      → (place ≡ elsewhere) × (f.item ≡ h.item)
  one_bad Bad Wrong differs differs_too xs place elsewhere f h =
      let same = one_place (All Good) (λ _ x. Bad x) (λ _ x. Wrong x) (bad_breaks Bad differs) (bad_breaks Wrong differs_too)
      f.before f.item f.behind h.before h.item h.behind (sym f.whole ∙ h.whole) f.good h.good f.bad h.bad in
      (f.counted ∙ ap length same.0 ∙ sym h.counted, same.1)
