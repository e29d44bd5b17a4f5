-- Lists of numbered things, compared item by item.
use Rattle.std.proofs.Common.{◌≡◌, ◌↔◌, ℕ, eqb, Bool, true, List, [], ◌∷◌, ◌++◌, length, take, drop, refl, sym, ◌∙◌, ap}
use mathlib.Core.Path.{ap₂, subst}
use lib.Pointwise.{pointwise}
use Rattle.std.specs.Prelude.{IsTrue}
use Rattle.std.proofs.lemmas.Bool.{false≢true, and_parts, and_from, eqb-true, eq-eqb}
use Rattle.std.proofs.Math.Seq.{take-append_seam}
use Rattle.std.proofs.lemmas.List.{take-append-drop}
use Rattle.grd_base.specs.declared.ids.AtomId.{AtomId}
use Rattle.grd_base.specs.declared.ids.ActionId.{ActionId}
use Rattle.grd_base.specs.Rising.{IsRisingBy}
use Rattle.strips_model.specs.Agents.{BeginsWith}
use Rattle.strips_model.specs.Plans.{set_of}
use Rattle.strips_model.proofs.AtomLists.{rising_same}

module _ {X : Type 0} (number : X → ℕ) where
  -- the test of two things by their numbers
  abbrev pub same_by : X → X → Bool
  same_by a b = eqb (number a) (number b)

  pub same_list : ((x y : X) → number x ≡ number y → x ≡ y) → (xs ys : List X) → pointwise same_by xs ys ≡ true → xs ≡ ys
  same_list exact [] [] h = refl
  same_list exact [] (y ∷ ys) h = absurd (false≢true h)
  same_list exact (x ∷ xs) [] h = absurd (false≢true h)
  same_list exact (x ∷ xs) (y ∷ ys) h =
      let parts = and_parts (same_by x y) (pointwise same_by xs ys) h in
      ap₂ ◌∷◌ (exact x y (eqb-true (number x) (number y) parts.0)) (same_list exact xs ys parts.1)

  pub list_same : (xs : List X) → pointwise same_by xs xs ≡ true
  list_same [] = refl
  list_same (x ∷ xs) = and_from (same_by x x) (pointwise same_by xs xs) (eq-eqb (number x) (number x) refl) (list_same xs)

-- rising lists of atoms that are the same have the same set, and no others
pub atoms_tell : (xs ys : List AtomId) (b : Bool) → IsRisingBy (λ a. a.0) xs → IsRisingBy (λ a. a.0) ys → b ≡ pointwise (same_by (λ (a : AtomId). a.0)) xs ys → IsTrue b ↔ (set_of xs ≡ set_of ys)
atoms_tell xs ys b rise also is = (
  λ h. ap set_of (same_list (λ (a : AtomId). a.0) (λ x y e. ap (λ n. record { 0 = n }) e) xs ys (sym is ∙ h)),
  λ h. is ∙ subst (λ zs. pointwise (same_by (λ (a : AtomId). a.0)) xs zs ≡ true) (rising_same xs ys rise also h) (list_same (λ (a : AtomId). a.0) xs),
)

-- whether a plan begins with a sequence, by its first actions
pub begins_tells : (plan prefix : List ActionId) (b : Bool) → b ≡ pointwise (same_by (λ (a : ActionId). a.0)) prefix (take (length prefix) plan) → IsTrue b ↔ BeginsWith plan prefix
begins_tells plan prefix b is = (
  λ h.
      let front : prefix ≡ take (length prefix) plan = same_list (λ (a : ActionId). a.0) (λ x y e. ap (λ n. record { 0 = n }) e) prefix (take (length prefix) plan) (sym is ∙ h) in
      (drop (length prefix) plan, sym (take-append-drop (length prefix) plan) ∙ ap (λ xs. xs ++ drop (length prefix) plan) (sym front)),
  λ begins.
      let front : take (length prefix) plan ≡ prefix = ap (take (length prefix)) begins.1 ∙ take-append_seam prefix begins.0 in
      is ∙ subst (λ xs. pointwise (same_by (λ (a : ActionId). a.0)) prefix xs ≡ true) (sym front) (list_same (λ (a : ActionId). a.0) prefix),
)
