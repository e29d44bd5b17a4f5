-- Bit sets: `==` decides whether two are the same, and whole ones with the same members are.
use Rattle.std.proofs.Common.{◌≡◌, ◌==◌, Bool, Decides, List, ℕ, ap, refl}
use Rattle.std.proofs.lemmas.Bool.Decides.{Decides-eqb}
use Rattle.std.proofs.lemmas.Slice.Eq.{slice_eq-Decides}
use lib.Pointwise.{pointwise}
use Rattle.grd_base.specs.declared.bits.Bits.{Bits}
use Rattle.grd_base.specs.Bits.{members, IsWhole}
use Rattle.grd_base.proofs.BitsLemmas.{same_words}

module _ {W : ℕ} where
  -- `==` of two bit sets
  abbrev pub bits_eq : Bits W → Bits W → Bool
  bits_eq a b = pointwise ◌==◌ a.words b.words

  pub bits_eq-Decides : (a b : Bits W) → Decides (bits_eq a b) (a ≡ b)
  bits_eq-Decides a b =
      let words = slice_eq-Decides Decides-eqb a.words b.words (bits_eq a b) refl in
      let bits : List ℕ → Bits W = λ ws. record { words = ws } in
      (λ same. ap bits (words.0 same), λ e. words.1 (ap (λ (c : Bits W). c.words) e))

  pub same_by_members : (a b : Bits W) → IsWhole a → IsWhole b → members a ≡ members b → a ≡ b
  unfolding members
  same_by_members a b whole_a whole_b same =
      let bits : List ℕ → Bits W = λ ws. record { words = ws } in
      ap bits (same_words W a.words b.words whole_a.wide whole_b.wide whole_a.fits whole_b.fits same)
