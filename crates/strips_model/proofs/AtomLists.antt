-- Rising lists of atoms: two with the same set are the same, and one lies below each bound that its set keeps.
use Rattle.std.proofs.Common.{◌≡◌, ◌==◌, ℕ, ◌<◌, ◌≤◌, false, List, get_or, refl, sym, ◌∙◌, ap, inl, inr}
use Rattle.std.specs.List.{AllByRecursion}
use Rattle.std.proofs.lemmas.Bool.{false≢true, eq-eqb, cases_lt}
use Rattle.std.proofs.lemmas.List.Folds.{list_any_at}
use Rattle.grd_base.specs.declared.ids.AtomId.{AtomId}
use Rattle.grd_base.specs.Rising.{IsRisingBy}
use Rattle.strips_model.specs.Values.{AreAtoms}
use Rattle.strips_model.specs.Plans.{set_of}
use Rattle.strips_model.proofs.RisingLists as rising

abbrev pub number : AtomId → ℕ
number a = a.0

pub not_below : (n : ℕ) (xs : List AtomId) → AllByRecursion (λ y. n < y.0) xs → set_of xs n ≡ false
not_below = rising.not_below number

-- rising lists with the same set are the same
pub rising_same : (xs ys : List AtomId) → IsRisingBy number xs → IsRisingBy number ys → set_of xs ≡ set_of ys → xs ≡ ys
rising_same xs ys rise_x rise_y e = rising.rising_same number (λ x y same. ap (λ n. record { 0 = n }) same) xs ys rise_x rise_y (λ n. ap (λ f. f n) e)

-- a rising list has the atoms below any bound that its set keeps
pub atoms_below : (wide bound : ℕ) (xs : List AtomId) → AreAtoms wide xs → ((n : ℕ) → bound ≤ n → set_of xs n ≡ false) → AreAtoms bound xs
atoms_below wide bound xs are none = record {
  rise = are.rise;
  below = λ k d within.
      let a = get_or xs k d in
      elim (cases_lt a.0 bound) [
        | inl low ↦ low
        | inr high ↦ absurd (false≢true (sym (none a.0 high) ∙ list_any_at (λ b. b.0 == a.0) xs k d within (eq-eqb a.0 a.0 refl)))
      ];
}
