-- When two atoms are the same, and how atoms stand in a world.
use Rattle.std.proofs.Common.{◌≡◌, ℕ, true, false, not, ◌&&◌, List, get_or, Some, slice_get, refl, ap}
use mathlib.Core.Path.{ap₂}
use Rattle.std.specs.Bool.{Decides}
use Rattle.std.proofs.lemmas.Bool.Decides.{Decides-eqb, Decides-and, Decides-like}
use Rattle.std.proofs.lemmas.List.Folds.{list_any_at}
use Rattle.std.proofs.lemmas.Option.{slice_get_within, get_or_from_slice_get}
use Rattle.std.proofs.lemmas.Slice.Eq.{bytes_eq-Decides}
use Rattle.grd_base.specs.declared.ids.AtomId.{AtomId}
use Rattle.strips_model.specs.Worlds.{has_atom}
use Rattle.type_check.specs.Values.{PlainTyped, PlainGroundAtom, is_same_atom}
use Rattle.ground_all.specs.declared.atoms.Standing.{Standing}
use Rattle.ground_all.specs.declared.atoms.Standing.TheVariants.{Fluent, True, False}
use Rattle.ground_all.specs.Grounding.{fluent_atoms, is_true_at_start}
use Rattle.ground_all.specs.Found.{IsStanding}

-- two atoms are the same exactly where the test says so.
pub same_atom_decides : (a b : PlainGroundAtom) → Decides (is_same_atom a b) (a ≡ b)
same_atom_decides a b =
    Decides-like (is_same_atom a b) (λ e. ap₂ made e.0 e.1) (λ e. (ap (λ (x : PlainGroundAtom). x.predicate) e, ap (λ (x : PlainGroundAtom). x.objects) e))
    (Decides-and _ _ (Decides-eqb a.predicate b.predicate) (bytes_eq-Decides a.objects b.objects))
  where
    made : ℕ → List ℕ → PlainGroundAtom
    made q objects = record { predicate = q; objects = objects }

-- an atom that is not fluent
pub static_is : (t : PlainTyped) (a : PlainGroundAtom) (s : Standing) → IsStanding t a s → ((n : AtomId) → s ≡ Fluent n → ⊥) → has_atom is_same_atom (fluent_atoms t) a ≡ false
static_is t a (Fluent n) standing other = absurd (other n refl)
static_is t a True standing other = standing.0
static_is t a False standing other = standing.0

-- a fluent atom
fluent_is : (t : PlainTyped) (a : PlainGroundAtom) (n : ℕ) → slice_get (fluent_atoms t) n ≡ Some a → has_atom is_same_atom (fluent_atoms t) a ≡ true
fluent_is t a n there =
    list_any_at (λ b. is_same_atom b a) (fluent_atoms t) n a (slice_get_within (fluent_atoms t) n a there)
    ((same_atom_decides (get_or (fluent_atoms t) n a) a).1 (get_or_from_slice_get (fluent_atoms t) n a a there))

-- an atom that is not both static and false at the start
pub other_is : (t : PlainTyped) (a : PlainGroundAtom) (s : Standing) → IsStanding t a s → (s ≡ False → ⊥)
    → (not (has_atom is_same_atom (fluent_atoms t) a) && not (is_true_at_start t a)) ≡ false
other_is t a (Fluent n) standing other = ap (λ b. not b && not (is_true_at_start t a)) (fluent_is t a n.0 standing)
other_is t a True standing other = ap₂ (λ b d. not b && not d) standing.0 standing.1
other_is t a False standing other = absurd (other refl)

-- an atom that is not both static and true at the start
pub not_true_is : (t : PlainTyped) (a : PlainGroundAtom) (s : Standing) → IsStanding t a s → (s ≡ True → ⊥)
    → (not (has_atom is_same_atom (fluent_atoms t) a) && is_true_at_start t a) ≡ false
not_true_is t a (Fluent n) standing other = ap (λ b. not b && is_true_at_start t a) (fluent_is t a n.0 standing)
not_true_is t a True standing other = absurd (other refl)
not_true_is t a False standing other = ap₂ (λ b d. not b && d) standing.0 standing.1
