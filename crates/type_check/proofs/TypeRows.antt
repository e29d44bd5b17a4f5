-- The chains of parents of two small domains, whose parents are not all declared.
use Rattle.std.proofs.Common.{◌≡◌, ℕ, zero, suc, Bool, false, List, [], ◌∷◌, Option, Some, None, refl, ap}
use Rattle.std.specs.Prelude.{codes}
use Rattle.std.specs.Str.{bytes_eq}
use Rattle.std.proofs.lemmas.Bool.{false≢true}
use Rattle.pddl_reader.specs.Forms.{Word}
use Rattle.pddl_reader.specs.Values.{PlainTypedName, PlainDomain}
use Rattle.type_check.specs.Types.{object_type, above, Returns}

abbrev word : List ℕ → Word
word text = record { text = text; at = 0 }

abbrev under : List ℕ → List ℕ → PlainTypedName
under t parent = record { name = word t; types = word parent ∷ [] }

abbrev with_types : List PlainTypedName → PlainDomain
with_types types = record { name = word []; types = types; constants = []; predicates = []; actions = [] }

-- (:types a - b object - a): from `a` the chain goes over `b` and `object`, and returns
abbrev over_b : PlainDomain
over_b = with_types (under (codes "a") (codes "b") ∷ under (codes "object") (codes "a") ∷ [])

a_returns : Returns over_b (codes "a")
unfolding object_type
a_returns = (2, refl)

-- (:types a - z object - z): from `a` it goes over `z` and `object` for ever, from `object` it returns
abbrev over_z : PlainDomain
over_z = with_types (under (codes "a") (codes "z") ∷ under (codes "object") (codes "z") ∷ [])

object_returns : Returns over_z (codes "object")
unfolding object_type
object_returns = (1, refl)

abbrev is_a : Option (List ℕ) → Bool
is_a None = false
is_a (Some t) = bytes_eq t (codes "a")

never_a : (n : ℕ) → (above over_z n (codes "z") ≡ Some (codes "a") → ⊥) × (above over_z n (codes "object") ≡ Some (codes "a") → ⊥)
unfolding object_type
never_a zero = (λ e. false≢true (ap is_a e), λ e. false≢true (ap is_a e))
never_a (suc n) = let before = never_a n in (λ e. before.1 e, λ e. before.0 e)

a_stays : Returns over_z (codes "a") → ⊥
unfolding object_type
a_stays h = (never_a h.0).0 h.1
