-- Where the actions of a task are kept, so that those that apply in a state are found through its
-- atoms: an action stands with the atoms that it needs, or apart where it needs none.
use Rattle.std.specs.Prelude.{◌≡◌, ℕ, ◌<◌, false, List, length, Some, slice_get, All, Any, Contains, ◌⊎◌}
use Rattle.grd_base.specs.declared.ids.AtomId.{AtomId}
use Rattle.grd_base.specs.declared.ids.ActionId.{ActionId}
use Rattle.strips_model.specs.Values.{GroundAction, PlainTask}
use Rattle.strips_model.specs.Index.{listed}

-- the action stands apart, or in the list of an atom that it needs
abbrev pub IsFound : List ActionId → List (List ActionId) → List AtomId → ActionId → Type 0
IsFound free lists pre a = Contains free a ⊎ Any (λ p. Contains (listed lists p.0) a) pre

-- each action below the count that is not blocked is found, and the lists have actions of the task alone
pub record AreFiled (t : PlainTask) (count : ℕ) (free : List ActionId) (lists : List (List ActionId)) : Type 0 where
  pub atoms : length lists ≡ t.atoms
  pub apart : All (λ a. a.0 < length t.actions) free
  pub listed_in : (n : ℕ) → All (λ a. a.0 < length t.actions) (listed lists n)
  pub found : (a : ActionId) (act : GroundAction) → slice_get t.actions a.0 ≡ Some act → a.0 < count → act.blocked ≡ false
      → IsFound free lists act.pre a
