-- How the rounds of a level are made: which actions may reach more atoms, found through the atoms that
-- were reached last.
use Rattle.std.specs.Prelude.{◌≡◌, ℕ, ◌<◌, Bool, false, not, ◌&&◌, ◌||◌, IsTrue, List, [], length, Some, slice_get, All, Contains}
use Rattle.std.specs.Option.{option_map_or}
use Rattle.std.specs.List.{list_any}
use Rattle.grd_base.specs.declared.ids.AtomId.{AtomId}
use Rattle.grd_base.specs.declared.ids.ActionId.{ActionId}
use Rattle.grd_base.specs.Rising.{has_id}
use Rattle.strips_model.specs.Values.{GroundAction, PlainTask}
use Rattle.strips_model.specs.Plans.{State, set_of, has_all, is_step}
use Rattle.strips_model.specs.Index.{listed}

-- whether the action is one of the task's, and neither blocked nor removed
abbrev pub is_usable : PlainTask → List ActionId → ActionId → Bool
is_usable t removed a = not (has_id removed a) && option_map_or (λ act. not act.blocked) (slice_get t.actions a.0) false

-- the usable actions below the count, each in the list of every atom that it needs, or apart where it
-- needs none
pub record AreFiled (t : PlainTask) (removed : List ActionId) (count : ℕ) (free : List ActionId) (lists : List (List ActionId)) : Type 0 where
  pub atoms : length lists ≡ t.atoms
  pub apart : All (λ a. IsTrue (is_usable t removed a)) free
  pub listed_usable : (n : ℕ) → All (λ a. IsTrue (is_usable t removed a)) (listed lists n)
  pub found_apart : (a : ActionId) (act : GroundAction) → slice_get t.actions a.0 ≡ Some act → a.0 < count
      → IsTrue (is_usable t removed a) → act.pre ≡ [] → Contains free a
  pub found_listed : (a : ActionId) (act : GroundAction) → slice_get t.actions a.0 ≡ Some act → a.0 < count
      → IsTrue (is_usable t removed a) → (n : ℕ) → IsTrue (set_of act.pre n) → Contains (listed lists n) a

-- whether the action is not in the list
abbrev pub is_other : List ActionId → ActionId → Bool
is_other list a = not (has_id list a)

-- the candidates are usable, and each usable action that applies in the set and adds something that is
-- not in it is among them
pub record AreReady (t : PlainTask) (removed : List ActionId) (u : State) (candidates : List ActionId) : Type 0 where
  pub usable : All (λ a. IsTrue (is_usable t removed a)) candidates
  pub all_in : (a : ActionId) (act : GroundAction) → slice_get t.actions a.0 ≡ Some act → IsTrue (is_usable t removed a)
      → IsTrue (is_step t u a) → has_all u act.add ≡ false → Contains candidates a

-- whether the action applies in the set and adds the atom
abbrev pub is_added : PlainTask → State → ℕ → ActionId → Bool
is_added t u n a = is_step t u a && option_map_or (λ act. set_of act.add n) (slice_get t.actions a.0) false

-- a set after some candidates acted in it at once, and the atoms that are new in it
pub record IsGrowth (t : PlainTask) (u : State) (candidates : List ActionId) (reached : State) (fresh : List AtomId) : Type 0 where
  pub reached_all : (n : ℕ) → reached n ≡ (u n || list_any (is_added t u n) candidates)
  pub fresh_all : (n : ℕ) → set_of fresh n ≡ (reached n && not (u n))
