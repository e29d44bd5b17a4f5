-- Floors of cuts: a floor of levels, with the actions by the atoms that they add.
use Rattle.std.specs.Prelude.{◌≡◌, ◌↔◌, ℕ, ◌<◌, Bool, false, IsTrue, List, length, slice_get, Contains}
use Rattle.std.specs.Option.{option_map_or}
use Rattle.grd_base.specs.declared.ids.ActionId.{ActionId}
use Rattle.grd_base.specs.declared.ids.GoalId.{GoalId}
use Rattle.strips_model.specs.Values.{PlainTask}
use Rattle.strips_model.specs.Plans.{set_of}
use Rattle.strips_model.specs.Index.{listed}
use Rattle.level_bounds.specs.Floors.{PlainFloor, IsFloorOf}
use Rattle.level_bounds.specs.Waves.{is_usable}

-- a floor: its goal, the actions that may not be used, its floor of levels, the other actions by the atoms that
-- they add, and how many atoms each action needs
pub record PlainCutFloor : Type 0 where
  pub goal : GoalId
  pub removed : List ActionId
  pub level : PlainFloor
  pub adders : List (List ActionId)
  pub needs : List ℕ

-- whether the action with this number adds the atom
abbrev pub adds : PlainTask → ActionId → ℕ → Bool
adds t a n = option_map_or (λ act. set_of act.add n) (slice_get t.actions a.0) false

-- each usable action below the count is in the list of every atom that it adds, and no list has any other
pub record AreAdders (t : PlainTask) (removed : List ActionId) (count : ℕ) (lists : List (List ActionId)) : Type 0 where
  pub atoms : length lists ≡ t.atoms
  pub found : (n : ℕ) (a : ActionId) → Contains (listed lists n) a
      ↔ ((a.0 < count) × IsTrue (is_usable t removed a) × IsTrue (adds t a n))

-- the floor was made for the task
pub record IsCutFloorOf (t : PlainTask) (floor : PlainCutFloor) : Type 0 where
  pub level : IsFloorOf t floor.level
  pub same_goal : floor.level.goal ≡ floor.goal
  pub same_removed : floor.level.removed ≡ floor.removed
  pub added : AreAdders t floor.removed (length t.actions) floor.adders
  pub needs_sized : length floor.needs ≡ length t.actions
