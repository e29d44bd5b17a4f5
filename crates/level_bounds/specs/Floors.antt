-- Bounds from levels, and the families that show them.
use Rattle.std.specs.Prelude.{◌≡◌, ℕ, zero, suc, ◌<◌, ◌≤◌, List, [], ◌∷◌, ◌++◌, length, Option, Some, None, All}
use Rattle.grd_base.specs.declared.ids.AtomId.{AtomId}
use Rattle.grd_base.specs.declared.ids.ActionId.{ActionId}
use Rattle.grd_base.specs.declared.ids.GoalId.{GoalId}
use Rattle.grd_base.specs.declared.limits.Bound.{Bound}
use Rattle.grd_base.specs.declared.limits.Bound.TheVariants.{Steps, Never}
use Rattle.strips_model.specs.Values.{PlainTask}
use Rattle.strips_model.specs.Plans.{State, set_of}
use Rattle.strips_model.specs.StateLists.{atoms_in}
use Rattle.strips_model.specs.Cuts.{cut, IsEmptyCut}
use Rattle.strips_model.specs.Levels.{after_rounds, IsLevel, level_at}
use Rattle.level_bounds.specs.Waves.{AreFiled}

-- a floor: its goal, the actions that may not be used, and the others, by the atoms that they need or apart
pub record PlainFloor : Type 0 where
  pub goal : GoalId
  pub removed : List ActionId
  pub free : List ActionId
  pub needed_by : List (List ActionId)

-- the floor was made for the task: its goal is the task's, and its actions are those of the task that are
-- neither blocked nor removed
pub record IsFloorOf (t : PlainTask) (floor : PlainFloor) : Type 0 where
  pub goal_in : floor.goal.0 < length t.goals
  pub filed : AreFiled t floor.removed (length t.actions) floor.free floor.needed_by

-- the level that a bound stands for: none for `Never`
abbrev pub level_of : Bound → Option ℕ
level_of (Steps n) = Some n
level_of Never = None

-- n steps are as many as the bound says are needed; for `Never` no number is enough
abbrev pub MeetsBound : Bound → ℕ → Type 0
MeetsBound (Steps r) n = r ≤ n
MeetsBound Never n = ⊥

-- the sets show the level of the goal at the state: where it is n, there are n of them and none has an
-- empty cut; where it is none, there is one, with an empty cut
pub record ShowsLevel (t : PlainTask) (g : GoalId) (removed : List ActionId) (s : State) (sets : List (List AtomId)) : Type 0 where
  pub some : (n : ℕ) → IsLevel t g removed s (Some n)
      → (length sets ≡ n) × All (λ u. IsEmptyCut (cut t removed (set_of u)) → ⊥) sets
  pub none : IsLevel t g removed s None → (length sets ≡ 1) × All (λ u. IsEmptyCut (cut t removed (set_of u))) sets
