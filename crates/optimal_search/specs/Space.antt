-- The space of a task, a goal and removed actions: its states are bit sets.
use Rattle.std.specs.Prelude.{◌≡◌, ℕ, ◌*◌, ◌<◌, ◌≤◌, Bool, List, length, Option}
use Rattle.std.specs.Option.{option_map}
use Rattle.std.specs.List.{filter_map}
use Rattle.grd_base.specs.declared.bits.Bits.{Bits}
use Rattle.grd_base.specs.declared.ids.ActionId.{ActionId}
use Rattle.grd_base.specs.declared.ids.GoalId.{GoalId}
use Rattle.grd_base.specs.Bits.{members, bits_of, IsWhole}
use Rattle.strips_model.specs.Values.{PlainTask}
use Rattle.strips_model.specs.Plans.{step, goal_holds, IsOver}
use Rattle.strips_model.specs.Moves.{allowed_of}
use Rattle.strips_model.specs.Levels.{level_at}
use Rattle.cut_bounds.specs.CutFloors.{PlainCutFloor, IsCutFloorOf}
use Rattle.optimal_search.specs.declared.actions.TaskActions.{TaskActions}
use Rattle.optimal_search.specs.declared.actions.TaskActions.TheVariants.{Own, Lent}

-- a state of the task, as a program holds it
pub record IsState {W : ℕ} (t : PlainTask) (s : Bits W) : Type 0 where
  pub whole : IsWhole s
  pub over : IsOver t (members s)

-- the step of the action from the state, where it applies
abbrev pub labelled_step : {W : ℕ} → PlainTask → Bits W → ActionId → Option (ActionId × Bits W)
labelled_step t s a = option_map (λ u. (a, bits_of u)) (step t (members s) a)

-- the steps from the state by actions that are not removed, in the order of the actions' numbers
unfoldable pub successors_of : {W : ℕ} → PlainTask → List ActionId → Bits W → List (ActionId × Bits W)
successors_of t removed s = filter_map (labelled_step t s) (allowed_of t removed)

-- whether the goal holds in the state
abbrev pub holds_in : {W : ℕ} → PlainTask → GoalId → Bits W → Bool
holds_in t g s = goal_holds t g (members s)

-- the level of the goal at the state
abbrev pub level_in : {W : ℕ} → PlainTask → GoalId → List ActionId → Bits W → Option ℕ
level_in t g removed s = level_at t g removed (members s)

-- a space: its task, its goal and the actions that may not be used
pub record PlainSpace : Type 0 where
  pub task : PlainTask
  pub goal : GoalId
  pub removed : List ActionId

-- the task of a table of actions, be it one's own or lent
abbrev pub task_in : TaskActions → PlainTask
task_in (Own table) = table
task_in (Lent table) = table.now

-- what every space keeps: its states hold the atoms of the task, and its table and its floor are those of
-- the task, the floor for the goal without the removed actions
pub record IsSpaceOf (W : ℕ) (t : PlainTask) (g : GoalId) (removed : List ActionId) (table : PlainTask) (floor : PlainCutFloor) : Type 0 where
  pub width : W ≤ 64
  pub atoms : t.atoms ≤ 64 * W
  pub goal_in : g.0 < length t.goals
  pub table_of : table ≡ t
  pub floor_of : IsCutFloorOf t floor
  pub floor_goal : floor.goal ≡ g
  pub floor_removed : floor.removed ≡ removed
