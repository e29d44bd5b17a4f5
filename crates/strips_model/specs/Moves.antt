-- The actions over which a state is expanded.
use Rattle.std.specs.Prelude.{ℕ, Bool, not, ◌&&◌, List, map, filter}
use Rattle.std.specs.List.{enumerate_from}
use Rattle.grd_base.specs.declared.ids.ActionId.{ActionId}
use Rattle.grd_base.specs.Rising.{has_id}
use Rattle.strips_model.specs.Values.{PlainTask, GroundAction}

-- whether the action with this number is neither blocked nor removed
abbrev pub is_allowed : List ActionId → ℕ × GroundAction → Bool
is_allowed removed x = not x.1.blocked && not (has_id removed (record { 0 = x.0 }))

-- the numbers of the actions that are neither blocked nor removed, rising
unfoldable pub allowed_of : PlainTask → List ActionId → List ActionId
allowed_of t removed = map (λ x. record { 0 = x.0 }) (filter (is_allowed removed) (enumerate_from 0 t.actions))

-- a task with the actions that may not be used
pub record PlainMoves : Type 0 where
  pub task : PlainTask
  pub removed : List ActionId
