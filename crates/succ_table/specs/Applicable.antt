-- The actions that apply in a state.
use Rattle.std.specs.Prelude.{Bool, not, ◌&&◌, List, filter}
use Rattle.grd_base.specs.declared.ids.ActionId.{ActionId}
use Rattle.grd_base.specs.Rising.{has_id}
use Rattle.strips_model.specs.Values.{PlainTask}
use Rattle.strips_model.specs.Plans.{State, is_step}
use Rattle.strips_model.specs.Moves.{allowed_of}

-- the numbers of the actions that apply in the state and are not removed, rising
abbrev pub applicable_of : PlainTask → List ActionId → State → List ActionId
applicable_of t removed s = filter (is_step t s) (allowed_of t removed)

-- whether the action applies in the state and is not removed
abbrev pub is_open : PlainTask → List ActionId → State → ActionId → Bool
is_open t removed s a = is_step t s a && not (has_id removed a)
