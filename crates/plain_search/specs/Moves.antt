-- The actions that a state is expanded over.
use Rattle.std.specs.Prelude.{not, List, map, filter}
use Rattle.std.specs.List.{enumerate_from}
use Rattle.grd_base.specs.declared.ids.ActionId.{ActionId}
use Rattle.strips_model.specs.Values.{PlainTask}

-- the numbers of the actions that are not blocked, rising
unfoldable pub unblocked_of : PlainTask → List ActionId
unblocked_of t = map (λ x. record { 0 = x.0 }) (filter (λ x. not x.1.blocked) (enumerate_from 0 t.actions))
