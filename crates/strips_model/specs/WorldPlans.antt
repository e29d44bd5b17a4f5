-- States, steps and plans of a world: as those of a task, but an action may need atoms to be false as well.
use Rattle.std.specs.Prelude.{◌≡◌, ℕ, ◌<◌, Bool, false, not, ◌&&◌, if◌then◌else◌, IsTrue, List, [], ◌∷◌, Option, Some, None, slice_get, IsSomeAnd}
use Rattle.std.specs.Option.{option_map_or, option_and_then}
use Rattle.std.specs.List.{list_all}
use Rattle.grd_base.specs.declared.ids.AtomId.{AtomId}
use Rattle.grd_base.specs.declared.ids.ActionId.{ActionId}
use Rattle.grd_base.specs.declared.ids.GoalId.{GoalId}
use Rattle.grd_base.specs.Rising.{has_id}
use Rattle.grd_base.specs.Sets.{union, minus}
use Rattle.strips_model.specs.Values.{WorldAction, PlainWorld}
use Rattle.strips_model.specs.Plans.{State, set_of, has_all, satisfies}

-- whether no atom of the list is in the state
abbrev pub has_none : State → List AtomId → Bool
has_none s xs = list_all (λ a. not (s a.0)) xs

-- whether the action applies in the state: it is not blocked, all that it needs is true, and all that must be
-- false is false
abbrev pub world_can_apply : WorldAction → State → Bool
world_can_apply act s = not act.blocked && (has_all s act.pre && has_none s act.absent)

-- the state after the action: an atom that is both deleted and added is true
abbrev pub world_effect : WorldAction → State → State
world_effect act s = union (minus s (set_of act.del)) (set_of act.add)

-- the step by the action with this number, where it applies
unfoldable pub world_step : PlainWorld → State → ActionId → Option State
world_step w s a = option_and_then (λ act. if world_can_apply act s then Some (world_effect act s) else None) (slice_get w.actions a.0)

-- the step by the action with this number, where it is not removed and applies
unfoldable pub world_step_without : PlainWorld → List ActionId → State → ActionId → Option State
world_step_without w removed s a = if has_id removed a then None else world_step w s a

-- the state after the sequence, where each action in its turn is not removed and applies;
-- the empty sequence leaves the state
unfoldable pub world_after : PlainWorld → List ActionId → State → List ActionId → Option State
world_after w removed s [] = Some s
world_after w removed s (a ∷ rest) = option_and_then (λ u. world_after w removed u rest) (world_step_without w removed s a)

-- whether the goal with this number holds in the state
abbrev pub world_goal_holds : PlainWorld → GoalId → State → Bool
world_goal_holds w g s = option_map_or (λ goal. satisfies goal s) (slice_get w.goals g.0) false

-- the state after the sequence from the start, without the removed actions
abbrev pub world_end : PlainWorld → List ActionId → List ActionId → Option State
world_end w removed p = world_after w removed (set_of w.init) p

-- a plan of the goal without the removed actions: it leads from the start to a state where the goal holds
abbrev pub IsWorldPlan : PlainWorld → GoalId → List ActionId → List ActionId → Type 0
IsWorldPlan w g removed p = IsSomeAnd (world_end w removed p) (λ s. IsTrue (world_goal_holds w g s))

-- two ends of a sequence in a world and in a task: it can't be taken in either, or it leads in both to states with
-- the same fluent atoms
abbrev pub IsSameEnd : PlainWorld → Option State → Option State → Type 0
IsSameEnd w None None = Unit {0}
IsSameEnd w (Some s) (Some u) = (n : ℕ) → n < w.fluents → s n ≡ u n
IsSameEnd w x y = ⊥
