-- States, steps, plans and costs, after PDDL 2.1 without time and numbers: every action costs one.
-- An action or a goal whose number is none of the task's never applies, and never holds.
use Rattle.std.specs.Prelude.{◌≡◌, ℕ, ◌≤◌, Bool, false, not, ◌&&◌, ◌==◌, if◌then◌else◌, IsTrue, List, [], ◌∷◌, Option, Some, None, slice_get, IsSomeAnd}
use Rattle.std.specs.Option.{option_map_or, option_and_then}
use Rattle.std.specs.List.{list_any, list_all}
use Rattle.grd_base.specs.declared.ids.AtomId.{AtomId}
use Rattle.grd_base.specs.declared.ids.ActionId.{ActionId}
use Rattle.grd_base.specs.declared.ids.GoalId.{GoalId}
use Rattle.grd_base.specs.Rising.{has_id}
use Rattle.grd_base.specs.Sets.{Set, union, minus}
use Rattle.strips_model.specs.Values.{GroundAction, Goal, PlainTask}
use Rattle.strips_model.specs.Agents.{IsLeastLength, IsCostAmong, IsOptimalAmong, IsRecognisedAmong}

-- a state: the set of the atoms that are true
abbrev pub State : Type 0
State = Set

-- the state has atoms of the task alone
abbrev pub IsOver : PlainTask → State → Type 0
IsOver t s = (n : ℕ) → t.atoms ≤ n → s n ≡ false

-- the set of the atoms of a list
abbrev pub set_of : List AtomId → State
set_of xs n = list_any (λ a. a.0 == n) xs

-- whether each atom of the list is in the state
abbrev pub has_all : State → List AtomId → Bool
has_all s xs = list_all (λ a. s a.0) xs

-- whether the action applies in the state: it is not blocked, and all that it needs is true
abbrev pub can_apply : GroundAction → State → Bool
can_apply act s = not act.blocked && has_all s act.pre

-- the state after the action: what it deletes is taken out, and then what it adds is put in,
-- so an atom that is both deleted and added is true
abbrev pub effect : GroundAction → State → State
effect act s = union (minus s (set_of act.del)) (set_of act.add)

-- whether the action with this number applies in the state
unfoldable pub is_step : PlainTask → State → ActionId → Bool
is_step t s a = option_map_or (λ act. can_apply act s) (slice_get t.actions a.0) false

-- the step by the action with this number, where it applies
unfoldable pub step : PlainTask → State → ActionId → Option State
step t s a = option_and_then (λ act. if can_apply act s then Some (effect act s) else None) (slice_get t.actions a.0)

-- the step by the action with this number, where it is not removed and applies
unfoldable pub step_without : PlainTask → List ActionId → State → ActionId → Option State
step_without t removed s a = if has_id removed a then None else step t s a

-- the state after the sequence, where each action in its turn is not removed and applies;
-- the empty sequence leaves the state
unfoldable pub after : PlainTask → List ActionId → State → List ActionId → Option State
after t removed s [] = Some s
after t removed s (a ∷ rest) = option_and_then (λ u. after t removed u rest) (step_without t removed s a)

-- whether the goal holds in the state: it is not blocked, and its atoms are true
abbrev pub satisfies : Goal → State → Bool
satisfies g s = not g.blocked && has_all s g.atoms

-- whether the goal with this number holds in the state
abbrev pub goal_holds : PlainTask → GoalId → State → Bool
goal_holds t g s = option_map_or (λ goal. satisfies goal s) (slice_get t.goals g.0) false

-- the state at the start
abbrev pub start_of : PlainTask → State
start_of t = set_of t.init

-- the sequence leads, without the removed actions, from the state to one where the goal holds
abbrev pub Reaches : PlainTask → GoalId → List ActionId → State → List ActionId → Type 0
Reaches t g removed s p = IsSomeAnd (after t removed s p) (λ u. IsTrue (goal_holds t g u))

-- a plan of the goal without the removed actions: it leads there from the start
abbrev pub IsPlan : PlainTask → GoalId → List ActionId → List ActionId → Type 0
IsPlan t g removed p = Reaches t g removed (start_of t) p

-- the distance to the goal: some sequence of that length leads there from the state, and none
-- that is shorter does; or none, where no sequence at all leads there
abbrev pub IsDistance : PlainTask → GoalId → List ActionId → State → Option ℕ → Type 0
IsDistance t g removed s c = IsLeastLength (Reaches t g removed s) c

-- the cost of the goal: its distance from the start, the least length of a plan
abbrev pub IsCost : PlainTask → GoalId → List ActionId → Option ℕ → Type 0
IsCost t = IsCostAmong (IsPlan t)

-- a plan whose length is the cost
abbrev pub IsOptimal : PlainTask → GoalId → List ActionId → List ActionId → Type 0
IsOptimal t = IsOptimalAmong (IsPlan t)

-- some optimal plan of the goal embeds the observations
abbrev pub IsRecognised : PlainTask → GoalId → List ActionId → Type 0
IsRecognised t = IsRecognisedAmong (IsPlan t)
