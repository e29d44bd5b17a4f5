-- Reached states, and which of them count for a goal.
use Rattle.std.specs.Prelude.{◌≡◌, ℕ, ◌+◌, ◌≤◌, Bool, List, [], length, Some}
use Rattle.grd_base.specs.declared.ids.ActionId.{ActionId}
use Rattle.grd_base.specs.declared.ids.GoalId.{GoalId}
use Rattle.strips_model.specs.Values.{PlainTask}
use Rattle.strips_model.specs.Agents.{BeginsOptimalAmong}
use Rattle.strips_model.specs.Hidden.{visible}
use Rattle.strips_model.specs.Plans.{State, after, start_of, IsPlan, IsCost}
use Rattle.strips_model.specs.Levels.{IsLevel}
use Rattle.strips_model.specs.Observed.{observed_task}

-- some sequence leads from the start to the state, in at most as many steps as the goal costs; where the
-- goal has no plan, of any length
pub record IsReachedFor (t : PlainTask) (g : GoalId) (u : State) : Type 0 where
  pub path : List ActionId
  pub leads : after t [] (start_of t) path ≡ Some u
  pub within : (c : ℕ) → IsCost t g [] (Some c) → length path ≤ c

-- some sequence leads from the start to the state without the removed actions, and its length and the
-- level of the goal at the state are together at most what the goal costs without them; where the goal
-- has no plan, any length and any level serve, but a level there must be
pub record IsNearWithout (t : PlainTask) (g : GoalId) (removed : List ActionId) (u : State) : Type 0 where
  pub path : List ActionId
  pub leads : after t removed (start_of t) path ≡ Some u
  pub level : ℕ
  pub level_is : IsLevel t g removed u (Some level)
  pub within : (c : ℕ) → IsCost t g removed (Some c) → length path + level ≤ c

-- the same with all actions
abbrev pub IsNear : PlainTask → GoalId → State → Type 0
IsNear t g = IsNearWithout t g []

-- the same for an agent with slack: the length and the level are together at most so much more than the goal
-- costs
pub record IsNearSlack (t : PlainTask) (g : GoalId) (slack : ℕ) (u : State) : Type 0 where
  pub path : List ActionId
  pub leads : after t [] (start_of t) path ≡ Some u
  pub level : ℕ
  pub level_is : IsLevel t g [] u (Some level)
  pub within : (c : ℕ) → IsCost t g [] (Some c) → length path + level ≤ c + slack

-- some sequence leads from the one state to the other without the removed actions, and its length and the
-- level of the goal there are together at most n
pub record IsNearWithin (t : PlainTask) (g : GoalId) (removed : List ActionId) (s : State) (n : ℕ) (u : State) : Type 0 where
  pub path : List ActionId
  pub leads : after t removed s path ≡ Some u
  pub level : ℕ
  pub level_is : IsLevel t g removed u (Some level)
  pub near : length path + level ≤ n

-- the goal has a cost in the task, and the state is near within that of the start of the observed task
pub record IsNearObserved (t : PlainTask) (os : List ActionId) (g : GoalId) (u : State) : Type 0 where
  pub cost : ℕ
  pub is_cost : IsCost t g [] (Some cost)
  pub near : IsNearWithin (observed_task t os) g [] (start_of (observed_task t os)) cost u

-- two states to which sequences lead that begin an optimal plan of the one goal and of the other, and of
-- which the same is seen
pub record IsHiddenPair (t : PlainTask) (hidden : List Bool) (i j : GoalId) (u v : State) : Type 0 where
  pub first : List ActionId
  pub second : List ActionId
  pub first_begins : BeginsOptimalAmong (IsPlan t) i [] first
  pub second_begins : BeginsOptimalAmong (IsPlan t) j [] second
  pub first_leads : after t [] (start_of t) first ≡ Some u
  pub second_leads : after t [] (start_of t) second ≡ Some v
  pub same : visible hidden first ≡ visible hidden second
