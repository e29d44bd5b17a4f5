-- The sets of actions that a design may have to look at: those of useful actions.
use Rattle.std.specs.Prelude.{◌≢◌, ℕ, ◌<◌, ◌≤◌, IsTrue, List, [], length, All, AllPairs}
use Rattle.grd_base.specs.declared.ids.ActionId.{ActionId}
use Rattle.grd_base.specs.declared.ids.GoalId.{GoalId}
use Rattle.grd_base.specs.Rising.{IsRising, has_id}
use Rattle.strips_model.specs.Agents.{Plans, IsOptimalAmong}

-- the action is useful: it occurs in an optimal plan of some goal
pub record IsUsefulAmong (plans : Plans) (a : ActionId) : Type 0 where
  pub goal : GoalId
  pub plan : List ActionId
  pub optimal : IsOptimalAmong plans goal [] plan
  pub occurs : IsTrue (has_id plan a)

-- a set of at most k useful actions, given by the rising list of its members
pub record IsUsefulSetAmong (plans : Plans) (k : ℕ) (set : List ActionId) : Type 0 where
  pub rise : IsRising set
  pub few : length set ≤ k
  pub useful : All (IsUsefulAmong plans) set

-- there are more than n different sets of at most k useful actions, the empty set among them
pub record HasMoreSetsAmong (plans : Plans) (k n : ℕ) : Type 0 where
  pub sets : List (List ActionId)
  pub each : All (IsUsefulSetAmong plans k) sets
  pub differ : AllPairs (λ one other. one ≢ other) sets
  pub more : n < length sets
