-- Claimed costs, sets of removed actions, and how long a set leaves two goals hidden. A set of actions is
-- given by a list of its members in any order: a list of n actions has at most n members, and each set of at
-- most n members is such a list. That a list may name an action twice makes it no other set.
use Rattle.std.specs.Prelude.{◌≡◌, ℕ, ◌≤◌, false, IsTrue, List, length, Option, Some, slice_get}
use Rattle.grd_base.specs.declared.ids.ActionId.{ActionId}
use Rattle.grd_base.specs.declared.ids.GoalId.{GoalId}
use Rattle.grd_base.specs.Rising.{has_id}
use Rattle.strips_model.specs.Values.{PlainTask}
use Rattle.strips_model.specs.Plans.{IsCost}
use Rattle.strips_model.specs.Common.{IsCommon}

-- the numbers are the costs of the goals without the removed actions, in the order of the goals; a goal
-- without a plan has none
pub record AreCosts (t : PlainTask) (removed : List ActionId) (costs : List (Option ℕ)) : Type 0 where
  pub each_goal : length costs ≡ length t.goals
  pub right : (k : ℕ) (c : Option ℕ) → slice_get costs k ≡ Some c → IsCost t (record { 0 = k }) removed c

-- the list gives the goal this number
abbrev pub Gives : List (Option ℕ) → GoalId → ℕ → Type 0
Gives costs g c = slice_get costs g.0 ≡ Some (Some c)

-- each action of the one list is in the other
abbrev pub AreAmong : List ActionId → List ActionId → Type 0
AreAmong xs ys = (a : ActionId) → IsTrue (has_id xs a) → IsTrue (has_id ys a)

-- no action of the one list is in the other
abbrev pub AreOutside : List ActionId → List ActionId → Type 0
AreOutside xs ys = (a : ActionId) → IsTrue (has_id xs a) → has_id ys a ≡ false

-- without the removed actions some sequence of at least n actions is common to two goals, so that these
-- can't be told apart for n steps
abbrev pub HidesFor : PlainTask → List ActionId → ℕ → Type 0
HidesFor t removed n = (i j : GoalId) × (q : List ActionId) × (n ≤ length q) × IsCommon t removed i j q
