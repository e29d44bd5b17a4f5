-- Cuts. The cut of a set of atoms is the actions that lead out of it: a plan from a state within the
-- set to a goal that the set leaves open takes one of them (after the landmark-cut heuristic of
-- Helmert and Domshlak 2009).
use Rattle.std.specs.Prelude.{◌≡◌, Bool, false, not, ◌&&◌, IsTrue, List, slice_get, All, AllPairs}
use Rattle.std.specs.Option.{option_map_or}
use Rattle.grd_base.specs.declared.ids.AtomId.{AtomId}
use Rattle.grd_base.specs.declared.ids.ActionId.{ActionId}
use Rattle.grd_base.specs.declared.ids.GoalId.{GoalId}
use Rattle.grd_base.specs.Rising.{has_id}
use Rattle.grd_base.specs.Sets.{IsSubset}
use Rattle.strips_model.specs.Values.{GroundAction, PlainTask}
use Rattle.strips_model.specs.Plans.{State, set_of, has_all, can_apply, goal_holds}

-- whether the action leads out of the set: it is not blocked, all that it needs is in the set, and
-- something that it adds is not
abbrev pub leads_out : State → GroundAction → Bool
leads_out u act = can_apply act u && not (has_all u act.add)

-- the cut of the set, as a test of actions: those that are not removed and lead out of it
unfoldable pub cut : PlainTask → List ActionId → State → ActionId → Bool
cut t removed u a = not (has_id removed a) && option_map_or (leads_out u) (slice_get t.actions a.0) false

-- no action passes both tests
abbrev pub AreDisjoint : (ActionId → Bool) → (ActionId → Bool) → Type 0
AreDisjoint c d = (a : ActionId) → IsTrue (c a) → IsTrue (d a) → ⊥

-- no action passes the test
abbrev pub IsEmptyCut : (ActionId → Bool) → Type 0
IsEmptyCut c = (a : ActionId) → c a ≡ false

-- the cuts of the two sets share no action
abbrev pub AreApart : PlainTask → List ActionId → List AtomId → List AtomId → Type 0
AreApart t removed u v = AreDisjoint (cut t removed (set_of u)) (cut t removed (set_of v))

-- a family for a state and a goal: each set contains the state and leaves the goal open, and the cuts
-- are pairwise disjoint
pub record IsFamily (t : PlainTask) (g : GoalId) (removed : List ActionId) (s : State) (sets : List (List AtomId)) : Type 0 where
  pub contain : All (λ u. IsSubset s (set_of u)) sets
  pub leave_open : All (λ u. goal_holds t g (set_of u) ≡ false) sets
  pub apart : AllPairs (AreApart t removed) sets
