-- The observed task: its plans are the plans of the task that embed the observations. Each observation
-- has an atom, numbered behind those of the task, and a copy of its action, numbered behind those of the
-- task. A copy needs the atom of the observation before it as well, and adds its own as well. Each goal
-- needs the atom of the last observation as well. The task's own actions stay as they are (after Ramírez
-- and Geffner 2009; the exact rule is this project's own).
use Rattle.std.specs.Prelude.{ℕ, zero, suc, ◌+◌, ◌-◌, true, List, [], ◌∷◌, ◌++◌, length, map, Option, Some, None, nat_lt, if◌then◌else◌, slice_get, get_or}
use Rattle.std.specs.Option.{unwrap_or}
use Rattle.grd_base.specs.declared.ids.AtomId.{AtomId}
use Rattle.grd_base.specs.declared.ids.ActionId.{ActionId}
use Rattle.strips_model.specs.Values.{GroundAction, Goal, PlainTask}

-- the atom of the k-th observation, counted from 0
abbrev pub atom_of : PlainTask → ℕ → AtomId
atom_of t k = record { 0 = t.atoms + k }

-- the atom of the observation before the k-th, if there is one
abbrev pub atom_before : PlainTask → ℕ → Option AtomId
atom_before t zero = None
atom_before t (suc k) = Some (atom_of t k)

-- a list with one atom more behind it, or without
abbrev pub with_more : List AtomId → Option AtomId → List AtomId
with_more xs None = xs
with_more xs (Some a) = xs ++ a ∷ []

-- the copy of an action for the k-th observation
abbrev pub copy_of : PlainTask → ℕ → GroundAction → GroundAction
copy_of t k act = record {
  pre = with_more act.pre (atom_before t k);
  add = act.add ++ atom_of t k ∷ [];
  del = act.del;
  blocked = act.blocked;
}

-- an action that never applies
abbrev pub no_action : GroundAction
no_action = record { pre = []; add = []; del = []; blocked = true }

-- the copies for the observations, the first of which is the k-th; for a number that is none of the
-- task's actions one that never applies
abbrev pub copies_of : PlainTask → ℕ → List ActionId → List GroundAction
copies_of t k [] = []
copies_of t k (o ∷ os) = copy_of t k (unwrap_or (slice_get t.actions o.0) no_action) ∷ copies_of t (suc k) os

-- a goal that needs the atom of the last of so many observations as well
abbrev pub goal_with : PlainTask → ℕ → Goal → Goal
goal_with t count goal = record { atoms = with_more goal.atoms (atom_before t count); blocked = goal.blocked }

-- the observed task; without observations it is the task
abbrev pub observed_task : PlainTask → List ActionId → PlainTask
observed_task t os = record {
  atoms = t.atoms + length os;
  init = t.init;
  actions = t.actions ++ copies_of t 0 os;
  goals = map (goal_with t (length os)) t.goals;
}

-- the action of the task for which an action of the observed task stands: a copy stands for its
-- observation, every other action for itself
abbrev pub read_as : PlainTask → List ActionId → ActionId → ActionId
read_as t os a = if nat_lt a.0 (length t.actions) then a else get_or os (a.0 - length t.actions) a
