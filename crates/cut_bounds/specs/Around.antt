-- The sets of the lists of a mark.
use Rattle.std.specs.Prelude.{◌≡◌, false, true, List}
use Rattle.grd_base.specs.declared.ids.AtomId.{AtomId}
use Rattle.grd_base.specs.declared.ids.ActionId.{ActionId}
use Rattle.grd_base.specs.declared.ids.GoalId.{GoalId}
use Rattle.grd_base.specs.Rising.{has_id}
use Rattle.grd_base.specs.Sets.{IsSubset}
use Rattle.strips_model.specs.Values.{PlainTask, AreAtoms}
use Rattle.strips_model.specs.Plans.{State, IsOver, set_of, goal_holds}
use Rattle.strips_model.specs.StateLists.{atoms_in}
use Rattle.strips_model.specs.Cuts.{cut}
use Rattle.cut_bounds.specs.CutMarks.{reached_around}

-- a set that contains the state and leaves the goal open, and whose cut lies in the list; for a state of the
-- task it has the atoms that are reached around the list
pub record IsAround (t : PlainTask) (g : GoalId) (removed : List ActionId) (s : State) (list : List ActionId) (set : List AtomId) : Type 0 where
  pub contains : IsSubset s (set_of set)
  pub leaves_open : goal_holds t g (set_of set) ≡ false
  pub cut_in : (a : ActionId) → cut t removed (set_of set) a ≡ true → has_id list a ≡ true
  pub exact : IsOver t s → set ≡ atoms_in t (reached_around t removed list s)
  pub atoms : IsOver t s → AreAtoms t.atoms set
