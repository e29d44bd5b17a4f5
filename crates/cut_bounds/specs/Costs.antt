-- Tables of costs: nothing of what atoms cost is promised, only that the tables have the task's sizes.
use Rattle.std.specs.Prelude.{◌≡◌, ◌<◌, ℕ, List, length, All, IsTrue}
use Rattle.grd_base.specs.declared.ids.AtomId.{AtomId}
use Rattle.strips_model.specs.Values.{PlainTask}
use Rattle.strips_model.specs.Plans.{State, set_of}

-- there is a number for each atom and for each action, and the atoms that are noted are the task's
pub record AreCosts (t : PlainTask) (atoms actions : List ℕ) (fallen : List AtomId) : Type 0 where
  pub atoms_sized : length atoms ≡ t.atoms
  pub actions_sized : length actions ≡ length t.actions
  pub below : All (λ a. a.0 < t.atoms) fallen

-- a zone that grows: its bits are its atoms, which are the task's, and none of them is the state's
pub record IsGrowing (t : PlainTask) (s bits : State) (atoms : List AtomId) : Type 0 where
  pub same : bits ≡ set_of atoms
  pub below : All (λ a. a.0 < t.atoms) atoms
  pub apart : (n : ℕ) → IsTrue (s n) → IsTrue (set_of atoms n) → ⊥
