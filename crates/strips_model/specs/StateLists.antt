-- States as lists of atoms.
use Rattle.std.specs.Prelude.{ℕ, zero, suc, List, [], ◌∷◌, if◌then◌else◌}
use Rattle.grd_base.specs.declared.ids.AtomId.{AtomId}
use Rattle.strips_model.specs.Values.{PlainTask}
use Rattle.strips_model.specs.Plans.{State}

-- the atoms of a state among the n counted from k, rising
unfoldable pub atoms_from : State → ℕ → ℕ → List AtomId
atoms_from s k zero = []
atoms_from s k (suc n) = if s k then record { 0 = k } ∷ atoms_from s (suc k) n else atoms_from s (suc k) n

-- the atoms of a state of the task, rising
abbrev pub atoms_in : PlainTask → State → List AtomId
atoms_in t s = atoms_from s 0 t.atoms
