-- The atoms that rounds reach, as a list.
use Rattle.std.proofs.Common.{◌≡◌, ℕ, List, ap, ◌∙◌}
use Rattle.grd_base.specs.declared.ids.AtomId.{AtomId}
use Rattle.grd_base.specs.declared.ids.ActionId.{ActionId}
use Rattle.strips_model.specs.Values.{PlainTask, AreAtoms, IsTask}
use Rattle.strips_model.specs.Plans.{State, IsOver, set_of}
use Rattle.strips_model.specs.StateLists.{atoms_in}
use Rattle.strips_model.specs.Levels.{after_rounds}
use Rattle.strips_model.proofs.AtomLists.{atoms_below}
use Rattle.strips_model.proofs.StateListLemmas.{atoms_are}
use Rattle.strips_model.proofs.LevelLaws.{rounds_over}

module _ (t : PlainTask) (removed : List ActionId) (s : State) where
  -- a rising list with the atoms of a round is its list
  pub set_is : IsTask t → IsOver t s → (wide : ℕ) (set : List AtomId) (k : ℕ) → set_of set ≡ after_rounds t removed s k → AreAtoms wide set → set ≡ atoms_in t (after_rounds t removed s k)
  set_is task over wide set k same rises =
      let none = rounds_over t task removed s over k in
      atoms_are (after_rounds t removed s k) t.atoms set none (atoms_below wide t.atoms set rises (λ n high. ap (λ v. v n) same ∙ none n high)) same
