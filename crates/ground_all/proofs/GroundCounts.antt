-- The counts that are made are those of the fluent atoms and of the typed instances.
use Rattle.std.proofs.Common.{◌≡◌, ℕ, ◌≤◌, ◌^◌, List, map, length, ap, sym, ◌∙◌, arith}
use Rattle.std.specs.List.{sum}
use Rattle.type_check.specs.Values.{PlainTyped}
use Rattle.ground_all.specs.Grounding.{fluent_atoms, instances}
use Rattle.ground_all.specs.Found.{atom_blocks, name_blocks, HasFewAtoms, HasFewActions}
use Rattle.ground_all.proofs.BlockLaws.{atoms_sum, instances_sum}
use Rattle.ground_all.proofs.WatchedLaws.{length-task_atoms}

pub atoms_counted : (t : PlainTyped) (total : ℕ) (counts items : List ℕ) → total ≡ sum counts → counts ≡ items → items ≡ map length (atom_blocks t) → total ≡ length (fluent_atoms t)
atoms_counted t total counts items is same made = is ∙ ap sum (same ∙ made) ∙ sym (atoms_sum t)

pub actions_counted : (t : PlainTyped) (total : ℕ) (counts items : List ℕ) → total ≡ sum counts → counts ≡ items → items ≡ map length (name_blocks t) → total ≡ length (instances t)
actions_counted t total counts items is same made = is ∙ ap sum (same ∙ made) ∙ sym (instances_sum t)

-- where they are few, so are their sums
pub few_atoms_sum : (t : PlainTyped) (counts items : List ℕ) → items ≡ counts → HasFewAtoms t counts → sum items ≤ 3072
few_atoms_sum t counts items same few = omega (arith, ap sum (same ∙ few.counted), atoms_sum t, length-task_atoms t, few.few)

pub few_actions_sum : (t : PlainTyped) (counts items : List ℕ) → items ≡ counts → HasFewActions t counts → sum items ≤ 2 ^ 20
few_actions_sum t counts items same few = omega (arith, ap sum (same ∙ few.counted), instances_sum t, few.few)
