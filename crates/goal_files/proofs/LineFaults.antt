-- Lines that spell atoms, or a list of names, that fit nothing.
use Rattle.std.proofs.Common.{◌≡◌, ℕ, List, [], ◌∷◌, subst}
use Rattle.pddl_reader.specs.Sections.{Pairwise}
use Rattle.type_check.specs.Values.{PlainTyped, PlainGroundAtom, PlainGroundName}
use Rattle.goal_files.specs.Lines.{IsGoalLine}
use Rattle.goal_files.specs.Goals.{HasNoAtoms, HasUnknownAtom}
use Rattle.goal_files.specs.Ground.{IsAtomOf, IsActionOf}
use Rattle.goal_files.specs.Observations.{HasNoList, HasUnknownAction}
use Rattle.goal_files.proofs.Readings.{only_atoms}

abbrev Names : Type 0
Names = List (List ℕ)

pub unknown_atom : (t : PlainTyped) (line : List ℕ) (atoms : List Names) → IsGoalLine line atoms → ((ground_atoms : List PlainGroundAtom) → Pairwise (IsAtomOf t) atoms ground_atoms → ⊥) → HasUnknownAtom t line
unknown_atom t line atoms g none =
    ((atoms, g), λ goal spells. none spells.ground_atoms (subst (λ all. Pairwise (IsAtomOf t) all spells.ground_atoms) (only_atoms line spells.atoms atoms spells.spelled g) spells.are_atoms))

-- ---- one list of names

pub one_list : (line : List ℕ) (names others : Names) → IsGoalLine line (names ∷ []) → IsGoalLine line (others ∷ []) → names ≡ others
one_list line names others g h = let same : names ∷ [] ≡ others ∷ [] = only_atoms line (names ∷ []) (others ∷ []) g h in cc

pub unknown_action : (t : PlainTyped) (line : List ℕ) (names : Names) → IsGoalLine line (names ∷ []) → ((n : PlainGroundName) → IsActionOf t names n → ⊥) → HasUnknownAction t line
unknown_action t line names g none =
    ((names, g), λ n spells. none n (subst (λ all. IsActionOf t all n) (one_list line spells.names names spells.spelled g) spells.is_action))

pub no_list : (line : List ℕ) → HasNoAtoms line → HasNoList line
no_list line none names g = none (names ∷ []) g

-- a line of no list, or of more than one, spells no list of names
pub other_lists : (line : List ℕ) (lists : List Names) → IsGoalLine line lists → ((names : Names) → lists ≡ names ∷ [] → ⊥) → HasNoList line
other_lists line lists g other names h = other names (only_atoms line lists (names ∷ []) g h)
