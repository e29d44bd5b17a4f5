-- The goals that a file gives over a typed domain and problem, and what is at fault in a file that
-- gives none.
use Rattle.std.specs.Prelude.{◌≡◌, ℕ, ◌<◌, ◌≤◌, List, [], length}
use Rattle.pddl_reader.specs.Sections.{Pairwise}
use Rattle.type_check.specs.Values.{PlainTyped, PlainGroundAtom}
use Rattle.goal_files.specs.Lines.{IsGoalLine}
use Rattle.goal_files.specs.Ground.{IsAtomOf, without_repeats}
use Rattle.goal_files.specs.SpelledLines.{SpellLines, IsFirstBad}
use Rattle.goal_files.specs.declared.faults.GoalFault.{GoalFault}
use Rattle.goal_files.specs.declared.faults.GoalFault.TheVariants.{Shape, UnknownAtom, NoGoal, TooManyGoals, OutOfMemory}

-- the line spells the goal: atoms, of which repeats make one
pub record SpellsGoal (t : PlainTyped) (line : List ℕ) (goal : List PlainGroundAtom) : Type 0 where
  pub atoms : List (List (List ℕ))
  pub spelled : IsGoalLine line atoms
  pub ground_atoms : List PlainGroundAtom
  pub are_atoms : Pairwise (IsAtomOf t) atoms ground_atoms
  pub once : goal ≡ without_repeats ground_atoms

-- the text spells these goals, 1 to 32
pub record SpellsGoals (t : PlainTyped) (text : List ℕ) (goals : List (List PlainGroundAtom)) : Type 0 where
  pub lines : SpellLines (SpellsGoal t) text goals
  pub some : 0 < length goals
  pub few : length goals ≤ 32

-- the line spells no atoms
abbrev pub HasNoAtoms : List ℕ → Type 0
HasNoAtoms line = (atoms : List (List (List ℕ))) → IsGoalLine line atoms → ⊥

-- the line spells atoms, and one of them does not fit
abbrev pub HasUnknownAtom : PlainTyped → List ℕ → Type 0
HasUnknownAtom t line =
    ((atoms : List (List (List ℕ))) × IsGoalLine line atoms)
    × ((goal : List PlainGroundAtom) → SpellsGoal t line goal → ⊥)

-- what is at fault: the first line that is not good, or that no line gives a goal, or that there are
-- more than 32 goals
abbrev pub IsGoalFault : PlainTyped → List ℕ → GoalFault → Type 0
IsGoalFault t text (Shape number) = IsFirstBad (SpellsGoal t) text number HasNoAtoms
IsGoalFault t text (UnknownAtom number) = IsFirstBad (SpellsGoal t) text number (HasUnknownAtom t)
IsGoalFault t text NoGoal = SpellLines (SpellsGoal t) text []
IsGoalFault t text (TooManyGoals number) =
    ((goals : List (List PlainGroundAtom)) × SpellLines (SpellsGoal t) text goals × (length goals ≡ number)) × (32 < number)
IsGoalFault t text OutOfMemory = ⊥
