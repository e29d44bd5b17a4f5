-- The observations that a file gives over a typed domain and problem, and what is at fault in a file
-- that gives none.
use Rattle.std.specs.Prelude.{◌≡◌, ℕ, ◌<◌, ◌≤◌, List, [], ◌∷◌, length}
use Rattle.type_check.specs.Values.{PlainTyped, PlainGroundName}
use Rattle.goal_files.specs.Lines.{IsGoalLine}
use Rattle.goal_files.specs.Ground.{IsActionOf}
use Rattle.goal_files.specs.SpelledLines.{SpellLines, IsFirstBad}
use Rattle.goal_files.specs.declared.faults.ObsFault.{ObsFault}
use Rattle.goal_files.specs.declared.faults.ObsFault.TheVariants.{Shape, UnknownAction, TooManyObservations, OutOfMemory}

-- the line spells the ground action, by one list of names
pub record SpellsAction (t : PlainTyped) (line : List ℕ) (n : PlainGroundName) : Type 0 where
  pub names : List (List ℕ)
  pub spelled : IsGoalLine line (names ∷ [])
  pub is_action : IsActionOf t names n

-- the text spells these observations, at most 1,024
pub record SpellsObservations (t : PlainTyped) (text : List ℕ) (observations : List PlainGroundName) : Type 0 where
  pub lines : SpellLines (SpellsAction t) text observations
  pub few : length observations ≤ 1024

-- the line spells no list of names
abbrev pub HasNoList : List ℕ → Type 0
HasNoList line = (names : List (List ℕ)) → IsGoalLine line (names ∷ []) → ⊥

-- the line spells a list of names, and they are those of no ground action
abbrev pub HasUnknownAction : PlainTyped → List ℕ → Type 0
HasUnknownAction t line =
    ((names : List (List ℕ)) × IsGoalLine line (names ∷ []))
    × ((n : PlainGroundName) → SpellsAction t line n → ⊥)

-- what is at fault: the first line that is not good, or that there are more than 1,024 observations
abbrev pub IsObsFault : PlainTyped → List ℕ → ObsFault → Type 0
IsObsFault t text (Shape number) = IsFirstBad (SpellsAction t) text number HasNoList
IsObsFault t text (UnknownAction number) = IsFirstBad (SpellsAction t) text number (HasUnknownAction t)
IsObsFault t text (TooManyObservations number) =
    ((observations : List PlainGroundName) × SpellLines (SpellsAction t) text observations × (length observations ≡ number)) × (1024 < number)
IsObsFault t text OutOfMemory = ⊥
