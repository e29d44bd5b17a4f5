-- A file of lines: what its lines that are not skipped spell, and its first faulty line.
use Rattle.std.specs.Prelude.{◌≡◌, ℕ, ◌+◌, ◌⊎◌, true, false, not, List, [], ◌∷◌, ◌++◌, length, filter, All}
use Rattle.std.specs.List.{flat_map}
use Rattle.pddl_reader.specs.Sections.{Pairwise}
use Rattle.goal_files.specs.Lines.{lines_of, is_skipped}

-- the lines of the text that are not skipped spell these, in their order
abbrev pub SpellLines : {X : Type 0} → (List ℕ → X → Type 0) → List ℕ → List X → Type 0
SpellLines Spells text xs = Pairwise Spells (filter (λ line. not (is_skipped line)) (lines_of text)) xs

-- the line is skipped, or spells something
abbrev pub IsGood : {X : Type 0} → (List ℕ → X → Type 0) → List ℕ → Type 0
IsGood {X} Spells line = (is_skipped line ≡ true) ⊎ ((x : X) × Spells line x)

-- the line with this number, counted from 1, is the first that is not good, and has the property
pub record IsFirstBad {X : Type 0} (Spells : List ℕ → X → Type 0) (text : List ℕ) (number : ℕ) (P : List ℕ → Type 0) : Type 0 where
  pub before : List (List ℕ)
  pub line : List ℕ
  pub behind : List (List ℕ)
  pub whole : lines_of text ≡ before ++ line ∷ behind
  pub good : All (IsGood Spells) before
  pub counted : number ≡ length before + 1
  pub read : is_skipped line ≡ false
  pub fault : P line

-- texts as the lines of a file, each with a line feed behind it
abbrev pub as_lines : List (List ℕ) → List ℕ
as_lines lines = flat_map (λ line. line ++ 10 ∷ []) lines
