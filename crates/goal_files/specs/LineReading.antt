-- The parts of a file over a typed domain and problem as they are read.
use Rattle.std.specs.Prelude.{◌≡◌, ℕ, ◌+◌, not, List, [], ◌∷◌, ◌++◌, map, filter, All, Some, slice_get, if◌then◌else◌}
use Rattle.std.specs.List.{list_any}
use Rattle.grd_base.specs.Rising.{IsRisingBy}
use Rattle.pddl_reader.specs.Sections.{Pairwise}
use Rattle.type_check.specs.Values.{PlainTyped, PlainTypedPredicate, PlainTypedSchema, PlainGroundAtom, is_same_atom}
use Rattle.type_check.specs.Numbered.{predicate_texts, schema_texts, object_texts}
use Rattle.type_check.specs.Typing.{IsTypedTask}
use Rattle.goal_files.specs.Lines.{lines_of, is_skipped}
use Rattle.goal_files.specs.Goals.{HasNoAtoms, HasUnknownAtom}
use Rattle.goal_files.specs.Ground.{IsAtomOf, without_repeats}
use Rattle.goal_files.specs.Observations.{HasNoList, HasUnknownAction}
use Rattle.goal_files.specs.declared.atom_set.AtomKey.{AtomKey}
use Rattle.goal_files.specs.declared.faults.GoalFault.{GoalFault}
use Rattle.goal_files.specs.declared.faults.ObsFault.{ObsFault}

-- a line with its number
pub record PlainLine : Type 0 where
  pub number : ℕ
  pub bytes : List ℕ

-- lines with their numbers, of which this is the first
abbrev pub numbered : ℕ → List (List ℕ) → List PlainLine
numbered n [] = []
numbered n (line ∷ lines) = record { number = n; bytes = line } ∷ numbered (n + 1) lines

-- the lines of a text that are not skipped
abbrev pub kept_lines : List ℕ → List PlainLine
kept_lines text = filter (λ l. not (is_skipped l.bytes)) (numbered 1 (lines_of text))

-- the lines spell these values
abbrev pub SpellEach : {X : Type 0} → (List ℕ → X → Type 0) → List PlainLine → List X → Type 0
SpellEach Spells lines xs = Pairwise (λ (l : PlainLine). Spells l.bytes) lines xs

-- the lines before this one spell something
pub record SpellBefore {X : Type 0} (Spells : List ℕ → X → Type 0) (lines : List PlainLine) (line : PlainLine) : Type 0 where
  pub before : List PlainLine
  pub behind : List PlainLine
  pub whole : lines ≡ before ++ line ∷ behind
  pub good : All (λ (l : PlainLine). (x : X) × Spells l.bytes x) before

-- the fault is that of a line whose lines before it spell something
abbrev pub StopsBy : {X F : Type 0} → (List ℕ → X → Type 0) → (PlainLine → F → Type 0) → List PlainLine → F → Type 0
StopsBy Spells IsLineFault lines fault = (line : PlainLine) × SpellBefore Spells lines line × IsLineFault line fault

-- the only one of this name, whose places rise
pub record IsOnly {X : Type 0} (name : X → List ℕ) (places : X → List (List ℕ)) (xs : List X) (text : List ℕ) (n : ℕ) (x : X) : Type 0 where
  pub there : slice_get xs n ≡ Some x
  pub named : name x ≡ text
  pub only : (m : ℕ) → slice_get (map name xs) m ≡ Some text → m ≡ n
  pub rise : All (IsRisingBy (λ k. k)) (places x)

-- the only predicate of this name
abbrev pub IsOnlyPredicate : PlainTyped → List ℕ → ℕ → PlainTypedPredicate → Type 0
IsOnlyPredicate t text n q = IsOnly (λ (q : PlainTypedPredicate). q.name.text) (λ q. q.places) t.predicates text n q

-- the only schema of this name
abbrev pub IsOnlySchema : PlainTyped → List ℕ → ℕ → PlainTypedSchema → Type 0
IsOnlySchema t text n s = IsOnly (λ (s : PlainTypedSchema). s.name.text) (λ s. s.places) t.schemas text n s

-- a typed domain and problem with the names of its predicates, schemas and objects
pub record IsIndexed (t : PlainTyped) (predicates schemas objects : List (List ℕ)) : Type 0 where
  pub task : IsTypedTask t
  pub predicates_are : predicates ≡ predicate_texts t
  pub schemas_are : schemas ≡ schema_texts t
  pub objects_are : objects ≡ object_texts t

-- the atom of a key
abbrev pub key_atom : AtomKey → PlainGroundAtom
key_atom k = record { predicate = k.predicate; objects = k.objects.items }

-- with an atom behind the others, where it is none of them
abbrev pub with_atom : List PlainGroundAtom → PlainGroundAtom → List PlainGroundAtom
with_atom atoms a = if list_any (is_same_atom a) atoms then atoms else atoms ++ a ∷ []

-- the goal of these atoms
pub record IsGoalOf (t : PlainTyped) (atoms : List (List (List ℕ))) (goal : List PlainGroundAtom) : Type 0 where
  pub ground_atoms : List PlainGroundAtom
  pub are_atoms : Pairwise (IsAtomOf t) atoms ground_atoms
  pub once : goal ≡ without_repeats ground_atoms

-- the line is at fault, or memory is wanting
abbrev pub IsGoalLineFault : PlainTyped → PlainLine → GoalFault → Type 0
IsGoalLineFault t line (GoalFault.Shape number) = (number ≡ line.number) × HasNoAtoms line.bytes
IsGoalLineFault t line (GoalFault.UnknownAtom number) = (number ≡ line.number) × HasUnknownAtom t line.bytes
IsGoalLineFault t line GoalFault.NoGoal = ⊥
IsGoalLineFault t line (GoalFault.TooManyGoals number) = ⊥
IsGoalLineFault t line GoalFault.OutOfMemory = Unit {0}

-- the line is at fault, or memory is wanting
abbrev pub IsObsLineFault : PlainTyped → PlainLine → ObsFault → Type 0
IsObsLineFault t line (ObsFault.Shape number) = (number ≡ line.number) × HasNoList line.bytes
IsObsLineFault t line (ObsFault.UnknownAction number) = (number ≡ line.number) × HasUnknownAction t line.bytes
IsObsLineFault t line (ObsFault.TooManyObservations number) = ⊥
IsObsLineFault t line ObsFault.OutOfMemory = Unit {0}
