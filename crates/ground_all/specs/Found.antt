-- How atoms stand in a world, by their numbers.
use Rattle.std.specs.Prelude.{◌≡◌, ℕ, ◌+◌, ◌<◌, ◌≤◌, ◌^◌, ◌↔◌, Bool, true, false, List, [], ◌∷◌, map, length, sum, take, Contains, Some, slice_get, slice_index, if◌then◌else◌}
use Rattle.grd_base.specs.declared.ids.AtomId.{AtomId}
use Rattle.strips_model.specs.Values.{GroundAction, PlainTask, PlainWorld}
use Rattle.strips_model.specs.Worlds.{Instance, World, has_atom, places_of, world_action_of, numbered_world, task_action}
use Rattle.type_check.specs.Values.{PlainTyped, PlainTypedPredicate, PlainTypedSchema, PlainGroundAtom, PlainGroundName, is_same_atom}
use Rattle.type_check.specs.Typing.{IsTypedTask}
use Rattle.ground_all.specs.Tuples.{tuples, numbered}
use Rattle.ground_all.specs.Grounding.{is_fluent, is_watched, atoms_of, names_of_schema, fluent_atoms, TaskAtom, task_atoms, instances, instance_of, is_true_at_start, ground_task}
use Rattle.ground_all.specs.Grounding.TaskAtom.{Fluent as Same, Complement}
use Rattle.ground_all.specs.Sound.{IsSound}
use Rattle.ground_all.specs.declared.faults.GroundFault.{GroundFault}
use Rattle.ground_all.specs.declared.faults.GroundFault.TheVariants.{TooManyAtoms, TooManyActions, OutOfMemory}
use Rattle.ground_all.specs.declared.atoms.Standing.{Standing}
use Rattle.ground_all.specs.declared.atoms.Standing.TheVariants.{Fluent, True, False}
use Rattle.ground_all.specs.declared.atoms.StaticAtom.{StaticAtom}

-- whether each predicate is fluent
abbrev pub fluent_marks : PlainTyped → List Bool
fluent_marks t = map (λ x. is_fluent t x.0) (numbered 0 t.predicates)

-- whether each predicate is watched
abbrev pub watched_marks : PlainTyped → List Bool
watched_marks t = map (λ x. is_watched t x.0) (numbered 0 t.predicates)

-- the atoms of each predicate: none of a static one
abbrev pub atom_blocks : PlainTyped → List (List PlainGroundAtom)
atom_blocks t = map (λ x. if is_fluent t x.0 then atoms_of x.0 x.1 else []) (numbered 0 t.predicates)

-- the atoms of each predicate that have a complement
abbrev pub watched_blocks : PlainTyped → List (List PlainGroundAtom)
watched_blocks t = map (λ x. if is_watched t x.0 then (if is_fluent t x.0 then atoms_of x.0 x.1 else []) else []) (numbered 0 t.predicates)

-- the instances of each schema
abbrev pub name_blocks : PlainTyped → List (List PlainGroundName)
name_blocks t = map (λ x. names_of_schema x.0 x.1) (numbered 0 t.schemas)

-- the first numbers of lists of these lengths that stand behind one another, from k on
abbrev pub starts_of : ℕ → List ℕ → List ℕ
starts_of k [] = []
starts_of k (n ∷ lengths) = k ∷ starts_of (k + n) lengths

abbrev pub atom_starts : PlainTyped → List ℕ
atom_starts t = starts_of 0 (map length (atom_blocks t))

abbrev pub action_starts : PlainTyped → List ℕ
action_starts t = starts_of 0 (map length (name_blocks t))

-- an item's list, and its place there
pub record IsPlaceIn (lengths : List ℕ) (number list place : ℕ) : Type 0 where
  pub one : list < length lengths
  pub within : place < slice_index lengths list
  pub whole : sum (take list lengths) + place ≡ number

-- the atoms and the start, which alone decide how atoms are numbered, what has a complement and what is blocked
abbrev pub start_world : PlainTyped → World PlainGroundAtom
start_world t = record { fluents = fluent_atoms t; is_watched = λ a. is_watched t a.predicate; at_start = is_true_at_start t; actions = []; goals = [] }

-- the same by numbers
abbrev pub start_numbers : PlainTyped → PlainWorld
start_numbers t = numbered_world is_same_atom (start_world t)

-- the numbers of the watched fluent atoms, rising
abbrev pub watched_numbers : PlainTyped → List AtomId
watched_numbers t = places_of (λ a. is_watched t a.predicate) 0 (fluent_atoms t)

-- the action of the task that an instance makes
abbrev pub instance_action : PlainTyped → Instance PlainGroundAtom → GroundAction
instance_action t act = task_action (start_numbers t) (world_action_of is_same_atom (start_world t) act)

abbrev pub schema_action : PlainTyped → PlainTypedSchema → List ℕ → GroundAction
schema_action t s objects = instance_action t (instance_of s objects)

-- the atom has this number, or is static and true, or static and false, at the start
abbrev pub IsStanding : PlainTyped → PlainGroundAtom → Standing → Type 0
IsStanding t a (Fluent n) = slice_get (fluent_atoms t) n.0 ≡ Some a
IsStanding t a True = (has_atom is_same_atom (fluent_atoms t) a ≡ false) × (is_true_at_start t a ≡ true)
IsStanding t a False = (has_atom is_same_atom (fluent_atoms t) a ≡ false) × (is_true_at_start t a ≡ false)

-- the key is that of an atom: its predicate, and its number among the tuples of the predicate's places
pub record IsKeyOf (t : PlainTyped) (a : PlainGroundAtom) (key : StaticAtom) : Type 0 where
  pub same : key.predicate ≡ a.predicate
  pub predicate : PlainTypedPredicate
  pub there : slice_get t.predicates a.predicate ≡ Some predicate
  pub is : slice_get (tuples predicate.places) key.number ≡ Some a.objects

-- the marks of the watched predicates, the first numbers of the predicates, and how many atoms are fluent
pub record IsCounted (t : PlainTyped) (watched : List Bool) (starts : List ℕ) (fluents : ℕ) : Type 0 where
  pub marked : watched ≡ watched_marks t
  pub start : starts ≡ atom_starts t
  pub counted : fluents ≡ length (fluent_atoms t)

-- what the numbers of atoms are found by: the marks and first numbers of the predicates, and the keys of
-- the atoms that are true at the start
pub record AreIndexed (t : PlainTyped) (marks : List Bool) (starts : List ℕ) (keys : List StaticAtom) : Type 0 where
  pub sound : IsSound t
  pub marked : marks ≡ fluent_marks t
  pub start : starts ≡ atom_starts t
  pub few : length (task_atoms t) ≤ 3072
  pub keyed : (key : StaticAtom) → Contains keys key ↔ ((a : PlainGroundAtom) × Contains t.init a × IsKeyOf t a key)

-- and what the complements are found by
pub record AreKept (t : PlainTyped) (marks : List Bool) (starts : List ℕ) (keys : List StaticAtom) (fluents : ℕ) (watched : List AtomId) : Type 0 where
  pub indexed : AreIndexed t marks starts keys
  pub counted : fluents ≡ length (fluent_atoms t)
  pub listed : watched ≡ watched_numbers t

-- what a grounded world keeps
pub record IsGrounded (t : PlainTyped) (goals : List (List PlainGroundAtom)) (task : PlainTask) (fluents : ℕ) (watched : List AtomId) (atom_numbers action_numbers : List ℕ) : Type 0 where
  pub typed : IsTypedTask t
  pub is_task : task ≡ ground_task t goals
  pub counted : fluents ≡ length (fluent_atoms t)
  pub listed : watched ≡ watched_numbers t
  pub atoms : atom_numbers ≡ atom_starts t
  pub actions : action_numbers ≡ action_starts t
  pub few_atoms : length (task_atoms t) ≤ 3072
  pub few_actions : length (instances t) ≤ 2 ^ 20

-- the fluent atom with this number has this predicate and these objects
pub record IsAtomAt (t : PlainTyped) (number : ℕ) (predicate : PlainTypedPredicate) (objects : List ℕ) : Type 0 where
  pub atom : PlainGroundAtom
  pub there : slice_get (fluent_atoms t) number ≡ Some atom
  pub declared : slice_get t.predicates atom.predicate ≡ Some predicate
  pub are : atom.objects ≡ objects

-- the fluent atom, or its complement
abbrev pub task_atom : Bool → PlainGroundAtom → TaskAtom
task_atom complement a = if complement then Complement a else Same a

-- the atom of the task with this number is the fluent atom with that one, or its complement
pub record IsBaseOf (t : PlainTyped) (number : ℕ) (fluent : AtomId) (complement : Bool) : Type 0 where
  pub atom : PlainGroundAtom
  pub there : slice_get (fluent_atoms t) fluent.0 ≡ Some atom
  pub is : slice_get (task_atoms t) number ≡ Some (task_atom complement atom)

-- the typed instance with this number has this schema and these objects
pub record IsActionAt (t : PlainTyped) (number : ℕ) (schema : PlainTypedSchema) (objects : List ℕ) : Type 0 where
  pub name : PlainGroundName
  pub there : slice_get (instances t) number ≡ Some name
  pub declared : slice_get t.schemas name.schema ≡ Some schema
  pub are : name.objects ≡ objects

-- how many fluent atoms each predicate has, and typed instances each schema, where these are few
pub record HasFewAtoms (t : PlainTyped) (counts : List ℕ) : Type 0 where
  pub counted : counts ≡ map length (atom_blocks t)
  pub few : length (task_atoms t) ≤ 3072

pub record HasFewActions (t : PlainTyped) (counts : List ℕ) : Type 0 where
  pub counted : counts ≡ map length (name_blocks t)
  pub few : length (instances t) ≤ 2 ^ 20

pub record AreCounts (t : PlainTyped) (fluent watched : List Bool) (atoms actions : List ℕ) : Type 0 where
  pub marked : fluent ≡ fluent_marks t
  pub watched_marked : watched ≡ watched_marks t
  pub few_atoms : HasFewAtoms t atoms
  pub few_actions : HasFewActions t actions

-- too many atoms, or few atoms and too many actions; or memory is wanting
abbrev pub IsCountFault : PlainTyped → GroundFault → Type 0
IsCountFault t (TooManyAtoms n) = (n ≡ length (task_atoms t)) × (3072 < n)
IsCountFault t (TooManyActions n) = (length (task_atoms t) ≤ 3072) × (n ≡ length (instances t)) × (2 ^ 20 < n)
IsCountFault t OutOfMemory = Unit {0}
