-- The world of a typed domain and problem: its fluent atoms and which of them are watched, all typed instances of the
-- actions, its start and its goals; and the atoms of its task.
use Rattle.std.specs.Prelude.{ℕ, Bool, false, not, ◌&&◌, ◌==◌, List, [], ◌∷◌, ◌++◌, length, map, filter, codes, slice_index, if◌then◌else◌}
use Rattle.std.specs.List.{flat_map, list_any}
use Rattle.strips_model.specs.Values.{PlainTask, PlainWorld}
use Rattle.strips_model.specs.Worlds.{Instance, World, has_atom, numbered_world, task_of_world}
use Rattle.type_check.specs.declared.typed.TypedTerm.{TypedTerm}
use Rattle.type_check.specs.declared.typed.TypedTerm.TheVariants.{Parameter, Object}
use Rattle.type_check.specs.Values.{PlainTyped, PlainTypedPredicate, PlainTypedSchema, PlainTypedLiteral, PlainGroundAtom, PlainGroundName, is_same_atom}
use Rattle.type_check.specs.Ground.{atom_text}
use Rattle.ground_all.specs.Tuples.{tuples, numbered}

-- whether the predicate with this number occurs in an effect
abbrev pub is_fluent : PlainTyped → ℕ → Bool
is_fluent t q = list_any (λ s. list_any (λ l. l.predicate == q) s.effect) t.schemas

-- whether the predicate with this number occurs in a negative precondition; where it is fluent, its atoms are watched
abbrev pub is_watched : PlainTyped → ℕ → Bool
is_watched t q = list_any (λ s. list_any (λ l. not l.positive && l.predicate == q) s.pre) t.schemas

abbrev pub atoms_of : ℕ → PlainTypedPredicate → List PlainGroundAtom
atoms_of q p = map (λ objects. record { predicate = q; objects = objects }) (tuples p.places)

-- the atoms of the fluent predicates, in the order of their declaration
unfoldable pub fluent_atoms : PlainTyped → List PlainGroundAtom
fluent_atoms t = flat_map (λ x. if is_fluent t x.0 then atoms_of x.0 x.1 else []) (numbered 0 t.predicates)

-- the fluent atoms that are watched, in the same order: each has a complement
unfoldable pub watched_atoms : PlainTyped → List PlainGroundAtom
watched_atoms t = filter (λ a. is_watched t a.predicate) (fluent_atoms t)

-- an atom of the task: a fluent atom, or the complement of a watched one, which is true where that one is false
pub data TaskAtom : Type 0 where
  Fluent : PlainGroundAtom → TaskAtom
  Complement : PlainGroundAtom → TaskAtom

-- the atoms of the task by their numbers: the fluent atoms, and then the complements
unfoldable pub task_atoms : PlainTyped → List TaskAtom
task_atoms t = map Fluent (fluent_atoms t) ++ map Complement (watched_atoms t)

-- the text of an atom of the task
abbrev pub task_atom_text : PlainTyped → TaskAtom → List ℕ
task_atom_text t (Fluent a) = atom_text t a
task_atom_text t (Complement a) = codes "(not " ++ atom_text t a ++ codes ")"

abbrev pub names_of_schema : ℕ → PlainTypedSchema → List PlainGroundName
names_of_schema n s = map (λ objects. record { schema = n; objects = objects }) (tuples s.places)

-- all typed instances of the actions, in text order
unfoldable pub instances : PlainTyped → List PlainGroundName
instances t = flat_map (λ x. names_of_schema x.0 x.1) (numbered 0 t.schemas)

-- the object of a term, where the parameters have these
abbrev pub object_of : List ℕ → TypedTerm → ℕ
object_of objects (Parameter n) = slice_index objects n
object_of objects (Object k) = k

abbrev pub ground_literal : List ℕ → PlainTypedLiteral → PlainGroundAtom
ground_literal objects l = record { predicate = l.predicate; objects = map (object_of objects) l.terms }

-- the atoms of the positive literals, and of the negative ones
abbrev pub positives : List ℕ → List PlainTypedLiteral → List PlainGroundAtom
positives objects ls = map (ground_literal objects) (filter (λ l. l.positive) ls)

abbrev pub negatives : List ℕ → List PlainTypedLiteral → List PlainGroundAtom
negatives objects ls = map (ground_literal objects) (filter (λ l. not l.positive) ls)

abbrev pub instance_of : PlainTypedSchema → List ℕ → Instance PlainGroundAtom
instance_of s objects = record {
  pre = positives objects s.pre;
  absent = negatives objects s.pre;
  add = positives objects s.effect;
  del = negatives objects s.effect;
}

-- the instances by their atoms, in the same order
abbrev pub actions_of : PlainTyped → List (Instance PlainGroundAtom)
actions_of t = flat_map (λ s. map (instance_of s) (tuples s.places)) t.schemas

-- whether these are one object, twice
abbrev pub is_one_twice : List ℕ → Bool
is_one_twice (a ∷ b ∷ []) = a == b
is_one_twice objects = false

-- whether the atom is true at the start: an equality, whose predicate has the number behind the declared ones, is true
-- of an object and itself
abbrev pub is_true_at_start : PlainTyped → PlainGroundAtom → Bool
is_true_at_start t a = if a.predicate == length t.predicates then is_one_twice a.objects else has_atom is_same_atom t.init a

abbrev pub world_of : PlainTyped → List (List PlainGroundAtom) → World PlainGroundAtom
world_of t goals = record {
  fluents = fluent_atoms t;
  is_watched = λ a. is_watched t a.predicate;
  at_start = is_true_at_start t;
  actions = actions_of t;
  goals = goals;
}

-- the world by numbers, and its task
unfoldable pub ground_world : PlainTyped → List (List PlainGroundAtom) → PlainWorld
ground_world t goals = numbered_world is_same_atom (world_of t goals)

abbrev pub ground_task : PlainTyped → List (List PlainGroundAtom) → PlainTask
ground_task t goals = task_of_world (ground_world t goals)

-- what is grounded: a typed domain and problem, and goals
pub record PlainGrounded : Type 0 where
  pub typed : PlainTyped
  pub goals : List (List PlainGroundAtom)
