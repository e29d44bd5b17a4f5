-- A world by numbers: how its atoms are numbered, and what its static atoms block. And the task of a world, in
-- which what must be false is an atom of its own that must be true.
-- The atoms may be of any kind A; same tells whether two of them are one.
use Rattle.std.specs.Prelude.{ℕ, ◌+◌, Bool, not, ◌&&◌, ◌||◌, if◌then◌else◌, List, [], ◌∷◌, ◌++◌, length, map}
use Rattle.std.specs.List.{list_any}
use Rattle.grd_base.specs.declared.ids.AtomId.{AtomId}
use Rattle.grd_base.specs.Sets.{Set, minus}
use Rattle.strips_model.specs.Values.{GroundAction, Goal, PlainTask, WorldAction, PlainWorld}
use Rattle.strips_model.specs.Plans.{set_of}

-- a ground action by its atoms, in any order, with repeats or not: those that must be true, those that must be
-- false, those that it makes true and those that it makes false
pub record Instance (A : Type 0) : Type 0 where
  pub pre : List A
  pub absent : List A
  pub add : List A
  pub del : List A

-- a world by its atoms: the fluent ones, each once, tests of which of these are watched and of which atoms are true
-- at the start, the ground actions and the goals. An atom that is not fluent is static: no action changes it
pub record World (A : Type 0) : Type 0 where
  pub fluents : List A
  pub is_watched : A → Bool
  pub at_start : A → Bool
  pub actions : List (Instance A)
  pub goals : List (List A)

-- whether the list has the atom
abbrev pub has_atom : {A : Type 0} → (A → A → Bool) → List A → A → Bool
has_atom same xs x = list_any (λ y. same y x) xs

-- the places, counted from k, of the atoms that pass the test
abbrev pub places_of : {A : Type 0} → (A → Bool) → ℕ → List A → List AtomId
places_of p k [] = []
places_of p k (x ∷ xs) = if p x then record { 0 = k } ∷ places_of p (k + 1) xs else places_of p (k + 1) xs

-- the numbers, rising and without repeats, of those of the atoms that are fluent;
-- an atom's number is its place among the fluent atoms
abbrev pub numbers_of : {A : Type 0} → (A → A → Bool) → World A → List A → List AtomId
numbers_of same w xs = places_of (has_atom same xs) 0 w.fluents

-- whether one of the atoms is static and not true at the start
abbrev pub is_blocked : {A : Type 0} → (A → A → Bool) → World A → List A → Bool
is_blocked same w xs = list_any (λ x. not (has_atom same w.fluents x) && not (w.at_start x)) xs

-- whether one of the atoms is static and true at the start
abbrev pub is_barred : {A : Type 0} → (A → A → Bool) → World A → List A → Bool
is_barred same w xs = list_any (λ x. not (has_atom same w.fluents x) && w.at_start x) xs

-- the action by numbers; a static atom blocks it that is false and must be true, or true and must be false
abbrev pub world_action_of : {A : Type 0} → (A → A → Bool) → World A → Instance A → WorldAction
world_action_of same w act = record {
  pre = numbers_of same w act.pre;
  absent = numbers_of same w act.absent;
  add = numbers_of same w act.add;
  del = numbers_of same w act.del;
  blocked = is_blocked same w act.pre || is_barred same w act.absent;
}

-- the goal by numbers
abbrev pub goal_of : {A : Type 0} → (A → A → Bool) → World A → List A → Goal
goal_of same w atoms = record { atoms = numbers_of same w atoms; blocked = is_blocked same w atoms }

-- the world by numbers; its actions and goals, blocked ones among them, keep their places
abbrev pub numbered_world : {A : Type 0} → (A → A → Bool) → World A → PlainWorld
numbered_world same w = record {
  fluents = length w.fluents;
  watched = places_of w.is_watched 0 w.fluents;
  init = places_of w.at_start 0 w.fluents;
  actions = map (world_action_of same w) w.actions;
  goals = map (goal_of same w) w.goals;
}

-- the complements, rising, of the watched atoms in the set. Each watched atom has one, which is true where the
-- atom is false: they are numbered behind the fluent atoms, in the order of their atoms
abbrev pub complements : PlainWorld → Set → List AtomId
complements w s = places_of (λ a. s a.0) w.fluents w.watched

-- the action of the task: what must be false is a complement that must be true, and where a watched atom becomes
-- true or false, its complement becomes the other
abbrev pub task_action : PlainWorld → WorldAction → GroundAction
task_action w act = record {
  pre = act.pre ++ complements w (set_of act.absent);
  add = act.add ++ complements w (minus (set_of act.del) (set_of act.add));
  del = act.del ++ complements w (set_of act.add);
  blocked = act.blocked;
}

-- the task of the world: at the start the complement of each watched atom that is false is true
abbrev pub task_of_world : PlainWorld → PlainTask
task_of_world w = record {
  atoms = w.fluents + length w.watched;
  init = w.init ++ complements w (λ n. not (set_of w.init n));
  actions = map (task_action w) w.actions;
  goals = w.goals;
}

-- the task of a world by its atoms
abbrev pub task_of : {A : Type 0} → (A → A → Bool) → World A → PlainTask
task_of same w = task_of_world (numbered_world same w)
