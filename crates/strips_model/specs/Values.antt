-- What contracts see of a task: its fields, with lists in the place of vectors. And worlds, of which tasks are made.
use Rattle.std.specs.Prelude.{ℕ, ◌^◌, ◌<◌, ◌≤◌, Bool, List, length, Contains}
use Rattle.std.specs.List.{All}
use Rattle.grd_base.specs.declared.ids.AtomId.{AtomId}
use Rattle.grd_base.specs.declared.ids.ActionId.{ActionId}
use Rattle.grd_base.specs.declared.ids.GoalId.{GoalId}
use Rattle.grd_base.specs.Rising.{IsRisingBy}

-- a ground action: what it needs, what it makes true and what it makes false;
-- it is blocked where a static atom is not as it must be
pub record GroundAction : Type 0 where
  pub pre : List AtomId
  pub add : List AtomId
  pub del : List AtomId
  pub blocked : Bool

-- a goal: the atoms that have to be true; it is blocked where a static atom of it is false
pub record Goal : Type 0 where
  pub atoms : List AtomId
  pub blocked : Bool

-- a task: how many atoms there are, those that are true at the start, the actions and the goals;
-- atoms, actions and goals are numbered from 0
pub record PlainTask : Type 0 where
  pub atoms : ℕ
  pub init : List AtomId
  pub actions : List GroundAction
  pub goals : List Goal

-- atoms in rising order, without repeats, with every number below the bound
pub record AreAtoms (bound : ℕ) (xs : List AtomId) : Type 0 where
  pub rise : IsRisingBy (λ a. a.0) xs
  pub below : All (λ a. a.0 < bound) xs

-- an action over the atoms below the bound
pub record IsActionBelow (bound : ℕ) (a : GroundAction) : Type 0 where
  pub pre : AreAtoms bound a.pre
  pub add : AreAtoms bound a.add
  pub del : AreAtoms bound a.del

-- what holds of every task: its lists rise and name its own atoms, and its counts keep the limits
pub record IsTask (t : PlainTask) : Type 0 where
  pub width : t.atoms ≤ 4096
  pub init : AreAtoms t.atoms t.init
  pub actions : All (IsActionBelow t.atoms) t.actions
  pub goals : All (λ g. AreAtoms t.atoms g.atoms) t.goals
  pub few_actions : length t.actions ≤ 2 ^ 21
  pub few_goals : length t.goals ≤ 32

-- a ground action of a world, which may need atoms to be false as well: it needs those of pre, and that none of
-- those of absent is true; it is blocked where a static atom is not as it needs it
pub record WorldAction : Type 0 where
  pub pre : List AtomId
  pub absent : List AtomId
  pub add : List AtomId
  pub del : List AtomId
  pub blocked : Bool

-- a world: how many fluent atoms there are, which of them are watched, those that are true at the start, the
-- actions and the goals. No action needs an atom to be false that is not watched
pub record PlainWorld : Type 0 where
  pub fluents : ℕ
  pub watched : List AtomId
  pub init : List AtomId
  pub actions : List WorldAction
  pub goals : List Goal

-- an action over the fluent atoms of a world, which needs none to be false but watched ones
pub record IsWorldAction (w : PlainWorld) (a : WorldAction) : Type 0 where
  pub pre : AreAtoms w.fluents a.pre
  pub absent : AreAtoms w.fluents a.absent
  pub add : AreAtoms w.fluents a.add
  pub del : AreAtoms w.fluents a.del
  pub watched : All (Contains w.watched) a.absent

-- what holds of every world: its lists rise and name its own atoms, and no action needs an atom to be false that
-- is not watched
pub record IsWorld (w : PlainWorld) : Type 0 where
  pub watched : AreAtoms w.fluents w.watched
  pub init : AreAtoms w.fluents w.init
  pub actions : All (IsWorldAction w) w.actions
  pub goals : All (λ g. AreAtoms w.fluents g.atoms) w.goals

-- a sequence, two goals and a plan of each, which may show that the sequence is common to the two
pub record PlainWitness : Type 0 where
  pub prefix : List ActionId
  pub goals : GoalId × GoalId
  pub plans : List ActionId × List ActionId
