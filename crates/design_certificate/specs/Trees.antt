-- Valid trees. A tree shows that each set of at most m removed actions that keeps the costs leaves two
-- goals that can't be told apart for some number of steps. A node stands for the sets that have all of
-- its removed actions and none of its kept ones. A branch shows two plans with a long common sequence: a
-- set that has no action of them leaves both as they are, and each other set has a first one of their
-- actions, which names its child. A leaf shows a goal that costs more once the removed actions are gone,
-- so no set of that node keeps the costs.
use Rattle.std.specs.Prelude.{◌≡◌, ℕ, ◌+◌, ◌≤◌, ◌==◌, nat_lt, if◌then◌else◌, List, [], ◌∷◌, ◌++◌, length, Option, Some, slice_get}
use Rattle.grd_base.specs.declared.ids.ActionId.{ActionId}
use Rattle.grd_base.specs.declared.ids.GoalId.{GoalId}
use Rattle.grd_base.specs.declared.limits.Bound.TheVariants.{Steps}
use Rattle.grd_base.specs.Rising.{IsRising, has_id}
use Rattle.strips_model.specs.Values.{PlainTask, PlainWitness}
use Rattle.strips_model.specs.Plans.{start_of}
use Rattle.cost_certificate.specs.Rows.{PlainRow}
use Rattle.cost_certificate.specs.Tables.{HasRow, IsValidTable}
use Rattle.design_certificate.specs.Designs.{Gives, AreAmong}
use Rattle.design_certificate.specs.Witnesses.{IsShownWitness}

-- a table that several leaves may use: its goal, its removed actions and its rows
pub record PlainNamed : Type 0 where
  pub goal : GoalId
  pub removed : List ActionId
  pub rows : List PlainRow

-- the table of a leaf: its own, or a named one by its number, counted from 1
pub data PlainLeafTable : Type 0 where
  own : List PlainRow → PlainLeafTable
  use_named : ℕ → PlainLeafTable

-- a tree: a leaf names a goal, a branch has one child for each action of a list
mutual
  pub data PlainNode : Type 0 where
    leaf : GoalId → PlainLeafTable → PlainNode
    branch : PlainWitness → PlainNodes → PlainNode

  pub data PlainNodes : Type 0 where
    no_nodes : PlainNodes
    nodes : PlainNode → PlainNodes → PlainNodes

-- the table is a valid one of a goal with a cost; its removed actions rise
pub record IsValidNamed (t : PlainTask) (costs : List (Option ℕ)) (x : PlainNamed) : Type 0 where
  pub cost : ℕ
  pub given : Gives costs x.goal cost
  pub rise : IsRising x.removed
  pub valid : IsValidTable t x.goal x.removed x.rows

-- a rising list with one more action at its place; it stays as it is where it has the action
abbrev pub with_id : List ActionId → ActionId → List ActionId
with_id [] a = a ∷ []
with_id (b ∷ bs) a = if nat_lt a.0 b.0 then a ∷ b ∷ bs else (if a.0 == b.0 then b ∷ bs else b ∷ with_id bs a)

-- the actions of a sequence that are not in the list, each once, in the order in which they first occur
abbrev pub firsts_outside : List ActionId → List ActionId → List ActionId
firsts_outside kept [] = []
firsts_outside kept (a ∷ p) = if has_id kept a then firsts_outside kept p else a ∷ firsts_outside (kept ++ a ∷ []) p

-- the actions for which a branch has children: those of its plans, but for the kept ones; none where
-- as many actions are removed as may be
abbrev pub choices : ℕ → List ActionId → List ActionId → PlainWitness → List ActionId
choices m removed kept w = if nat_lt (length removed) m then firsts_outside kept (w.plans.0 ++ w.plans.1) else []

-- the rows refute all plans of the goal that are no longer than it costs
abbrev pub RefuteCost : PlainTask → List (Option ℕ) → GoalId → List PlainRow → Type 0
RefuteCost t costs g rows = (c : ℕ) × Gives costs g c × HasRow rows (start_of t) (Steps c)

-- a leaf may use the named table with this number, counted from 1: it is of the leaf's goal, and its
-- removed actions are all removed at the leaf
pub record IsUsable (named : List PlainNamed) (removed : List ActionId) (g : GoalId) (n : ℕ) (x : PlainNamed) : Type 0 where
  pub place : ℕ
  pub counted : n ≡ place + 1
  pub at : slice_get named place ≡ Some x
  pub goal : x.goal ≡ g
  pub among : AreAmong x.removed removed

module _ (t : PlainTask) (costs : List (Option ℕ)) (named : List PlainNamed) where
  -- a leaf's table refutes the cost of its goal: its own is valid without the removed actions, a named
  -- one may be used
  abbrev pub IsValidLeaf : List ActionId → GoalId → PlainLeafTable → Type 0
  IsValidLeaf removed g (own rows) = IsValidTable t g removed rows × RefuteCost t costs g rows
  IsValidLeaf removed g (use_named n) = (x : PlainNamed) × IsUsable named removed g n x × RefuteCost t costs g x.rows

  module _ (m len : ℕ) where
    -- the node is valid for these removed and these kept actions. The child of an action has it among
    -- its removed ones, and the choices before it among its kept ones
    abbrev mutual
      pub IsValidNode : List ActionId → List ActionId → PlainNode → Type 0
      IsValidNode removed kept (leaf g table) = IsValidLeaf removed g table
      IsValidNode removed kept (branch w children) =
          IsShownWitness t costs removed w × (len ≤ length w.prefix) × AreValidChildren removed kept (choices m removed kept w) children

      pub AreValidChildren : List ActionId → List ActionId → List ActionId → PlainNodes → Type 0
      AreValidChildren removed kept [] no_nodes = Unit {0}
      AreValidChildren removed kept (a ∷ rest) (nodes x xs) = IsValidNode (with_id removed a) kept x × AreValidChildren removed (kept ++ a ∷ []) rest xs
      AreValidChildren removed kept _ _ = ⊥

    -- a valid tree, from no removed and no kept actions
    abbrev pub IsValidTree : PlainNode → Type 0
    IsValidTree tree = IsValidNode [] [] tree
