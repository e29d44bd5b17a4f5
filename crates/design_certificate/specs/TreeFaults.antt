-- The first fault of a tree, node by node from the root on, each child whole before the next. At a branch
-- come the numbers of the goals, the length of the sequence, the first plan, the second plan, and then
-- the children in their order; a missing child or one too many is found in its place.
use Rattle.std.specs.Prelude.{◌≡◌, ℕ, ◌<◌, ◌≤◌, ◌⊎◌, List, [], ◌∷◌, ◌++◌, length, Option}
use Rattle.grd_base.specs.declared.ids.ActionId.{ActionId}
use Rattle.grd_base.specs.declared.ids.GoalId.{GoalId}
use Rattle.strips_model.specs.Values.{PlainTask, PlainWitness}
use Rattle.strips_model.specs.Plans.{IsPlan}
use Rattle.strips_model.specs.Agents.{BeginsWith}
use Rattle.cost_certificate.specs.Rows.{PlainRow}
use Rattle.cost_certificate.specs.declared.kinds.CheckKind.{CheckKind}
use Rattle.cost_certificate.specs.declared.kinds.CheckKind.TheVariants.{BadLine, BadNumber, PlanBroken, PlanLength, TreeBranch, TreeLeaf, UseMissing}
use Rattle.cost_certificate.specs.Tables.{IsValidTable}
use Rattle.cost_certificate.specs.Faults.{IsFaultOf}
use Rattle.design_certificate.specs.Designs.{Gives}
use Rattle.design_certificate.specs.Live.{HasNumber}
use Rattle.design_certificate.specs.Trees.{PlainNamed, PlainLeafTable, own, use_named, PlainNode, PlainNodes, leaf, branch, no_nodes, nodes, with_id, choices, RefuteCost, IsUsable, IsValidNode}

-- a condition fails, which is of that kind, or it holds and what comes behind it fails
abbrev pub FailsOr : CheckKind → CheckKind → Type 0 → Type 0 → Type 0
FailsOr kind its condition behind = ((kind ≡ its) × (condition → ⊥)) ⊎ (condition × behind)

-- the first goal is below the second, and both have numbers
abbrev pub HasGoals : List (Option ℕ) → PlainWitness → Type 0
HasGoals costs w = (w.goals.0.0 < w.goals.1.0) × HasNumber costs w.goals.0 × HasNumber costs w.goals.1

module _ (t : PlainTask) (costs : List (Option ℕ)) where
  -- a plan of a witness fails: it is no plan that begins with the sequence, or not as long as its goal costs
  abbrev pub FailsPlan : CheckKind → List ActionId → List ActionId → GoalId → List ActionId → Type 0 → Type 0
  FailsPlan kind removed prefix g plan behind =
      FailsOr kind PlanBroken (IsPlan t g removed plan × BeginsWith plan prefix) (FailsOr kind PlanLength (Gives costs g (length plan)) behind)

  -- a branch fails for itself, or behind that
  abbrev pub FailsBranch : CheckKind → ℕ → List ActionId → PlainWitness → Type 0 → Type 0
  FailsBranch kind len removed w behind =
      FailsOr kind BadNumber (HasGoals costs w)
      (FailsOr kind TreeBranch (len ≤ length w.prefix)
      (FailsPlan kind removed w.prefix w.goals.0 w.plans.0
      (FailsPlan kind removed w.prefix w.goals.1 w.plans.1 behind)))

  -- the rows are those of no valid table, or do not refute the cost
  abbrev pub FailsOwn : CheckKind → List ActionId → GoalId → List PlainRow → Type 0
  FailsOwn kind removed g rows =
      ((row : ℕ) × (set : ℕ) × IsFaultOf t g removed rows kind row set) ⊎ (IsValidTable t g removed rows × FailsOr kind TreeLeaf (RefuteCost t costs g rows) ⊥)

  module _ (named : List PlainNamed) where
    -- there is no such named table, or it does not refute the cost
    abbrev pub FailsNamed : CheckKind → List ActionId → GoalId → ℕ → Type 0
    FailsNamed kind removed g n =
        FailsOr kind UseMissing ((x : PlainNamed) × IsUsable named removed g n x)
        (FailsOr kind TreeLeaf ((x : PlainNamed) × IsUsable named removed g n x × RefuteCost t costs g x.rows) ⊥)

    abbrev pub FailsTable : CheckKind → List ActionId → GoalId → PlainLeafTable → Type 0
    FailsTable kind removed g (own rows) = FailsOwn kind removed g rows
    FailsTable kind removed g (use_named n) = FailsNamed kind removed g n

    module _ (m len : ℕ) (kind : CheckKind) where
      -- the kind of the first fault of a node
      abbrev mutual
        pub FailsNode : List ActionId → List ActionId → PlainNode → Type 0
        FailsNode removed kept (leaf g table) = FailsOr kind BadNumber (HasNumber costs g) (FailsTable kind removed g table)
        FailsNode removed kept (branch w children) = FailsBranch kind len removed w (FailsChildren removed kept (choices m removed kept w) children)

        pub FailsChildren : List ActionId → List ActionId → List ActionId → PlainNodes → Type 0
        FailsChildren removed kept [] no_nodes = ⊥
        FailsChildren removed kept (a ∷ rest) (nodes x xs) =
            FailsNode (with_id removed a) kept x
            ⊎ (IsValidNode t costs named m len (with_id removed a) kept x × FailsChildren removed (kept ++ a ∷ []) rest xs)
        FailsChildren removed kept _ _ = kind ≡ BadLine

      abbrev pub IsTreeFault : PlainNode → Type 0
      IsTreeFault tree = FailsNode [] [] tree
