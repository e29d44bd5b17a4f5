-- Values over the numbers of a task: what the tests of live rows and trees ask of their arguments.
use Rattle.std.specs.Prelude.{◌<◌, List, length, All}
use Rattle.grd_base.specs.declared.ids.ActionId.{ActionId}
use Rattle.grd_base.specs.declared.ids.GoalId.{GoalId}
use Rattle.grd_base.specs.Rising.{IsRisingBy}
use Rattle.strips_model.specs.Values.{PlainTask, PlainWitness, AreAtoms}
use Rattle.cost_certificate.specs.Tables.{IsRowOver}
use Rattle.design_certificate.specs.Live.{PlainLiveRow, PlainLiveRows, GoalTable}
use Rattle.design_certificate.specs.Trees.{PlainNamed, PlainLeafTable, own, use_named, PlainNode, PlainNodes, leaf, branch, no_nodes, nodes}

module _ (t : PlainTask) where
  abbrev pub IsGoalOf : GoalId → Type 0
  IsGoalOf g = g.0 < length t.goals

  abbrev pub AreActionsOf : List ActionId → Type 0
  AreActionsOf p = All (λ a. a.0 < length t.actions) p

  pub record IsWitnessOver (w : PlainWitness) : Type 0 where
    pub first : IsGoalOf w.goals.0
    pub second : IsGoalOf w.goals.1
    pub first_plan : AreActionsOf w.plans.0
    pub second_plan : AreActionsOf w.plans.1

  pub record IsLiveRowOver (row : PlainLiveRow) : Type 0 where
    pub state : AreAtoms t.atoms row.state
    pub rise : IsRisingBy (λ g. g.0) row.goals
    pub goals : All IsGoalOf row.goals

  pub record IsTableOver (x : GoalTable) : Type 0 where
    pub goal : IsGoalOf x.0
    pub rows : All (IsRowOver t) x.1

  pub record AreLiveRowsOver (live : PlainLiveRows) : Type 0 where
    pub tables : All IsTableOver live.tables
    pub rows : All IsLiveRowOver live.rows

  pub record IsNamedOver (x : PlainNamed) : Type 0 where
    pub goal : IsGoalOf x.goal
    pub rows : All (IsRowOver t) x.rows

  abbrev pub IsLeafTableOver : PlainLeafTable → Type 0
  IsLeafTableOver (own rows) = All (IsRowOver t) rows
  IsLeafTableOver (use_named n) = Unit {0}

  abbrev mutual
    pub IsNodeOver : PlainNode → Type 0
    IsNodeOver (leaf g table) = IsGoalOf g × IsLeafTableOver table
    IsNodeOver (branch w children) = IsWitnessOver w × AreNodesOver children

    pub AreNodesOver : PlainNodes → Type 0
    AreNodesOver no_nodes = Unit {0}
    AreNodesOver (nodes x xs) = IsNodeOver x × AreNodesOver xs
