-- A tree has at most one first fault, and a valid one has none, where this is so of tables.
use Rattle.std.proofs.Common.{◌≡◌, ℕ, ◌≤◌, List, [], ◌∷◌, ◌++◌, length, sym, ◌∙◌, ap, inl, inr, Option}
use Rattle.grd_base.specs.declared.ids.ActionId.{ActionId}
use Rattle.grd_base.specs.declared.ids.GoalId.{GoalId}
use Rattle.strips_model.specs.Values.{PlainTask, PlainWitness}
use Rattle.cost_certificate.specs.Rows.{PlainRow}
use Rattle.cost_certificate.specs.Tables.{IsValidTable}
use Rattle.cost_certificate.specs.declared.kinds.TableFault.{TableFault}
use Rattle.cost_certificate.specs.declared.kinds.CheckKind.{CheckKind}
use Rattle.cost_certificate.specs.declared.kinds.CheckKind.TheVariants.{BadNumber}
use Rattle.design_certificate.specs.Live.{HasNumber}
use Rattle.design_certificate.specs.Witnesses.{IsShownWitness}
use Rattle.design_certificate.specs.Trees.{PlainNamed, PlainLeafTable, own, use_named, PlainNode, PlainNodes, leaf, branch, no_nodes, nodes, with_id, choices, RefuteCost, IsValidLeaf, IsValidNode, AreValidChildren, IsValidTree}
use Rattle.design_certificate.proofs.ExactLemmas.{ValidTablesPass, TablesFailOnce, fault_at}
use Rattle.design_certificate.specs.TreeFaults.{FailsOr, FailsBranch, FailsOwn, FailsTable, FailsNode, FailsChildren, IsTreeFault}

-- where a condition holds, what is behind it fails
behind_fails : (kind its : CheckKind) (P R : Type 0) → FailsOr kind its P R → P → R
behind_fails kind its P R (inl out) holds = absurd (out.1 holds)
behind_fails kind its P R (inr on) holds = on.1

-- a chain of conditions fails once, where what is behind it does
or_once : (kind other its : CheckKind) (P R S : Type 0) → FailsOr kind its P R → FailsOr other its P S → (R → S → kind ≡ other) → kind ≡ other
or_once kind other its P R S (inl out) (inl also) on = out.0 ∙ sym also.0
or_once kind other its P R S (inl out) (inr also) on = absurd (out.1 also.0)
or_once kind other its P R S (inr here) (inl also) on = absurd (also.1 here.0)
or_once kind other its P R S (inr here) (inr also) on = on here.1 also.1

module _ (passes : ValidTablesPass) (once : TablesFailOnce) (t : PlainTask) (costs : List (Option ℕ)) (named : List PlainNamed) where
  no_own : (kind : CheckKind) (removed : List ActionId) (g : GoalId) (rows : List PlainRow) → FailsOwn t costs kind removed g rows → IsValidTable t g removed rows × RefuteCost t costs g rows → ⊥
  no_own kind removed g rows (inl (row, set, fails)) valid = passes t g removed rows valid.0 (fault_at kind row set) fails
  no_own kind removed g rows (inr (is, fails)) valid = behind_fails kind _ (RefuteCost t costs g rows) ⊥ fails valid.1

  no_table : (kind : CheckKind) (removed : List ActionId) (g : GoalId) (table : PlainLeafTable) → FailsTable t costs named kind removed g table → IsValidLeaf t costs named removed g table → ⊥
  no_table kind removed g (own rows) fails valid = no_own kind removed g rows fails valid
  no_table kind removed g (use_named n) fails valid = behind_fails kind _ _ ⊥ (behind_fails kind _ _ _ fails (valid.0, valid.1)) valid

  has_number : (removed : List ActionId) (g : GoalId) (table : PlainLeafTable) → IsValidLeaf t costs named removed g table → HasNumber costs g
  has_number removed g (own rows) valid = (valid.1.0, valid.1.1)
  has_number removed g (use_named n) valid = (valid.2.0, valid.2.1)

  no_leaf : (kind : CheckKind) (removed : List ActionId) (g : GoalId) (table : PlainLeafTable) → FailsOr kind BadNumber (HasNumber costs g) (FailsTable t costs named kind removed g table)
      → IsValidLeaf t costs named removed g table → ⊥
  no_leaf kind removed g table fails valid =
      no_table kind removed g table (behind_fails kind BadNumber (HasNumber costs g) (FailsTable t costs named kind removed g table) fails (has_number removed g table valid)) valid

  -- a branch that shows its plans fails behind them
  behind_branch : (kind : CheckKind) (len : ℕ) (removed : List ActionId) (w : PlainWitness) (R : Type 0) → FailsBranch t costs kind len removed w R → IsShownWitness t costs removed w → len ≤ length w.prefix → R
  behind_branch kind len removed w R fails shown long =
      let goals = behind_fails kind _ _ _ fails (shown.rise, (length w.plans.0, shown.first.1), (length w.plans.1, shown.second.1)) in
      let prefix = behind_fails kind _ _ _ goals long in
      let first = behind_fails kind _ _ _ (behind_fails kind _ _ _ prefix (shown.first.0, shown.first_begins)) shown.first.1 in
      behind_fails kind _ _ _ (behind_fails kind _ _ _ first (shown.second.0, shown.second_begins)) shown.second.1

  own_once : (kind other : CheckKind) (removed : List ActionId) (g : GoalId) (rows : List PlainRow) → FailsOwn t costs kind removed g rows → FailsOwn t costs other removed g rows → kind ≡ other
  own_once kind other removed g rows (inl (row, set, fails)) (inl (elsewhere, at, also)) = ap (λ (f : TableFault). f.kind) (once t g removed rows (fault_at kind row set) (fault_at other elsewhere at) fails also)
  own_once kind other removed g rows (inl (row, set, fails)) (inr (valid, also)) = absurd (passes t g removed rows valid (fault_at kind row set) fails)
  own_once kind other removed g rows (inr (valid, fails)) (inl (elsewhere, at, also)) = absurd (passes t g removed rows valid (fault_at other elsewhere at) also)
  own_once kind other removed g rows (inr (valid, fails)) (inr (still, also)) = or_once kind other _ _ ⊥ ⊥ fails also (λ none _. absurd none)

  table_once : (kind other : CheckKind) (removed : List ActionId) (g : GoalId) (table : PlainLeafTable) → FailsTable t costs named kind removed g table → FailsTable t costs named other removed g table → kind ≡ other
  table_once kind other removed g (own rows) fails also = own_once kind other removed g rows fails also
  table_once kind other removed g (use_named n) fails also =
      or_once kind other _ _ _ _ fails also (λ here there. or_once kind other _ _ ⊥ ⊥ here there (λ none _. absurd none))

  module _ (m len : ℕ) where
    mutual
      no_node : (kind : CheckKind) (n : PlainNode) (removed kept : List ActionId) → FailsNode t costs named m len kind removed kept n → IsValidNode t costs named m len removed kept n → ⊥
      no_node kind (leaf g table) removed kept fails valid = no_leaf kind removed g table fails valid
      no_node kind (branch w children) removed kept fails valid =
          no_children kind children removed kept (choices m removed kept w) (behind_branch kind len removed w _ fails valid.0 valid.1) valid.2

      no_children : (kind : CheckKind) (children : PlainNodes) (removed kept list : List ActionId) → FailsChildren t costs named m len kind removed kept list children
          → AreValidChildren t costs named m len removed kept list children → ⊥
      no_children kind no_nodes removed kept [] fails valid = fails
      no_children kind no_nodes removed kept (a ∷ list) fails valid = valid
      no_children kind (nodes x xs) removed kept [] fails valid = valid
      no_children kind (nodes x xs) removed kept (a ∷ list) (inl here) valid = no_node kind x (with_id removed a) kept here valid.0
      no_children kind (nodes x xs) removed kept (a ∷ list) (inr later) valid = no_children kind xs removed (kept ++ a ∷ []) list later.1 valid.1

    mutual
      node_once : (n : PlainNode) (kind other : CheckKind) (removed kept : List ActionId) → FailsNode t costs named m len kind removed kept n → FailsNode t costs named m len other removed kept n → kind ≡ other
      node_once (leaf g table) kind other removed kept fails also = or_once kind other _ _ _ _ fails also (λ here there. table_once kind other removed g table here there)
      node_once (branch w children) kind other removed kept fails also =
          or_once kind other _ _ _ _ fails also (λ f h. or_once kind other _ _ _ _ f h (λ f h. or_once kind other _ _ _ _ f h (λ f h. or_once kind other _ _ _ _ f h
          (λ f h. or_once kind other _ _ _ _ f h (λ f h. or_once kind other _ _ _ _ f h
          (λ f h. children_once children kind other removed kept (choices m removed kept w) f h))))))

      children_once : (children : PlainNodes) (kind other : CheckKind) (removed kept list : List ActionId) → FailsChildren t costs named m len kind removed kept list children
          → FailsChildren t costs named m len other removed kept list children → kind ≡ other
      children_once no_nodes kind other removed kept [] fails also = absurd fails
      children_once no_nodes kind other removed kept (a ∷ list) fails also = fails ∙ sym also
      children_once (nodes x xs) kind other removed kept [] fails also = fails ∙ sym also
      children_once (nodes x xs) kind other removed kept (a ∷ list) (inl here) (inl there) = node_once x kind other (with_id removed a) kept here there
      children_once (nodes x xs) kind other removed kept (a ∷ list) (inl here) (inr later) = absurd (no_node kind x (with_id removed a) kept here later.0)
      children_once (nodes x xs) kind other removed kept (a ∷ list) (inr later) (inl there) = absurd (no_node other x (with_id removed a) kept there later.0)
      children_once (nodes x xs) kind other removed kept (a ∷ list) (inr later) (inr behind) = children_once xs kind other removed (kept ++ a ∷ []) list later.1 behind.1

    -- from no removed and no kept actions
    pub tree_passes : (n : PlainNode) → IsValidTree t costs named m len n → (kind : CheckKind) → IsTreeFault t costs named m len kind n → ⊥
    tree_passes n valid kind fails = no_node kind n [] [] fails valid

    pub tree_once : (n : PlainNode) (kind other : CheckKind) → IsTreeFault t costs named m len kind n → IsTreeFault t costs named m len other n → kind ≡ other
    tree_once n kind other fails also = node_once n kind other [] [] fails also
