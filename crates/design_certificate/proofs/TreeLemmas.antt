-- What a valid tree means: each set that keeps the costs leaves a long common sequence.
use Rattle.std.proofs.Common.{◌≡◌, ℕ, ◌+◌, ◌≤◌, ◌⊎◌, cond, Bool, true, false, List, [], ◌∷◌, ◌++◌, length, refl, sym, ◌∙◌, ap, subst, inl, inr, arith, Option, Some}
use Rattle.std.specs.Prelude.{IsTrue, nat_lt, All}
use Rattle.std.specs.List.{list_any}
use Rattle.std.proofs.lemmas.Bool.{cases_Bool, false≢true, or_cases, ltb-false}
use Rattle.grd_base.specs.declared.ids.ActionId.{ActionId}
use Rattle.grd_base.specs.declared.ids.GoalId.{GoalId}
use Rattle.grd_base.specs.Rising.{IsRising, has_id}
use Rattle.strips_model.specs.Values.{PlainTask, PlainWitness}
use Rattle.strips_model.specs.Plans.{start_of, Reaches, IsCost, IsOptimal}
use Rattle.cost_certificate.specs.Rows.{PlainRow}
use Rattle.cost_certificate.specs.Tables.{IsValidTable}
use Rattle.design_certificate.specs.Designs.{AreCosts, Gives, AreAmong, AreOutside, HidesFor}
use Rattle.strips_model.specs.Common.{KeepsCosts}
use Rattle.design_certificate.specs.Witnesses.{IsPlanAsLong, IsShownWitness}
use Rattle.design_certificate.specs.Trees.{PlainNamed, PlainLeafTable, own, use_named, PlainNode, PlainNodes, leaf, branch, no_nodes, nodes, IsValidNamed, with_id, firsts_outside, choices, RefuteCost, IsValidLeaf, IsValidNode, AreValidChildren, IsValidTree}
use Rattle.design_certificate.proofs.ListLemmas.{not_both, member_pushed, member_first, member_later, member_left, member_right, member_either, with_id_length, with_id_cases, with_id_new, with_id_old, less_one, firsts_have, firsts_among, none_met}
use Rattle.design_certificate.proofs.RowLemmas.{RowsRefute, row_refutes, all_at}
use Rattle.design_certificate.proofs.SetLemmas.{others}
use Rattle.design_certificate.proofs.SequenceLemmas.{reaches_other, reaches_free, outside_fewer}

-- the actions of both plans
abbrev both : PlainWitness → List ActionId
both w = w.plans.0 ++ w.plans.1

-- a set, and what covers it beside the removed actions of a node: so many more may be in it
abbrev pub AreCovered : List ActionId → List ActionId → List ActionId → Type 0
AreCovered r removed rest = (a : ActionId) → IsTrue (has_id r a) → IsTrue (has_id removed a) ⊎ IsTrue (has_id rest a)

module _ (t : PlainTask) (costs : List (Option ℕ)) (are : AreCosts t [] costs) (r : List ActionId) (keeps : KeepsCosts t r) where
  -- a goal costs without the set what is claimed
  kept_cost : (g : GoalId) (c : ℕ) → Gives costs g c → IsCost t g r (Some c)
  kept_cost g c gives = keeps g (Some c) (are.right g.0 (Some c) gives)

  -- a shown plan of which no action is in the set is optimal without the set
  plan_stays : (removed : List ActionId) (g : GoalId) (plan : List ActionId) → IsPlanAsLong t costs removed g plan → AreOutside plan r → IsOptimal t g r plan
  plan_stays removed g plan shown free = (reaches_other t removed r g (start_of t) plan shown.0 free, kept_cost g (length plan) shown.1)

  -- two shown plans without actions of the set still have their sequence in common
  pub shown_hides : (removed : List ActionId) (w : PlainWitness) (len : ℕ) → IsShownWitness t costs removed w → len ≤ length w.prefix
      → AreOutside w.plans.0 r → AreOutside w.plans.1 r → HidesFor t r len
  shown_hides removed w len shown long free also = (
    w.goals.0,
    w.goals.1,
    w.prefix,
    long,
    record {
      different = λ e. let same : w.goals.0.0 ≡ w.goals.1.0 = ap (λ (g : GoalId). g.0) e in omega (arith, same, shown.rise);
      first = (w.plans.0, plan_stays removed w.goals.0 w.plans.0 shown.first free, shown.first_begins);
      second = (w.plans.1, plan_stays removed w.goals.1 w.plans.1 shown.second also, shown.second_begins);
    },
  )

  -- no set that keeps the costs has all actions without which the rows refute a cost
  refuted_cost : RowsRefute → (g : GoalId) (removed : List ActionId) (rows : List PlainRow) → IsValidTable t g removed rows → RefuteCost t costs g rows → AreAmong removed r → ⊥
  refuted_cost law g removed rows valid (c, gives, has) among =
      let cost = kept_cost g c gives in
      let p = cost.0.0 in
      let free = reaches_free t g r (start_of t) p cost.0.2 in
      let still : Reaches t g removed (start_of t) p = reaches_other t r removed g (start_of t) p cost.0.2 (outside_fewer p removed r among free) in
      let far = row_refutes law t g removed rows (start_of t) c valid has p still in
      omega (arith, far, cost.0.1)

  module _ (law : RowsRefute) (named : List PlainNamed) (are_named : All (IsValidNamed t costs) named) where
    -- at a leaf there is no such set
    no_leaf : (removed : List ActionId) (g : GoalId) (table : PlainLeafTable) → AreAmong removed r → IsValidLeaf t costs named removed g table → ⊥
    no_leaf removed g (own rows) among valid = refuted_cost law g removed rows valid.0 valid.1 among
    no_leaf removed g (use_named n) among (x, usable, refutes) =
        let is = all_at (IsValidNamed t costs) named usable.place x are_named usable.at in
        refuted_cost law g x.removed x.rows (subst (λ h. IsValidTable t h x.removed x.rows) usable.goal is.valid) refutes (λ a member. among a (usable.among a member))

    module _ (m len : ℕ) where
      -- what is asked of a node's sets: the set has the removed actions, none of the kept ones, and no
      -- more others than may still be removed
      pub record Stands (removed kept rest : List ActionId) : Type 0 where
        pub has : AreAmong removed r
        pub free : AreOutside kept r
        pub covered : AreCovered r removed rest
        pub few : length removed + length rest ≤ m

      -- where none of the choices is in the set, no action of the plans is
      none_chosen : (removed kept rest : List ActionId) (w : PlainWitness) → Stands removed kept rest → list_any (λ a. has_id r a) (choices m removed kept w) ≡ false
          → (p : List ActionId) → AreOutside p removed → AreAmong p (w.plans.0 ++ w.plans.1) → AreOutside p r
      none_chosen removed kept rest w stands none p outside among b member = by (has_id r b) refl
        where
          chosen : (more : Bool) → nat_lt (length removed) m ≡ more → IsTrue (has_id r b) → ⊥
          chosen true can there =
              let list : choices m removed kept w ≡ firsts_outside kept (both w) = ap (λ c. cond c (firsts_outside kept (both w)) []) can in
              let still : list_any (λ a. has_id r a) (firsts_outside kept (both w)) ≡ false = ap (list_any (λ a. has_id r a)) (sym list) ∙ none in
              let new : has_id kept b ≡ false = outside_one (has_id kept b) refl in
              not_both (has_id r b) there (none_met r (firsts_outside kept (both w)) still b (firsts_have kept (both w) b (among b member) new))
            where
              outside_one : (c : Bool) → has_id kept b ≡ c → has_id kept b ≡ false
              outside_one true is = absurd (not_both (has_id r b) there (stands.free b is))
              outside_one false is = is
          chosen false full there =
              let past : m ≤ length removed = ltb-false (length removed) m full in
              elim (stands.covered b there) [
                | inl old ↦ not_both (has_id removed b) old (outside b member)
                | inr new ↦ no_member rest (omega (arith, past, stands.few)) new
              ]
            where
              no_member : (xs : List ActionId) → length xs ≤ 0 → IsTrue (has_id xs b) → ⊥
              no_member [] short there = false≢true there
              no_member (x ∷ xs) short there = omega arith

          by : (c : Bool) → has_id r b ≡ c → has_id r b ≡ false
          by true is = absurd (chosen (nat_lt (length removed) m) refl is)
          by false is = is

      -- the choices are actions of the plans, so none of them is removed
      choices_outside : (removed kept : List ActionId) (w : PlainWitness) → AreOutside w.plans.0 removed → AreOutside w.plans.1 removed → AreOutside (choices m removed kept w) removed
      choices_outside removed kept w first second b member = by (nat_lt (length removed) m) refl
        where
          by : (more : Bool) → nat_lt (length removed) m ≡ more → has_id removed b ≡ false
          by true can =
              let there = firsts_among kept (both w) b (sym (ap (λ c. has_id (cond c (firsts_outside kept (both w)) []) b) can) ∙ member) in
              elim (member_either w.plans.0 w.plans.1 b there) as (λ _. has_id removed b ≡ false) [ inl here ↦ first b here | inr here ↦ second b here ]
          by false full = absurd (false≢true (sym (ap (λ c. has_id (cond c (firsts_outside kept (both w)) []) b) full) ∙ member))

      -- the set of a child, by the action that names it
      child_stands : (removed kept rest : List ActionId) (a : ActionId) → Stands removed kept rest → has_id r a ≡ true → has_id removed a ≡ false
          → (more : List ActionId) × Stands (with_id removed a) kept more
      child_stands removed kept rest a stands there new =
          let in_rest : IsTrue (has_id rest a) = elim (stands.covered a there) [ inl old ↦ absurd (not_both (has_id removed a) old new) | inr other ↦ other ] in
          let less = less_one rest a in_rest in (
            less.rest,
            record {
              has = λ b member. elim (with_id_cases removed a b member) as (λ _. IsTrue (has_id r b)) [
                | inl same ↦ subst (λ x. IsTrue (has_id r x)) same there
                | inr old ↦ stands.has b old
              ];
              free = stands.free;
              covered = λ b member. elim (stands.covered b member) [
                | inl old ↦ inl (with_id_old removed a b old)
                | inr other ↦ elim (less.others b other) [ inl same ↦ inl (with_id_new removed a b same) | inr left ↦ inr left ]
              ];
              few = let longer = with_id_length removed a in omega (arith, longer, less.shorter, stands.few);
            },
          )

      -- one more action is kept, which is not in the set
      kept_stands : (removed kept rest : List ActionId) (a : ActionId) → Stands removed kept rest → has_id r a ≡ false → Stands removed (kept ++ a ∷ []) rest
      kept_stands removed kept rest a stands new = record {
        has = stands.has;
        free = λ b member. elim (member_pushed kept a b member) as (λ _. has_id r b ≡ false) [
          | inl same ↦ subst (λ x. has_id r x ≡ false) same new
          | inr old ↦ stands.free b old
        ];
        covered = stands.covered;
        few = stands.few;
      }

      mutual
        -- at each node, each such set leaves a long common sequence
        pub node_hides : (n : PlainNode) (removed kept rest : List ActionId) → IsValidNode t costs named m len removed kept n → Stands removed kept rest → HidesFor t r len
        node_hides (leaf g table) removed kept rest valid stands = absurd (no_leaf removed g table stands.has valid)
        node_hides (branch w children) removed kept rest valid stands =
            let first = reaches_free t w.goals.0 removed (start_of t) w.plans.0 valid.0.first.0 in
            let second = reaches_free t w.goals.1 removed (start_of t) w.plans.1 valid.0.second.0 in
            elim (cases_Bool (list_any (λ a. has_id r a) (choices m removed kept w))) [
              | inl some ↦ children_hide children removed kept (choices m removed kept w) rest valid.2 stands (choices_outside removed kept w first second) some
              | inr none ↦
                  let free = none_chosen removed kept rest w stands none in
                  shown_hides removed w len valid.0 valid.1
                  (free w.plans.0 first (λ b member. member_left w.plans.0 w.plans.1 b member))
                  (free w.plans.1 second (λ b member. member_right w.plans.0 w.plans.1 b member))
            ]

        pub children_hide : (children : PlainNodes) (removed kept list rest : List ActionId) → AreValidChildren t costs named m len removed kept list children
            → Stands removed kept rest → AreOutside list removed → list_any (λ a. has_id r a) list ≡ true → HidesFor t r len
        children_hide no_nodes removed kept [] rest valid stands outside some = absurd (false≢true some)
        children_hide no_nodes removed kept (a ∷ list) rest valid stands outside some = absurd valid
        children_hide (nodes x xs) removed kept [] rest valid stands outside some = absurd valid
        children_hide (nodes x xs) removed kept (a ∷ list) rest valid stands outside some =
            elim (or_cases (has_id r a) (list_any (λ b. has_id r b) list) some) [
              | inl here ↦
                  let child = child_stands removed kept rest a stands here (outside a (member_first a list)) in
                  node_hides x (with_id removed a) kept child.0 valid.0 child.1
              | inr later ↦ elim (cases_Bool (has_id r a)) [
                | inl here ↦
                    let child = child_stands removed kept rest a stands here (outside a (member_first a list)) in
                    node_hides x (with_id removed a) kept child.0 valid.0 child.1
                | inr new ↦
                    children_hide xs removed (kept ++ a ∷ []) list rest valid.1 (kept_stands removed kept rest a stands new)
                    (λ b member. outside b (member_later a list b member)) later
              ]
            ]

module _ (law : RowsRefute) (t : PlainTask) (costs : List (Option ℕ)) (are : AreCosts t [] costs) (named : List PlainNamed) (are_named : All (IsValidNamed t costs) named) (m len : ℕ) where
  -- at a node, each set that has its removed actions and none of its kept ones
  pub node_means : (removed kept : List ActionId) (node : PlainNode) → IsRising removed → IsValidNode t costs named m len removed kept node
      → (set : List ActionId) → length set ≤ m → KeepsCosts t set → AreAmong removed set → AreOutside kept set → HidesFor t set len
  node_means removed kept node rise valid set small keeps among outside =
      let more = others removed set rise among in
      node_hides t costs are set keeps law named are_named m len node removed kept more.rest valid
      (record { has = among; free = outside; covered = more.covered; few = omega (arith, more.counted, small) })

  -- at the root, each set
  pub tree_means : (tree : PlainNode) → IsValidTree t costs named m len tree → (set : List ActionId) → length set ≤ m → KeepsCosts t set → HidesFor t set len
  tree_means tree valid set small keeps =
      node_means [] [] tree tt valid set small keeps (λ a member. absurd (false≢true member)) (λ a member. absurd (false≢true member))
