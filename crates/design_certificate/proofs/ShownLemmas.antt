-- What the parts of a certificate show together.
use Rattle.std.proofs.Common.{ℕ, zero, suc, ◌+◌, List, [], length, refl, sym, subst, arith, Option, Some, None}
use Rattle.std.specs.Prelude.{All}
use Rattle.std.specs.Option.{option_map}
use Rattle.grd_base.specs.declared.ids.ActionId.{ActionId}
use Rattle.grd_base.specs.declared.ids.GoalId.{GoalId}
use Rattle.grd_base.specs.declared.limits.Bound.{Bound}
use Rattle.grd_base.specs.declared.limits.Bound.TheVariants.{Steps, Never}
use Rattle.strips_model.specs.Values.{PlainTask, PlainWitness}
use Rattle.strips_model.specs.Plans.{start_of, Reaches, IsCost}
use Rattle.strips_model.specs.Common.{HasPlan, IsWcd, IsRightWcd, KeepsCosts, IsBest}
use Rattle.cost_certificate.specs.Rows.{PlainRow}
use Rattle.cost_certificate.specs.Tables.{IsAtMost, Refutes}
use Rattle.cost_certificate.specs.Found.{IsShown}
use Rattle.design_certificate.specs.Designs.{AreCosts}
use Rattle.design_certificate.specs.Live.{PlainLiveRows, HasNumber}
use Rattle.design_certificate.specs.Trees.{PlainNamed, IsValidNamed}
use Rattle.design_certificate.specs.Shown.{AreShown, ShowsWcd, ShowsDesign}
use Rattle.design_certificate.proofs.RowLemmas.{RowsRefute, row_refutes}
use Rattle.design_certificate.proofs.CostLemmas.{costs_kept, shown_witness, witness_common, plans_keep, plan_with_all, plan_given}
use Rattle.design_certificate.proofs.LiveLemmas.{common_short}
use Rattle.design_certificate.proofs.TreeLemmas.{tree_means}
use Rattle.design_certificate.proofs.BestLemmas.{best_of}

never_refutes : (bound : Bound) (n : ℕ) → IsAtMost Never bound → Refutes bound n → ⊥
never_refutes (Steps r) n high far = high
never_refutes Never n high far = far

module _ (law : RowsRefute) (t : PlainTask) where
  -- a shown cost is the cost
  shown_cost : (g : GoalId) (plan : List ActionId) (table : List PlainRow) (c : Option ℕ) → IsShown t g [] plan table c → IsCost t g [] c
  shown_cost g plan table (Some zero) shown = ((plan, shown.1, shown.0), λ p is. omega arith)
  shown_cost g plan table (Some (suc c)) shown =
      ((plan, shown.1, shown.0), λ p is. let far = row_refutes law t g [] table (start_of t) c shown.2 shown.3 p is in omega (arith, far))
  shown_cost g plan table None shown = λ p is.
      let (k, row, within, at, fits) = shown.1 in
      never_refutes row.bound (length p) fits.1 (law t g [] table row shown.0 (k, within, at) p (subst (λ u. Reaches t g [] u p) (sym fits.0) is))

  pub costs_shown : (costs : List (Option ℕ)) → AreShown t costs → AreCosts t [] costs
  costs_shown costs are = record {
    each_goal = are.each_goal;
    right = λ k c at. let x = are.shown k c at in shown_cost (record { 0 = k }) x.0 x.1 c x.2;
  }

  module _ (costs : List (Option ℕ)) (are : AreCosts t [] costs) where
    -- what shows the worst-case distinctiveness without a set that keeps the costs
    pub wcd_shown : (removed : List ActionId) (x : Option (PlainWitness × PlainLiveRows)) → KeepsCosts t removed → ShowsWcd t costs removed x → IsRightWcd t removed (option_map (λ y. y.0) x)
    wcd_shown removed (Some (w, live)) keeps shown =
        let kept = costs_kept t removed costs are keeps in
        let is = shown_witness t removed costs kept w shown.0 in
        (is, ((w.goals.0, w.goals.1, w.prefix, refl, witness_common t removed w is), common_short law t costs removed (length w.prefix) live shown.1 kept))
    wcd_shown removed None keeps none = λ i j differ has also. none i j differ (number i has) (number j also)
      where
        number : (g : GoalId) → HasPlan t g removed → HasNumber costs g
        number g has = plan_given t costs are g has.0 (plan_with_all t g removed has.0 has.1)

    -- what shows a design
    pub design_shown : (named : List PlainNamed) → All (IsValidNamed t costs) named → (budget : ℕ) (removed : List ActionId) (w : ℕ) → ShowsDesign t costs named budget removed w
        → IsBest t budget removed × IsWcd t removed (Some w)
    design_shown named are_named budget removed w shows =
        let keeps = plans_keep t removed costs are shows.plans in
        let wcd : IsWcd t removed (Some w) = subst (λ n. IsWcd t removed (Some n)) shows.number (wcd_shown removed (Some (shows.witness, shows.live)) keeps shows.wcd).1 in (
          best_of t budget removed w shows.few keeps wcd
              (λ some. let tree = shows.first some in tree_means law t costs are named are_named budget w tree.0 tree.1)
              (λ n is. let tree = shows.second n is in tree_means law t costs are named are_named n (w + 1) tree.0 tree.1),
          wcd,
        )
