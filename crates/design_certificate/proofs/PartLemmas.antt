-- What the parts of a certificate on its design show.
use Rattle.std.proofs.Common.{◌≡◌, ℕ, zero, suc, ◌+◌, ◌<◌, ◌≤◌, List, [], ◌∷◌, length, sym, ◌∙◌, subst, arith, Option, Some, None}
use Rattle.std.specs.Prelude.{slice_get}
use Rattle.std.proofs.lemmas.Option.{same_Some}
use Rattle.grd_base.specs.declared.ids.ActionId.{ActionId}
use Rattle.grd_base.specs.declared.ids.GoalId.{GoalId}
use Rattle.strips_model.specs.Values.{PlainTask}
use Rattle.strips_model.specs.Plans.{IsPlan}
use Rattle.strips_model.specs.Common.{IsWcd, IsBest}
use Rattle.cost_certificate.specs.Rows.{PlainRow}
use Rattle.cost_certificate.specs.Found.{IsShown}
use Rattle.design_certificate.specs.Trees.{PlainNamed, PlainNode, IsValidTree}
use Rattle.design_certificate.specs.Shown.{AreShown, ShowsWcd, ShowsDesign}
use Rattle.design_certificate.specs.Parts.{PlainWcd, PlainDesign, ArePlansFrom, HasTree, IsFirstTree, IsSecondTree, LeavesWcd, IsShownDesign}
use Rattle.design_certificate.proofs.RowLemmas.{RowsRefute}
use Rattle.design_certificate.proofs.ShownLemmas.{costs_shown, wcd_shown, design_shown}
use Rattle.design_certificate.proofs.BestLemmas.{nothing_best}

module _ (t : PlainTask) where
  -- a goal has a plan of its length
  abbrev HasPlanOf : List ActionId → GoalId → ℕ → Type 0
  HasPlanOf removed g c = (plan : List ActionId) × IsPlan t g removed plan × (length plan ≡ c)

  plan_shown : (g : GoalId) (plan : List ActionId) (table : List PlainRow) (c : ℕ) → IsShown t g [] plan table (Some c) → HasPlanOf [] g c
  plan_shown g plan table zero shown = (plan, shown.0, shown.1)
  plan_shown g plan table (suc c) shown = (plan, shown.0, shown.1)

  plans_given : (removed : List ActionId) (costs : List (Option ℕ)) (k : ℕ) (plans : List (List ActionId)) → ArePlansFrom t removed k costs plans
      → (j : ℕ) (g : GoalId) (c : ℕ) → g.0 ≡ k + j → slice_get costs j ≡ Some (Some c) → HasPlanOf removed g c
  plans_given removed [] k plans are j g c is at = let e : None ≡ Some (Some c) = at in cc
  plans_given removed (None ∷ costs) k plans are zero g c is at = let e : Some None ≡ Some (Some c) = at in cc
  plans_given removed (None ∷ costs) k plans are (suc j) g c is at = plans_given removed costs (k + 1) plans are j g c (omega (arith, is)) at
  plans_given removed (Some b ∷ costs) k [] are j g c is at = absurd are
  plans_given removed (Some b ∷ costs) k (p ∷ plans) are zero g c is at =
      let here : g.0 ≡ k = omega (arith, is) in
      let same : b ≡ c = same_Some b c (same_Some (Some b) (Some c) at) in
      (p, subst (λ n. IsPlan t (record { 0 = n }) removed p) (sym here) are.0, are.1 ∙ same)
  plans_given removed (Some b ∷ costs) k (p ∷ plans) are (suc j) g c is at = plans_given removed costs (k + 1) plans are.2 j g c (omega (arith, is)) at

  module _ (costs : List (Option ℕ)) (named : List PlainNamed) where
    has_tree : (m len : ℕ) (tree : Option PlainNode) → HasTree t costs named m len tree → (x : PlainNode) × IsValidTree t costs named m len x
    has_tree m len None none = absurd none
    has_tree m len (Some x) valid = (x, valid)

    first_tree : (budget w : ℕ) (tree : Option PlainNode) → IsFirstTree t costs named budget w tree → 0 < w → (x : PlainNode) × IsValidTree t costs named budget w x
    first_tree budget zero tree is some = absurd (omega (arith, some))
    first_tree budget (suc w) tree is some = has_tree budget (suc w) tree is

    second_tree : (removed : List ActionId) (w : ℕ) (tree : Option PlainNode) → IsSecondTree t costs named removed w tree → (n : ℕ) → length removed ≡ n + 1
        → (x : PlainNode) × IsValidTree t costs named n (w + 1) x
    second_tree [] w tree is n long = absurd (omega (arith, long))
    second_tree (a ∷ removed) w tree is n long =
        let same : length removed ≡ n = omega (arith, long) in
        subst (λ m. (x : PlainNode) × IsValidTree t costs named m (w + 1) x) same (has_tree (length removed) (w + 1) tree is)

    part_design : (whole : Option PlainWcd) → AreShown t costs → ShowsWcd t costs [] whole → (budget w : ℕ) (removed : List ActionId) (plans : List (List ActionId)) (own : Option PlainWcd)
        → length removed ≤ budget → LeavesWcd t costs whole removed plans own w → (0 < w → (x : PlainNode) × IsValidTree t costs named budget w x)
        → ((n : ℕ) → length removed ≡ n + 1 → (x : PlainNode) × IsValidTree t costs named n (w + 1) x) → ShowsDesign t costs named budget removed w
    part_design whole are shown budget w [] plans own few leaves first second =
        let x = leaves.2 in record {
          few = few;
          plans = λ g c gives. let y = are.shown g.0 (Some c) gives in plan_shown g y.0 y.1 c y.2;
          witness = x.0.0;
          live = x.0.1;
          wcd = subst (ShowsWcd t costs []) x.1 shown;
          number = x.2;
          first = first;
          second = second;
        }
    part_design whole are shown budget w (a ∷ removed) plans own few leaves first second =
        let x = leaves.1 in record {
          few = few;
          plans = λ g c gives. plans_given (a ∷ removed) costs 0 plans leaves.0 g.0 g c (omega arith) gives;
          witness = x.0.0;
          live = x.0.1;
          wcd = x.2;
          number = x.3;
          first = first;
          second = second;
        }

-- the design is best, and leaves what it says
pub part_shown : (law : RowsRefute) (t : PlainTask) (costs : List (Option ℕ)) (whole : Option PlainWcd) → AreShown t costs → ShowsWcd t costs [] whole → (budget : ℕ) (d : PlainDesign) (w : Option ℕ)
    → IsShownDesign t costs budget whole d w → IsBest t budget d.removed × IsWcd t d.removed w
part_shown law t costs whole are shown budget d (Some w) best =
    design_shown law t costs (costs_shown law t costs are) d.named best.named budget d.removed w
    (part_design t costs d.named whole are shown budget w d.removed d.plans d.wcd best.few best.leaves (first_tree t costs d.named budget w d.first best.first)
    (second_tree t costs d.named d.removed w d.second best.second))
part_shown law t costs whole are shown budget d None (none, nothing) =
    let wcd : IsWcd t [] None = wcd_shown law t costs (costs_shown law t costs are) [] None (λ g c is. is) (subst (ShowsWcd t costs []) none shown) in
    subst (λ (e : PlainDesign). IsBest t budget e.removed × IsWcd t e.removed None) (sym nothing) (nothing_best t budget wcd, wcd)
