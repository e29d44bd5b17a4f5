-- The parts of a certificate on its design, and when they show it.
use Rattle.std.specs.Prelude.{◌≡◌, ℕ, zero, suc, ◌+◌, ◌≤◌, List, [], ◌∷◌, length, map, Option, Some, None, All, AllPairs}
use Rattle.std.specs.Option.{option_map}
use Rattle.grd_base.specs.declared.ids.ActionId.{ActionId}
use Rattle.strips_model.specs.Values.{PlainTask, PlainWitness}
use Rattle.strips_model.specs.Plans.{IsPlan}
use Rattle.design_certificate.specs.declared.design.DesignPart.{DesignPart}
use Rattle.design_certificate.specs.Nodes.{plain_node}
use Rattle.design_certificate.specs.Live.{PlainLiveRows}
use Rattle.design_certificate.specs.Shown.{ShowsWcd}
use Rattle.design_certificate.specs.Trees.{PlainNamed, PlainNode, IsValidNamed, IsValidTree}

-- a witness with live rows
abbrev pub PlainWcd : Type 0
PlainWcd = PlainWitness × PlainLiveRows

-- a design: its removed actions, plans and a witness with live rows without them, named tables and two trees
pub record PlainDesign : Type 0 where
  pub removed : List ActionId
  pub plans : List (List ActionId)
  pub wcd : Option PlainWcd
  pub named : List PlainNamed
  pub first : Option PlainNode
  pub second : Option PlainNode

-- a design of nothing, with nothing to show
abbrev pub no_design : PlainDesign
no_design = record { removed = []; plans = []; wcd = None; named = []; first = None; second = None }

abbrev pub plain_design : DesignPart → PlainDesign
plain_design d = record {
  removed = d.removed;
  plans = map (λ p. p.items) d.plans.items;
  wcd = d.wcd;
  named = d.named.items;
  first = option_map plain_node d.first;
  second = option_map plain_node d.second;
}

module _ (t : PlainTask) where
  -- a plan for each goal with a cost, counted from k, of that length and without the removed actions
  abbrev pub ArePlansFrom : List ActionId → ℕ → List (Option ℕ) → List (List ActionId) → Type 0
  ArePlansFrom removed k [] plans = plans ≡ []
  ArePlansFrom removed k (None ∷ costs) plans = ArePlansFrom removed (k + 1) costs plans
  ArePlansFrom removed k (Some c ∷ costs) [] = ⊥
  ArePlansFrom removed k (Some c ∷ costs) (p ∷ plans) = IsPlan t (record { 0 = k }) removed p × (length p ≡ c) × ArePlansFrom removed (k + 1) costs plans

  module _ (costs : List (Option ℕ)) where
    -- a tree is there, and valid
    abbrev pub HasTree : List PlainNamed → ℕ → ℕ → Option PlainNode → Type 0
    HasTree named m len None = ⊥
    HasTree named m len (Some tree) = IsValidTree t costs named m len tree

    -- a tree that shows that no set of the budget leaves less than w; none where w is 0
    abbrev pub IsFirstTree : List PlainNamed → ℕ → ℕ → Option PlainNode → Type 0
    IsFirstTree named budget zero tree = tree ≡ None
    IsFirstTree named budget (suc w) tree = HasTree named budget (suc w) tree

    -- a tree that shows that each set with fewer members leaves more than w; none where nothing is removed
    abbrev pub IsSecondTree : List PlainNamed → List ActionId → ℕ → Option PlainNode → Type 0
    IsSecondTree named [] w tree = tree ≡ None
    IsSecondTree named (a ∷ removed) w tree = HasTree named (length removed) (w + 1) tree

    -- what is left without the removed actions: where there are none, what the whole task shows; else plans
    -- of the costs, and a witness with live rows of its length
    abbrev pub LeavesWcd : Option PlainWcd → List ActionId → List (List ActionId) → Option PlainWcd → ℕ → Type 0
    LeavesWcd whole [] plans own w = (plans ≡ []) × (own ≡ None) × ((x : PlainWcd) × (whole ≡ Some x) × (length x.0.prefix ≡ w))
    LeavesWcd whole (a ∷ removed) plans own w =
        ArePlansFrom (a ∷ removed) 0 costs plans × ((x : PlainWcd) × (own ≡ Some x) × ShowsWcd t costs (a ∷ removed) (Some x) × (length x.0.prefix ≡ w))

    -- the design leaves w, and its parts show that it is best; named tables are valid, no two of them are of
    -- the same goal and the same removed actions, and there is none without a tree
    pub record IsShownBest (budget : ℕ) (whole : Option PlainWcd) (d : PlainDesign) (w : ℕ) : Type 0 where
      pub few : length d.removed ≤ budget
      pub leaves : LeavesWcd whole d.removed d.plans d.wcd w
      pub named : All (IsValidNamed t costs) d.named
      pub differ : AllPairs (λ x y. x.goal ≡ y.goal → x.removed ≡ y.removed → ⊥) d.named
      pub used : w ≡ 0 → d.removed ≡ [] → d.named ≡ []
      pub first : IsFirstTree d.named budget w d.first
      pub second : IsSecondTree d.named d.removed w d.second

    -- the design part holds for what the whole task shows: where no two goals have costs, it removes
    -- nothing and shows nothing
    abbrev pub IsShownDesign : ℕ → Option PlainWcd → PlainDesign → Option ℕ → Type 0
    IsShownDesign budget whole d (Some w) = IsShownBest budget whole d w
    IsShownDesign budget whole d None = (whole ≡ None) × (d ≡ no_design)
