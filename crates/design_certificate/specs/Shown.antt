-- What the parts of a certificate show together: the costs, the worst-case distinctiveness and the design.
use Rattle.std.specs.Prelude.{◌≡◌, ◌≢◌, ℕ, ◌+◌, ◌<◌, ◌≤◌, List, [], length, Option, Some, None, slice_get}
use Rattle.grd_base.specs.declared.ids.ActionId.{ActionId}
use Rattle.grd_base.specs.declared.ids.GoalId.{GoalId}
use Rattle.strips_model.specs.Values.{PlainTask, PlainWitness}
use Rattle.strips_model.specs.Plans.{IsPlan}
use Rattle.cost_certificate.specs.Rows.{PlainRow}
use Rattle.cost_certificate.specs.Found.{IsShown}
use Rattle.design_certificate.specs.Designs.{Gives}
use Rattle.design_certificate.specs.Witnesses.{IsShownWitness}
use Rattle.design_certificate.specs.Live.{PlainLiveRows, HasNumber, IsValidLive}
use Rattle.design_certificate.specs.Trees.{PlainNamed, PlainNode, IsValidTree}

-- each cost is shown by its plan and its table, in the order of the goals
pub record AreShown (t : PlainTask) (costs : List (Option ℕ)) : Type 0 where
  pub each_goal : length costs ≡ length t.goals
  pub shown : (k : ℕ) (c : Option ℕ) → slice_get costs k ≡ Some c
      → (plan : List ActionId) × (table : List PlainRow) × IsShown t (record { 0 = k }) [] plan table c

-- a witness with live rows of its length, or none where no two goals have costs
abbrev pub ShowsWcd : PlainTask → List (Option ℕ) → List ActionId → Option (PlainWitness × PlainLiveRows) → Type 0
ShowsWcd t costs removed (Some x) = IsShownWitness t costs removed x.0 × IsValidLive t costs removed (length x.0.prefix) x.1
ShowsWcd t costs removed None = (g h : GoalId) → g ≢ h → HasNumber costs g → HasNumber costs h → ⊥

-- a design with its number: plans that keep the costs, a witness with live rows without the removed
-- actions, a tree for the budget where the number is not 0, and one for fewer members where there are any
pub record ShowsDesign (t : PlainTask) (costs : List (Option ℕ)) (named : List PlainNamed) (budget : ℕ) (removed : List ActionId) (w : ℕ) : Type 0 where
  pub few : length removed ≤ budget
  pub plans : (g : GoalId) (c : ℕ) → Gives costs g c → (plan : List ActionId) × IsPlan t g removed plan × (length plan ≡ c)
  pub witness : PlainWitness
  pub live : PlainLiveRows
  pub wcd : ShowsWcd t costs removed (Some (witness, live))
  pub number : length witness.prefix ≡ w
  pub first : 0 < w → (tree : PlainNode) × IsValidTree t costs named budget w tree
  pub second : (n : ℕ) → length removed ≡ n + 1 → (tree : PlainNode) × IsValidTree t costs named n (w + 1) tree
