-- The first fault of a table: rows are looked at in their order, in each its state before its sets,
-- these in their order, and then whether they suffice; what rows need of one another comes behind all
-- that.
use Rattle.std.specs.Prelude.{◌≡◌, ℕ, List, ◌∷◌, ◌++◌, length, IsTrue, false, All}
use Rattle.grd_base.specs.declared.ids.AtomId.{AtomId}
use Rattle.grd_base.specs.declared.ids.ActionId.{ActionId}
use Rattle.grd_base.specs.declared.ids.GoalId.{GoalId}
use Rattle.grd_base.specs.declared.limits.Bound.{Bound}
use Rattle.grd_base.specs.Sets.{IsSubset}
use Rattle.strips_model.specs.Values.{PlainTask}
use Rattle.strips_model.specs.Plans.{State, set_of, goal_holds}
use Rattle.strips_model.specs.Cuts.{AreApart, IsFamily}
use Rattle.cost_certificate.specs.declared.kinds.CheckKind.{CheckKind}
use Rattle.cost_certificate.specs.declared.kinds.CheckKind.TheVariants.{RowGoalHolds, CutMissesState, CutHoldsGoal, CutsMeet, TooFewCuts, RowSuccessor}
use Rattle.cost_certificate.specs.declared.kinds.TableFault.{TableFault}
use Rattle.cost_certificate.specs.declared.rows.Why.{Why}
use Rattle.cost_certificate.specs.declared.rows.Why.TheVariants.{Cuts, Steps as BySteps}
use Rattle.cost_certificate.specs.Rows.{PlainRow}
use Rattle.cost_certificate.specs.Tables.{CutsSuffice, RowsHold, IsSoundRow}

-- the element at the place, counted from 0, is bad, and all before it are good
pub record IsFirstBad {X : Type 0} (Good Bad : X → Type 0) (xs : List X) (place : ℕ) : Type 0 where
  pub before : List X
  pub item : X
  pub behind : List X
  pub whole : xs ≡ before ++ item ∷ behind
  pub counted : place ≡ length before
  pub good : All Good before
  pub bad : Bad item

-- what a set of a row fails, behind those before it
abbrev pub FailsSet : PlainTask → GoalId → List ActionId → State → List (List AtomId) → List AtomId → CheckKind → Type 0
FailsSet t g removed s before u CutMissesState = IsSubset s (set_of u) → ⊥
FailsSet t g removed s before u CutHoldsGoal = IsSubset s (set_of u) × IsTrue (goal_holds t g (set_of u))
FailsSet t g removed s before u CutsMeet =
    IsSubset s (set_of u) × (goal_holds t g (set_of u) ≡ false) × (All (λ v. AreApart t removed v u) before → ⊥)
FailsSet t g removed s before u _ = ⊥

-- the set at the place, counted from 0, is the first that fails: those before it are a family
pub record IsFirstBadSet (t : PlainTask) (g : GoalId) (removed : List ActionId) (s : State) (sets : List (List AtomId)) (kind : CheckKind) (place : ℕ) : Type 0 where
  pub before : List (List AtomId)
  pub set : List AtomId
  pub behind : List (List AtomId)
  pub whole : sets ≡ before ++ set ∷ behind
  pub counted : place ≡ length before
  pub family : IsFamily t g removed s before
  pub fails : FailsSet t g removed s before set kind

-- what the sets of a row with this state and bound fail, and the place of the one that does
abbrev pub FailsSets : PlainTask → GoalId → List ActionId → State → Bound → List (List AtomId) → CheckKind → ℕ → Type 0
FailsSets t g removed s bound sets TooFewCuts place =
    (place ≡ 0) × IsFamily t g removed s sets × (CutsSuffice t removed sets bound → ⊥)
FailsSets t g removed s bound sets kind place = IsFirstBadSet t g removed s sets kind place

-- what a row by cuts fails by its sets; a row by steps has none
abbrev pub FailsWhy : PlainTask → GoalId → List ActionId → PlainRow → Why → CheckKind → ℕ → Type 0
FailsWhy t g removed row (Cuts sets) kind place = FailsSets t g removed (set_of row.state) row.bound sets kind place
FailsWhy t g removed row BySteps kind place = ⊥

-- what a row fails for itself
abbrev pub FailsRow : PlainTask → GoalId → List ActionId → PlainRow → CheckKind → ℕ → Type 0
FailsRow t g removed row RowGoalHolds place = (place ≡ 0) × IsTrue (goal_holds t g (set_of row.state))
FailsRow t g removed row kind place = (goal_holds t g (set_of row.state) ≡ false) × FailsWhy t g removed row row.why kind place

-- the kind, the row and the set of the first fault
abbrev pub IsFaultOf : PlainTask → GoalId → List ActionId → List PlainRow → CheckKind → ℕ → ℕ → Type 0
IsFaultOf t g removed rows RowSuccessor row set =
    (set ≡ 0) × All (IsSoundRow t g removed) rows
    × IsFirstBad (λ r. RowsHold t removed rows r r.why) (λ r. RowsHold t removed rows r r.why → ⊥) rows row
IsFaultOf t g removed rows kind row set =
    IsFirstBad (IsSoundRow t g removed) (λ r. FailsRow t g removed r kind set) rows row

-- the fault is the first of the table
abbrev pub IsTableFault : PlainTask → GoalId → List ActionId → List PlainRow → TableFault → Type 0
IsTableFault t g removed rows fault = IsFaultOf t g removed rows fault.kind fault.row fault.set
