-- Valid tables. A table is a list of rows for one task, one goal and one set of removed actions; it is
-- valid where each row stands on its own cuts or on the rows of its successors.
use Rattle.std.specs.Prelude.{◌≡◌, ◌⊎◌, ℕ, zero, suc, ◌≤◌, ◌<◌, List, [], ◌∷◌, length, Some, false, All, Any}
use Rattle.grd_base.specs.declared.ids.AtomId.{AtomId}
use Rattle.grd_base.specs.declared.ids.ActionId.{ActionId}
use Rattle.grd_base.specs.declared.ids.GoalId.{GoalId}
use Rattle.grd_base.specs.declared.limits.Bound.{Bound}
use Rattle.grd_base.specs.declared.limits.Bound.TheVariants.{Steps, Never}
use Rattle.strips_model.specs.Values.{PlainTask, AreAtoms}
use Rattle.strips_model.specs.Plans.{State, set_of, goal_holds, step_without}
use Rattle.strips_model.specs.Cuts.{cut, IsEmptyCut, IsFamily}
use Rattle.cost_certificate.specs.declared.rows.Why.{Why}
use Rattle.cost_certificate.specs.declared.rows.Why.TheVariants.{Cuts, Steps as BySteps}
use Rattle.cost_certificate.specs.Rows.{PlainRow}

-- a bound is at most another; `Never` is at least every number
abbrev pub IsAtMost : Bound → Bound → Type 0
IsAtMost (Steps n) (Steps r) = n ≤ r
IsAtMost (Steps n) Never = Unit {0}
IsAtMost Never (Steps r) = ⊥
IsAtMost Never Never = Unit {0}

-- some row has this state, with a bound that is at least so high
abbrev pub HasRow : List PlainRow → State → Bound → Type 0
HasRow rows s bound = Any (λ row. (set_of row.state ≡ s) × IsAtMost bound row.bound) rows

-- each successor of the state by an action that is not removed has such a row
abbrev pub SuccessorsHave : PlainTask → List ActionId → List PlainRow → State → Bound → Type 0
SuccessorsHave t removed rows s bound = (a : ActionId) (u : State) → step_without t removed s a ≡ Some u → HasRow rows u bound

-- what a row by steps needs: nothing for 0 steps, for more that each successor has a row of one step
-- less, and for `Never` that each has one with `Never`
abbrev pub StepsHold : PlainTask → List ActionId → List PlainRow → State → Bound → Type 0
StepsHold t removed rows s (Steps zero) = Unit {0}
StepsHold t removed rows s (Steps (suc r)) = SuccessorsHave t removed rows s (Steps r)
StepsHold t removed rows s Never = SuccessorsHave t removed rows s Never

-- one of the sets has an empty cut
abbrev pub HasEmptyCut : PlainTask → List ActionId → List (List AtomId) → Type 0
HasEmptyCut t removed sets = Any (λ u. IsEmptyCut (cut t removed (set_of u))) sets

-- the cuts suffice for a bound: one is empty, or there are more of them than the bound has steps
abbrev pub CutsSuffice : PlainTask → List ActionId → List (List AtomId) → Bound → Type 0
CutsSuffice t removed sets (Steps r) = HasEmptyCut t removed sets ⊎ (r < length sets)
CutsSuffice t removed sets Never = HasEmptyCut t removed sets

-- the sets of a row by cuts are a family for its state, and suffice for its bound
abbrev pub SetsHold : PlainTask → GoalId → List ActionId → PlainRow → Why → Type 0
SetsHold t g removed row (Cuts sets) = IsFamily t g removed (set_of row.state) sets × CutsSuffice t removed sets row.bound
SetsHold t g removed row BySteps = Unit {0}

-- a row by steps has what it needs of the other rows
abbrev pub RowsHold : PlainTask → List ActionId → List PlainRow → PlainRow → Why → Type 0
RowsHold t removed rows row (Cuts sets) = Unit {0}
RowsHold t removed rows row BySteps = StepsHold t removed rows (set_of row.state) row.bound

-- what a row has to be for itself: the goal does not hold in its state, and the sets of a row by cuts
-- hold
pub record IsSoundRow (t : PlainTask) (g : GoalId) (removed : List ActionId) (row : PlainRow) : Type 0 where
  pub leaves_open : goal_holds t g (set_of row.state) ≡ false
  pub sets : SetsHold t g removed row row.why

-- each row is sound, and has what it needs of the others
pub record IsValidTable (t : PlainTask) (g : GoalId) (removed : List ActionId) (rows : List PlainRow) : Type 0 where
  pub sound : All (IsSoundRow t g removed) rows
  pub supported : All (λ row. RowsHold t removed rows row row.why) rows

-- the sets of a row rise and name atoms of the task
abbrev pub AreSets : ℕ → Why → Type 0
AreSets atoms (Cuts sets) = All (AreAtoms atoms) sets
AreSets atoms BySteps = Unit {0}

-- a row over the atoms of the task
pub record IsRowOver (t : PlainTask) (row : PlainRow) : Type 0 where
  pub state : AreAtoms t.atoms row.state
  pub sets : AreSets t.atoms row.why

-- what a bound says of the length of a sequence that reaches the goal: it is longer; for `Never`
-- there is none
abbrev pub Refutes : Bound → ℕ → Type 0
Refutes (Steps r) n = r < n
Refutes Never n = ⊥

-- a state goes before others where its row is by steps
abbrev pub with_state : Why → State → List State → List State
with_state (Cuts sets) s others = others
with_state BySteps s others = s ∷ others

-- the states of the rows by steps
abbrev pub states_by_steps : List PlainRow → List State
states_by_steps [] = []
states_by_steps (row ∷ rows) = with_state row.why (set_of row.state) (states_by_steps rows)
