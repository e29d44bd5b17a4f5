-- Valid live rows. They show how long two goals can't be told apart: a goal is live at a state and a depth
-- where a plan of at most so many actions as the goal is given may still lead through it there. The
-- given numbers are the costs, or any others.
use Rattle.std.specs.Prelude.{◌≡◌, ◌≢◌, ℕ, ◌+◌, ◌≤◌, List, [], ◌∷◌, length, map, Option, Some, None, Contains, All, Any}
use Rattle.grd_base.specs.declared.ids.AtomId.{AtomId}
use Rattle.grd_base.specs.declared.ids.ActionId.{ActionId}
use Rattle.grd_base.specs.declared.ids.GoalId.{GoalId}
use Rattle.grd_base.specs.declared.limits.Bound.TheVariants.{Steps}
use Rattle.strips_model.specs.Values.{PlainTask}
use Rattle.strips_model.specs.Plans.{State, set_of, start_of, step_without, IsPlan}
use Rattle.strips_model.specs.Agents.{BeginsWith}
use Rattle.cost_certificate.specs.Rows.{PlainRow}
use Rattle.cost_certificate.specs.Tables.{HasRow, IsValidTable}
use Rattle.design_certificate.specs.Designs.{Gives}

-- a live row: a state that is reached with so many actions, and the goals that may be live there
pub record PlainLiveRow : Type 0 where
  pub state : List AtomId
  pub depth : ℕ
  pub goals : List GoalId

-- a table of a goal
abbrev pub GoalTable : Type 0
GoalTable = GoalId × List PlainRow

-- live rows with the tables that refute all other goals
pub record PlainLiveRows : Type 0 where
  pub tables : List GoalTable
  pub rows : List PlainLiveRow

-- some plan of the goal of at most so many actions, without the removed ones, begins with the sequence
abbrev pub BeginsShort : PlainTask → GoalId → List ActionId → ℕ → List ActionId → Type 0
BeginsShort t g removed most q = (plan : List ActionId) × IsPlan t g removed plan × (length plan ≤ most) × BeginsWith plan q

-- the goals, counted from k, to which a number is given
abbrev pub given_from : ℕ → List (Option ℕ) → List GoalId
given_from k [] = []
given_from k (None ∷ costs) = given_from (k + 1) costs
given_from k (Some c ∷ costs) = record { 0 = k } ∷ given_from (k + 1) costs

-- a number is given to the goal
abbrev pub HasNumber : List (Option ℕ) → GoalId → Type 0
HasNumber costs g = (c : ℕ) × Gives costs g c

-- the goal of the row is not refuted at a successor of the row's state: its number leaves some actions
-- behind the step, and no table of the goal has a row of so many for the successor
pub record StaysLive (costs : List (Option ℕ)) (tables : List GoalTable) (row : PlainLiveRow) (u : State) (g : GoalId) : Type 0 where
  pub there : Contains row.goals g
  pub left : ℕ
  pub number : Gives costs g (row.depth + 1 + left)
  pub open_there : All (λ x. x.0 ≡ g → HasRow x.1 u (Steps left) → ⊥) tables

-- the row is one step deeper, its state is the successor, and each goal that stays live is in it
pub record Follows (costs : List (Option ℕ)) (live : PlainLiveRows) (row : PlainLiveRow) (u : State) (next : PlainLiveRow) : Type 0 where
  pub depth : next.depth ≡ row.depth + 1
  pub state : set_of next.state ≡ u
  pub goals : (g : GoalId) → StaysLive costs live.tables row u g → Contains next.goals g

-- where two goals stay live at a successor, it is no deeper than the length, and some row follows there
abbrev pub IsFollowed : List (Option ℕ) → ℕ → PlainLiveRows → PlainLiveRow → State → Type 0
IsFollowed costs len live row u =
    (g h : GoalId) → g ≢ h → StaysLive costs live.tables row u g → StaysLive costs live.tables row u h → (row.depth + 1 ≤ len) × Any (Follows costs live row u) live.rows

-- the row begins: it has the start's state at depth 0, and all goals to which a number is given
pub record Begins (t : PlainTask) (costs : List (Option ℕ)) (row : PlainLiveRow) : Type 0 where
  pub depth : row.depth ≡ 0
  pub state : set_of row.state ≡ start_of t
  pub goals : (g : GoalId) → HasNumber costs g → Contains row.goals g

-- the tables are valid ones, one for each goal to which a number is given, in the order of the goals; no
-- row is too deep or has another goal; some row begins; and at each successor each row is followed
pub record IsValidLive (t : PlainTask) (costs : List (Option ℕ)) (removed : List ActionId) (len : ℕ) (live : PlainLiveRows) : Type 0 where
  pub each_goal : map (λ x. x.0) live.tables ≡ given_from 0 costs
  pub tables : All (λ x. IsValidTable t x.0 removed x.1) live.tables
  pub deep : All (λ row. row.depth ≤ len) live.rows
  pub goals : All (λ row. All (HasNumber costs) row.goals) live.rows
  pub begins : Any (Begins t costs) live.rows
  pub followed : All (λ row. (a : ActionId) (u : State) → step_without t removed (set_of row.state) a ≡ Some u → IsFollowed costs len live row u) live.rows
