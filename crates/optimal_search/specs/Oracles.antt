-- What an oracle is asked about, and what it knows.
use Rattle.std.specs.Prelude.{◌≡◌, ℕ, zero, suc, ◌≤◌, ◌*◌, ◌<◌, List, length, map, Option, Some, None, All, Any}
use Rattle.grd_base.specs.declared.bits.Bits.{Bits}
use Rattle.grd_base.specs.declared.ids.AtomId.{AtomId}
use Rattle.grd_base.specs.declared.ids.ActionId.{ActionId}
use Rattle.grd_base.specs.declared.ids.GoalId.{GoalId}
use Rattle.grd_base.specs.declared.limits.Bound.{Bound}
use Rattle.grd_base.specs.declared.limits.Bound.TheVariants.{Steps, Never}
use Rattle.grd_base.specs.Bits.{members}
use Rattle.strips_model.specs.Values.{PlainTask}
use Rattle.strips_model.specs.Plans.{State, set_of, start_of, Reaches}
use Rattle.strips_model.specs.StateLists.{atoms_in}
use Rattle.search_core.specs.declared.rows.KeptRow.{KeptRow}
use Rattle.search_core.specs.Tables.{AreRefuted}
use Rattle.cost_certificate.specs.Rows.{PlainRow}
use Rattle.cost_certificate.specs.Tables.{IsAtMost, Refutes}
use Rattle.optimal_search.specs.Space.{successors_of, holds_in, IsState}
use Rattle.optimal_search.specs.Floors.{ShowsBound}

-- a state, and how many steps at least lead on from it to the goal: more than the bound
pub record KnownBound : Type 0 where
  pub state : List AtomId
  pub bound : Bound

-- an oracle: its task, goal and removed actions, how many states a question may count, and what it knows
pub record PlainOracle : Type 0 where
  pub task : PlainTask
  pub goal : GoalId
  pub removed : List ActionId
  pub limit : ℕ
  pub known : List KnownBound

-- the two ask about the same
pub record IsAlike (x y : PlainOracle) : Type 0 where
  pub task : x.task ≡ y.task
  pub goal : x.goal ≡ y.goal
  pub removed : x.removed ≡ y.removed
  pub limit : x.limit ≡ y.limit

-- a bound is known of the state that is at least so high
abbrev pub Knows : List KnownBound → State → Bound → Type 0
Knows known s bound = Any (λ k. (set_of k.state ≡ s) × IsAtMost bound k.bound) known

-- what the one knows, the other knows as well
abbrev pub KnowsAllOf : List KnownBound → List KnownBound → Type 0
KnowsAllOf old new = (s : State) (bound : Bound) → Knows old s bound → Knows new s bound

-- what the oracle knows is so: each sequence that leads from the state to the goal without the removed
-- actions is longer than the bound, and for `Never` there is none
abbrev pub IsSoundOracle : PlainOracle → Type 0
IsSoundOracle o = (s : State) (bound : Bound) → Knows o.known s bound
    → (path : List ActionId) → Reaches o.task o.goal o.removed s path → Refutes bound (length path)

-- it is known of the start that no plan is shorter, or that there is none
abbrev pub KnowsCost : PlainTask → List KnownBound → Option ℕ → Type 0
KnowsCost t known (Some zero) = Unit {0}
KnowsCost t known (Some (suc n)) = Knows known (start_of t) (Steps n)
KnowsCost t known None = Knows known (start_of t) Never

-- what a row of a table says: its state and its bound
abbrev pub bound_of_row : PlainRow → KnownBound
bound_of_row row = record { state = row.state; bound = row.bound }

-- what is known by a row of a search
abbrev pub known_of : {W : ℕ} {M : Type 0} → PlainTask → KeptRow (Bits W) M → KnownBound
known_of t row = record { state = atoms_in t (members row.state); bound = row.bound }

-- what is known by rows of a search
abbrev pub known_by : {W : ℕ} {M : Type 0} → PlainTask → List (KeptRow (Bits W) M) → List KnownBound
known_by t rows = map (known_of t) rows

-- rows of states of the task that refute a done state
pub record AreRight {W : ℕ} (t : PlainTask) (g : GoalId) (removed : List ActionId) (rows : List (KeptRow (Bits W) (List (List ActionId)))) : Type 0 where
  pub states : All (λ row. IsState t row.state) rows
  pub refuted : AreRefuted (successors_of t removed) (holds_in t g) (ShowsBound t g removed) rows

-- what every oracle keeps: rows that are right, of states that hold the atoms of the task
pub record AreKept {W : ℕ} (t : PlainTask) (g : GoalId) (removed : List ActionId) (rows : List (KeptRow (Bits W) (List (List ActionId)))) : Type 0 where
  pub wide : W ≤ 64
  pub atoms : t.atoms ≤ 64 * W
  pub goal_in : g.0 < length t.goals
  pub right : AreRight t g removed rows
