-- What a walk through the states of a task has visited.
use Rattle.std.specs.Prelude.{◌≡◌, ℕ, ◌+◌, ◌<◌, ◌≤◌, List, [], ◌∷◌, ◌++◌, length, map, Some, slice_get, Any, ◌⊎◌}
use Rattle.grd_base.specs.declared.ids.ActionId.{ActionId}
use Rattle.grd_base.specs.declared.bits.Bits.{Bits}
use Rattle.grd_base.specs.Bits.{members, IsWhole}
use Rattle.strips_model.specs.Values.{PlainTask}
use Rattle.strips_model.specs.Plans.{State, after, step, start_of}
use Rattle.plain_search.specs.declared.visited.Step.{Step}

-- a visited state, with the place of the state before it and the action between the two
pub record Visit : Type 0 where
  pub state : State
  pub parent : ℕ
  pub action : ActionId

-- the visit of a state with its way back, and those of a list
abbrev pub visit_of : {W : ℕ} → Bits W × Step → Visit
visit_of e = record { state = members e.0; parent = e.1.parent; action = e.1.action }

abbrev pub visits : {W : ℕ} → List (Bits W × Step) → List Visit
visits entries = map visit_of entries

-- the states are as a program holds them
abbrev pub AreWhole : {W : ℕ} → List (Bits W × Step) → Type 0
AreWhole {W} entries = (k : ℕ) (e : Bits W × Step) → slice_get entries k ≡ Some e → IsWhole e.0

-- the state is among the visited ones
abbrev pub HasState : List Visit → State → Type 0
HasState vs u = Any (λ v. v.state ≡ u) vs

-- a visit whose state is there is left out, and another goes last
abbrev pub IsNoted : List Visit → List Visit → Visit → Type 0
IsNoted old new v = (HasState old v.state × (new ≡ old)) ⊎ ((HasState old v.state → ⊥) × (new ≡ old ++ v ∷ []))

-- the path to each visit but the first goes on from the path to the visit before it
pub record AreWays (path : ℕ → List ActionId) (vs : List Visit) : Type 0 where
  pub first : path 0 ≡ []
  pub lower : (k : ℕ) (v : Visit) → 0 < k → slice_get vs k ≡ Some v → v.parent < k
  pub later : (k : ℕ) (v : Visit) → 0 < k → slice_get vs k ≡ Some v → path k ≡ path v.parent ++ v.action ∷ []

-- there are such paths
abbrev pub HasWays : List Visit → Type 0
HasWays vs = (path : ℕ → List ActionId) × AreWays path vs

-- the sequence is the path to the visit at the place
abbrev pub IsWay : List Visit → ℕ → List ActionId → Type 0
IsWay vs place p = (path : ℕ → List ActionId) → AreWays path vs → p ≡ path place

-- the state is visited by a path of at most n steps
pub record HasVisit (path : ℕ → List ActionId) (vs : List Visit) (u : State) (n : ℕ) : Type 0 where
  pub place : ℕ
  pub visit : Visit
  pub at : slice_get vs place ≡ Some visit
  pub state : visit.state ≡ u
  pub short : length (path place) ≤ n

-- every visited state before the head has all its successors visited, and the state at the head
-- those by its first `part` actions
pub record IsWalk (t : PlainTask) (head part : ℕ) (vs : List Visit) : Type 0 where
  pub path : ℕ → List ActionId
  pub ways : AreWays path vs
  pub leads : (k : ℕ) (v : Visit) → slice_get vs k ≡ Some v → after t [] (start_of t) (path k) ≡ Some v.state
  pub first : HasVisit path vs (start_of t) 0
  pub rise : (j k : ℕ) → j ≤ k → k < length vs → length (path j) ≤ length (path k)
  pub near : (k : ℕ) → head < length vs → k < length vs → length (path k) ≤ length (path head) + 1
  pub differ : (j k : ℕ) (v w : Visit) → j < k → slice_get vs j ≡ Some v → slice_get vs k ≡ Some w → v.state ≡ w.state → ⊥
  pub closed : (k : ℕ) (v : Visit) (a : ActionId) (u : State) → k < head → slice_get vs k ≡ Some v
      → step t v.state a ≡ Some u → HasVisit path vs u (length (path k) + 1)
  pub begun : (v : Visit) (a : ActionId) (u : State) → slice_get vs head ≡ Some v → a.0 < part
      → step t v.state a ≡ Some u → HasVisit path vs u (length (path head) + 1)

-- all states before the head are expanded, and no more states are kept than the limit allows
pub record IsExpanded (t : PlainTask) (limit head : ℕ) (vs : List Visit) : Type 0 where
  pub walk : IsWalk t head 0 vs
  pub few : length vs ≤ limit

-- the state at the head is `from`, and is being expanded
pub record Expands (t : PlainTask) (limit head part : ℕ) (from : State) (vs : List Visit) : Type 0 where
  pub walk : IsWalk t head part vs
  pub few : length vs ≤ limit
  pub visit : Visit
  pub here : slice_get vs head ≡ Some visit
  pub state : visit.state ≡ from
