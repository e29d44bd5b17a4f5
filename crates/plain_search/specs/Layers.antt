-- The states within some number of steps from the start, in layers.
use Rattle.std.specs.Prelude.{◌≡◌, ℕ, ◌+◌, ◌<◌, ◌≤◌, List, [], length, Some, slice_get}
use Rattle.grd_base.specs.declared.ids.ActionId.{ActionId}
use Rattle.strips_model.specs.Values.{PlainTask}
use Rattle.strips_model.specs.Plans.{State, after, step, start_of}
use Rattle.plain_search.specs.Walks.{Visit, AreWays, HasVisit}

-- some sequence of at most n steps leads from the start to the state
abbrev pub IsWithin : PlainTask → ℕ → State → Type 0
IsWithin t n u = (path : List ActionId) × (after t [] (start_of t) path ≡ Some u) × (length path ≤ n)

-- the visits are the states within so many steps, each once, in the order of their depths; a state's
-- depth is the length of the path to its visit. Every state less deep than the last has its
-- successors visited
pub record IsLayered (t : PlainTask) (steps : ℕ) (vs : List Visit) (depths : List ℕ) : Type 0 where
  pub path : ℕ → List ActionId
  pub ways : AreWays path vs
  pub leads : (k : ℕ) (v : Visit) → slice_get vs k ≡ Some v → after t [] (start_of t) (path k) ≡ Some v.state
  pub first : HasVisit path vs (start_of t) 0
  pub same_length : length depths ≡ length vs
  pub depth : (k : ℕ) → k < length vs → slice_get depths k ≡ Some (length (path k))
  pub within : (k : ℕ) → k < length vs → length (path k) ≤ steps
  pub rise : (j k : ℕ) → j ≤ k → k < length vs → length (path j) ≤ length (path k)
  pub differ : (j k : ℕ) (v w : Visit) → j < k → slice_get vs j ≡ Some v → slice_get vs k ≡ Some w → v.state ≡ w.state → ⊥
  pub closed : (k : ℕ) (v : Visit) (a : ActionId) (u : State) → slice_get vs k ≡ Some v → length (path k) < steps
      → step t v.state a ≡ Some u → HasVisit path vs u (length (path k) + 1)
