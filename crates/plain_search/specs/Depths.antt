-- How deep the visited states are while a walk goes on.
use Rattle.std.specs.Prelude.{◌≡◌, ℕ, ◌+◌, ◌<◌, ◌≤◌, List, [], ◌∷◌, length, Some, slice_get}
use Rattle.strips_model.specs.Values.{PlainTask}
use Rattle.strips_model.specs.Plans.{State, start_of}
use Rattle.plain_search.specs.Walks.{Visit, IsExpanded, Expands}

-- only the start is visited
pub record IsBegun (t : PlainTask) (vs : List Visit) : Type 0 where
  pub visit : Visit
  pub only : vs ≡ visit ∷ []
  pub state : visit.state ≡ start_of t

-- the first visit has depth 0, and each other one is one deeper than the visit before it
pub record AreDepths (vs : List Visit) (depths : List ℕ) : Type 0 where
  pub same_length : length depths ≡ length vs
  pub first : slice_get depths 0 ≡ Some 0
  pub later : (k n : ℕ) (v : Visit) → 0 < k → slice_get vs k ≡ Some v → slice_get depths v.parent ≡ Some n
      → slice_get depths k ≡ Some (n + 1)

-- all states before the head are expanded, and none is deeper than so many steps
pub record IsDeepened (t : PlainTask) (limit steps head : ℕ) (vs : List Visit) (ds : List ℕ) : Type 0 where
  pub walk : IsExpanded t limit head vs
  pub depths : AreDepths vs ds
  pub within : (k n : ℕ) → slice_get ds k ≡ Some n → n ≤ steps

-- the state at the head is `from`, and is being expanded; `deeper` is one more than its depth
pub record Deepens (t : PlainTask) (limit head part : ℕ) (from : State) (deeper : ℕ) (vs : List Visit) (ds : List ℕ) : Type 0 where
  pub walk : Expands t limit head part from vs
  pub depths : AreDepths vs ds
  pub depth : ℕ
  pub here : slice_get ds head ≡ Some depth
  pub next : deeper ≡ depth + 1
