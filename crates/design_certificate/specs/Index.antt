-- What the index of live rows keeps. Only private contracts speak of it.
use Rattle.std.specs.Prelude.{◌≡◌, ℕ, ◌<◌, ◌≤◌, List, length, Option, Some, None, IfSome, slice_get, Contains, All}
use Rattle.std.specs.Map.{keys_of}
use Rattle.grd_base.specs.declared.ids.GoalId.{GoalId}
use Rattle.grd_base.specs.Bits.{members, IsWhole}
use Rattle.strips_model.specs.Plans.{State, set_of}
use Rattle.design_certificate.specs.declared.index.StateAt.{StateAt}
use Rattle.design_certificate.specs.Live.{PlainLiveRow}

-- the row is at this state and depth
abbrev pub IsAt : PlainLiveRow → State → ℕ → Type 0
IsAt row s d = (set_of row.state ≡ s) × (row.depth ≡ d)

-- the row is there, and has all of the goals
abbrev pub HasAll : List GoalId → State → ℕ → PlainLiveRow → Type 0
HasAll goals s d row = IsAt row s d × All (Contains row.goals) goals

-- one place is not behind another one; behind none there is no place at all
abbrev pub IsUpTo : ℕ → Option ℕ → Type 0
IsUpTo j None = ⊥
IsUpTo j (Some i) = j ≤ i

-- at the place is a row with this state and depth
abbrev pub IsPlaceAt : List PlainLiveRow → State → ℕ → ℕ → Type 0
IsPlaceAt rows s d i = (row : PlainLiveRow) × (slice_get rows i ≡ Some row) × IsAt row s d

-- the place of the last row with this state and depth among the first n rows, or none where none of them is there
pub record IsLast (rows : List PlainLiveRow) (n : ℕ) (s : State) (d : ℕ) (place : Option ℕ) : Type 0 where
  pub there : IfSome place (λ i. (i < n) × IsPlaceAt rows s d i)
  pub others : (j : ℕ) (row : PlainLiveRow) → j < n → slice_get rows j ≡ Some row → IsAt row s d → IsUpTo j place

-- what a map has for a key
abbrev pub IsEntry : {K X : Type 0} → List (K × X) → K → Option X → Type 0
IsEntry entries k None = Contains (keys_of entries) k → ⊥
IsEntry entries k (Some x) = Contains entries (k, x)

-- for each place the place of the last row before it that has its state and depth
pub record AreChained (rows : List PlainLiveRow) (n : ℕ) (earlier : List (Option ℕ)) : Type 0 where
  pub each : length earlier ≡ n
  pub chain : (i : ℕ) (row : PlainLiveRow) (place : Option ℕ) → slice_get rows i ≡ Some row → slice_get earlier i ≡ Some place → IsLast rows i (set_of row.state) row.depth place

-- the first n rows are indexed: the last row of each state and depth is in the map, and the others are chained
pub record IsIndexed {W : ℕ} (rows : List PlainLiveRow) (n : ℕ) (entries : List (StateAt W × ℕ)) (earlier : List (Option ℕ)) : Type 0 where
  pub known : (k : StateAt W) (place : Option ℕ) → IsWhole k.state → IsEntry entries k place → IsLast rows n (members k.state) k.depth place
  pub chained : AreChained rows n earlier
