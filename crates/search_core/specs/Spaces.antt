-- Paths in a space, done states, levels, and bounds on the steps to a done state.
use Rattle.std.specs.Prelude.{◌≡◌, ℕ, ◌+◌, ◌≤◌, ◌<◌, List, [], ◌∷◌, length, map, Option, Some, None, Bool, true, Contains}
use Rattle.grd_base.specs.declared.ids.ActionId.{ActionId}
use Rattle.grd_base.specs.declared.limits.Bound.{Bound}
use Rattle.grd_base.specs.declared.limits.Bound.TheVariants.{Steps, Never}

-- the successors of each state, each with the action of its step
abbrev pub Successors : Type 0 → Type 0
Successors S = S → List (ActionId × S)

-- each step of a walk from s leads to a successor of the state before it
abbrev pub IsWalk : {S : Type 0} → Successors S → S → List (ActionId × S) → Type 0
IsWalk next s [] = Unit {0}
IsWalk next s (step ∷ rest) = Contains (next s) step × IsWalk next step.1 rest

-- the state in which a walk from s ends
abbrev pub end_of : {S : Type 0} → S → List (ActionId × S) → S
end_of s [] = s
end_of s (step ∷ rest) = end_of step.1 rest

-- the actions of a walk
abbrev pub actions_of : {S : Type 0} → List (ActionId × S) → List ActionId
actions_of walk = map (λ step. step.0) walk

-- the states on a walk from s, s among them
abbrev pub states_on : {S : Type 0} → S → List (ActionId × S) → List S
states_on s walk = s ∷ map (λ step. step.1) walk

-- the path is the actions of some walk from s to t
pub record IsPath {S : Type 0} (next : Successors S) (s : S) (path : List ActionId) (t : S) : Type 0 where
  pub walk : List (ActionId × S)
  pub steps : IsWalk next s walk
  pub carries : actions_of walk ≡ path
  pub ends : end_of s walk ≡ t

-- some path leads from s to t
pub record IsReachable {S : Type 0} (next : Successors S) (s t : S) : Type 0 where
  pub path : List ActionId
  pub leads : IsPath next s path t

-- a done state lies within n steps of s
pub record IsDoneWithin {S : Type 0} (next : Successors S) (is_done : S → Bool) (s : S) (n : ℕ) : Type 0 where
  pub path : List ActionId
  pub end : S
  pub leads : IsPath next s path end
  pub short : length path ≤ n
  pub done : is_done end ≡ true

-- a bound is at least n; `Never` is at least every number
abbrev pub IsAtLeast : Bound → ℕ → Type 0
IsAtLeast (Steps m) n = n ≤ m
IsAtLeast Never n = Unit {0}

-- a bound is above n; `Never` is above every number
abbrev pub IsAbove : Bound → ℕ → Type 0
IsAbove (Steps m) n = n < m
IsAbove Never n = Unit {0}

-- a bound is at least a level; a level of none is above every number, so that only `Never` is
abbrev pub IsAtLeastLevel : Bound → Option ℕ → Type 0
IsAtLeastLevel bound None = bound ≡ Never
IsAtLeastLevel bound (Some level) = IsAtLeast bound level

-- a bound is at most the least number of steps from s to a done state: no path to one is shorter,
-- and for `Never` there is none
abbrev pub IsAtMostSteps : {S : Type 0} → Successors S → (S → Bool) → S → Bound → Type 0
IsAtMostSteps next is_done s (Steps m) = (n : ℕ) → IsDoneWithin next is_done s n → m ≤ n
IsAtMostSteps next is_done s Never = (n : ℕ) → IsDoneWithin next is_done s n → ⊥

-- a bound for s lies between its level and the least number of steps to a done state
pub record IsAdmissible {S : Type 0} (next : Successors S) (is_done : S → Bool) (level : Option ℕ) (s : S) (bound : Bound) : Type 0 where
  pub above_level : IsAtLeastLevel bound level
  pub below_steps : IsAtMostSteps next is_done s bound

-- a state counts for r steps from the start where its distance from there plus its level is at most
-- r: some path leads to it whose length, plus the level, is
pub record Counts {S : Type 0} (next : Successors S) (level : S → Option ℕ) (start : S) (r : ℕ) (s : S) : Type 0 where
  pub path : List ActionId
  pub leads : IsPath next start path s
  pub height : ℕ
  pub level_is : level s ≡ Some height
  pub near : length path + height ≤ r
