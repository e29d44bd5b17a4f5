-- Which goals an optimal plan still leads to, from a state that is visited.
use Rattle.std.specs.Prelude.{◌≡◌, ℕ, ◌+◌, ◌<◌, ◌≤◌, ◌↔◌, IsTrue, List, [], length, Option, Some, None, slice_get}
use Rattle.grd_base.specs.declared.ids.ActionId.{ActionId}
use Rattle.grd_base.specs.declared.ids.GoalId.{GoalId}
use Rattle.grd_base.specs.declared.bits.Bits.{Bits}
use Rattle.grd_base.specs.Bits.{members}
use Rattle.grd_base.specs.Sets.{Set}
use Rattle.strips_model.specs.Values.{PlainTask}
use Rattle.strips_model.specs.Plans.{State, step, goal_holds, Reaches, IsCost}
use Rattle.plain_search.specs.Walks.{Visit}
use Rattle.plain_search.specs.Layers.{IsLayered}

-- the costs of the goals, in their order, or none where a goal has no plan
pub record AreCosts (t : PlainTask) (costs : List (Option ℕ)) : Type 0 where
  pub each_goal : length costs ≡ length t.goals
  pub right : (k : ℕ) (c : Option ℕ) → slice_get costs k ≡ Some c → IsCost t (record { 0 = k }) [] c

-- the goal costs at most so much, if it has a plan
abbrev pub CostsAtMost : PlainTask → ℕ → GoalId → Type 0
CostsAtMost t most g = (c : ℕ) → IsCost t g [] (Some c) → c ≤ most

-- the visits are layers that are as deep as each goal's plans
pub record AreDeep (t : PlainTask) (vs : List Visit) (depths : List ℕ) : Type 0 where
  pub steps : ℕ
  pub layered : IsLayered t steps vs depths
  pub within : (g : GoalId) → CostsAtMost t steps g

-- the state is visited, at that place and that depth
pub record IsAt (vs : List Visit) (depths : List ℕ) (place : ℕ) (s : State) (d : ℕ) : Type 0 where
  pub visit : Visit
  pub there : slice_get vs place ≡ Some visit
  pub state : visit.state ≡ s
  pub deep : slice_get depths place ≡ Some d

-- the state is visited at that depth
abbrev pub IsVisited : List Visit → List ℕ → State → ℕ → Type 0
IsVisited vs depths s d = (place : ℕ) × IsAt vs depths place s d

-- the action leads from the state to the one at the place, which is visited one step deeper
pub record LeadsTo (t : PlainTask) (vs : List Visit) (depths : List ℕ) (s : State) (d : ℕ) (a : ActionId) (place : ℕ) : Type 0 where
  pub state : State
  pub step : step t s a ≡ Some state
  pub deeper : IsAt vs depths place state (d + 1)

-- the goal costs so many steps, and holds in the state
abbrev pub EndsAt : PlainTask → State → ℕ → GoalId → Type 0
EndsAt t s d g = IsCost t g [] (Some d) × IsTrue (goal_holds t g s)

-- a goal is live in a state that is reached by some number of steps: a sequence leads from there to
-- the goal, in as many steps as its cost leaves
pub record IsLive (t : PlainTask) (s : State) (d : ℕ) (g : GoalId) : Type 0 where
  pub cost : ℕ
  pub least : IsCost t g [] (Some cost)
  pub rest : List ActionId
  pub reaches : Reaches t g [] s rest
  pub adds_up : d + length rest ≡ cost

-- the set has the live goals, and no other goal
abbrev pub AreLive : PlainTask → State → ℕ → Set → Type 0
AreLive t s d set = (g : GoalId) → IsTrue (set g.0) ↔ IsLive t s d g

-- the sets of the places from this one on have the goals that are live there
pub record IsLiveFrom (t : PlainTask) (vs : List Visit) (depths : List ℕ) (place : ℕ) (live : List (Bits 1)) : Type 0 where
  pub each_place : length live ≡ length vs
  pub tells : (k : ℕ) (s : State) (d : ℕ) (b : Bits 1) → place ≤ k → IsAt vs depths k s d → slice_get live k ≡ Some b → AreLive t s d (members b)

-- the sets of the places that are deeper have the goals that are live there
pub record IsLiveDeeper (t : PlainTask) (vs : List Visit) (depths : List ℕ) (depth : ℕ) (live : List (Bits 1)) : Type 0 where
  pub each_place : length live ≡ length vs
  pub tells : (k : ℕ) (s : State) (d : ℕ) (b : Bits 1) → depth < d → IsAt vs depths k s d → slice_get live k ≡ Some b → AreLive t s d (members b)

-- the set has live goals only: all that end in the state, and all that are live after a step by one
-- of the first `part` actions
pub record Gathers (t : PlainTask) (vs : List Visit) (depths : List ℕ) (s : State) (d part : ℕ) (set : Set) : Type 0 where
  pub sound : (g : GoalId) → IsTrue (set g.0) → IsLive t s d g
  pub ends : (g : GoalId) → EndsAt t s d g → IsTrue (set g.0)
  pub steps : (g : GoalId) (a : ActionId) (place : ℕ) (to : LeadsTo t vs depths s d a place) → a.0 < part → IsLive t to.state (d + 1) g → IsTrue (set g.0)

-- none of the first `part` actions leads to a state where the goal is live
abbrev pub MissesBy : PlainTask → List Visit → List ℕ → State → ℕ → GoalId → ℕ → Type 0
MissesBy t vs depths s d g part = (a : ActionId) (place : ℕ) (to : LeadsTo t vs depths s d a place) → a.0 < part → IsLive t to.state (d + 1) g → ⊥

-- the action leads from the state at the first place to the one at the second, where the goal is live
pub record IsNext (t : PlainTask) (vs : List Visit) (depths : List ℕ) (g : GoalId) (place : ℕ) (a : ActionId) (next : ℕ) : Type 0 where
  pub state : State
  pub depth : ℕ
  pub here : IsAt vs depths place state depth
  pub to : LeadsTo t vs depths state depth a next
  pub live : IsLive t to.state (depth + 1) g

-- no two goals are live in the state
abbrev pub HasFewLive : PlainTask → State → ℕ → Type 0
HasFewLive t s d = (g h : GoalId) → g.0 < h.0 → IsLive t s d g → IsLive t s d h → ⊥

-- at no place from this one on are two goals live
abbrev pub AreFewFrom : PlainTask → List Visit → List ℕ → ℕ → Type 0
AreFewFrom t vs depths place = (k : ℕ) (s : State) (d : ℕ) → place ≤ k → IsAt vs depths k s d → HasFewLive t s d

-- the two goals, the first below the second, are live at the place; their numbers fit a set of one word
pub record ShareAt (t : PlainTask) (vs : List Visit) (depths : List ℕ) (place : ℕ) (g h : GoalId) : Type 0 where
  pub state : State
  pub depth : ℕ
  pub here : IsAt vs depths place state depth
  pub rise : g.0 < h.0
  pub low : h.0 < 64
  pub first : IsLive t state depth g
  pub second : IsLive t state depth h

-- the goal that costs most among the first n, with its cost, or none where none of them has a plan
abbrev pub IsDearest : List (Option ℕ) → ℕ → Option (GoalId × ℕ) → Type 0
IsDearest costs n None = (k c : ℕ) → k < n → slice_get costs k ≡ Some (Some c) → ⊥
IsDearest costs n (Some most) = (slice_get costs most.0.0 ≡ Some (Some most.1)) × ((k c : ℕ) → k < n → slice_get costs k ≡ Some (Some c) → c ≤ most.1)
