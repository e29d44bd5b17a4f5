-- Levels: after how many rounds a goal holds when all actions act at once and nothing is deleted. No
-- sequence to the goal is shorter (after the max heuristic of Bonet and Geffner 2001).
use Rattle.std.specs.Prelude.{◌≡◌, ℕ, zero, suc, ◌+◌, ◌<◌, Bool, false, not, ◌||◌, ◌&&◌, if◌then◌else◌, IsTrue, List, Option, Some, None}
use Rattle.std.specs.Option.{option_map}
use Rattle.std.specs.List.{list_any, enumerate_from}
use Rattle.grd_base.specs.declared.ids.ActionId.{ActionId}
use Rattle.grd_base.specs.declared.ids.GoalId.{GoalId}
use Rattle.grd_base.specs.Rising.{has_id}
use Rattle.strips_model.specs.Values.{GroundAction, PlainTask}
use Rattle.strips_model.specs.Plans.{State, set_of, can_apply, goal_holds}

-- whether the action with this number adds the atom in a round from the set: it is not removed, it
-- applies in the set, and it adds the atom
abbrev pub joins : List ActionId → State → ℕ → ℕ × GroundAction → Bool
joins removed u n x = not (has_id removed (record { 0 = x.0 })) && (can_apply x.1 u && set_of x.1.add n)

-- the set after one round: what the actions add that are not removed and apply in it is joined on
unfoldable pub grown : PlainTask → List ActionId → State → State
grown t removed u n = u n || list_any (joins removed u n) (enumerate_from 0 t.actions)

-- the set after k rounds from the state
unfoldable pub after_rounds : PlainTask → List ActionId → State → ℕ → State
after_rounds t removed s zero = s
after_rounds t removed s (suc k) = grown t removed (after_rounds t removed s k)

-- the level of the goal at the state: the first number of rounds after which it holds; or none, where
-- it holds after no number of rounds
abbrev pub IsLevel : PlainTask → GoalId → List ActionId → State → Option ℕ → Type 0
IsLevel t g removed s (Some n) =
    IsTrue (goal_holds t g (after_rounds t removed s n))
    × ((k : ℕ) → k < n → goal_holds t g (after_rounds t removed s k) ≡ false)
IsLevel t g removed s None = (k : ℕ) → goal_holds t g (after_rounds t removed s k) ≡ false

-- the first number of at most n rounds after which the goal holds, or none
unfoldable pub level_within : PlainTask → GoalId → List ActionId → State → ℕ → Option ℕ
level_within t g removed s zero = if goal_holds t g s then Some 0 else None
level_within t g removed s (suc n) = if goal_holds t g s then Some 0 else option_map (λ k. suc k) (level_within t g removed (grown t removed s) n)

-- the level of the goal at the state, computed: of a task's rounds, each reaches an atom until one reaches
-- none, so no more of them tell anything than there are atoms
abbrev pub level_at : PlainTask → GoalId → List ActionId → State → Option ℕ
level_at t g removed s = level_within t g removed s t.atoms

-- how many numbers below n are not in the set
abbrev pub missing : State → ℕ → ℕ
missing u zero = 0
missing u (suc n) = (if u n then 0 else 1) + missing u n
