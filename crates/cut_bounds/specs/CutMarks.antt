-- Lists of actions that show a bound: each has to be used on every way to the goal, and no two share an
-- action (after the landmark-cut heuristic of Helmert and Domshlak 2009).
use Rattle.std.specs.Prelude.{◌≡◌, ℕ, ◌<◌, ◌≤◌, ◌==◌, Option, None, not, Bool, true, false, IsTrue, List, [], ◌∷◌, ◌++◌, length, map, filter, All, AllPairs, Some, slice_get}
use Rattle.std.specs.Option.{option_map_or}
use Rattle.grd_base.specs.declared.ids.AtomId.{AtomId}
use Rattle.grd_base.specs.declared.ids.ActionId.{ActionId}
use Rattle.grd_base.specs.declared.ids.GoalId.{GoalId}
use Rattle.grd_base.specs.declared.limits.Bound.{Bound}
use Rattle.grd_base.specs.declared.limits.Bound.TheVariants.{Steps, Never}
use Rattle.grd_base.specs.Rising.{has_id}
use Rattle.strips_model.specs.Values.{GroundAction, PlainTask}
use Rattle.grd_base.specs.Sets.{IsSubset}
use Rattle.strips_model.specs.Plans.{State, set_of, has_all, goal_holds}
use Rattle.strips_model.specs.StateLists.{atoms_in}
use Rattle.strips_model.specs.Levels.{after_rounds}
use Rattle.strips_model.specs.Cuts.{leads_out, cut, IsEmptyCut}
use Rattle.strips_model.specs.Moves.{allowed_of}

-- the atoms that are reached from the state, where nothing is deleted, by actions that are neither
-- removed nor in the list: those after as many rounds as the task has atoms, since no later round
-- reaches more
abbrev pub reached_around : PlainTask → List ActionId → List ActionId → State → State
reached_around t removed list s = after_rounds t (list ++ removed) s t.atoms

-- no action is in both lists
abbrev pub ShareNone : List ActionId → List ActionId → Type 0
ShareNone xs ys = (a : ActionId) → IsTrue (has_id xs a) → IsTrue (has_id ys a) → ⊥

-- as many lists as the number, none of them empty; at `Never` one, which is empty
abbrev pub AreAsMany : List (List ActionId) → Bound → Type 0
AreAsMany lists (Steps n) = (length lists ≡ n) × All (λ list. 0 < length list) lists
AreAsMany lists Never = lists ≡ [] ∷ []

-- the lists show the bound for the state: they are pairwise disjoint, without the actions of any one
-- of them the goal is not reached, and there are as many as the bound says
pub record IsCutMark (t : PlainTask) (g : GoalId) (removed : List ActionId) (s : State) (lists : List (List ActionId)) (bound : Bound) : Type 0 where
  pub apart : AllPairs ShareNone lists
  pub needed : All (λ list. goal_holds t g (reached_around t removed list s) ≡ false) lists
  pub many : AreAsMany lists bound

-- for each list the atoms that are reached around it
abbrev pub sets_around : PlainTask → List ActionId → State → List (List ActionId) → List (List AtomId)
sets_around t removed s lists = map (λ list. atoms_in t (reached_around t removed list s)) lists

-- the atoms of the goal
abbrev pub goal_atoms : PlainTask → GoalId → List AtomId
goal_atoms t g = option_map_or (λ goal. goal.atoms) (slice_get t.goals g.0) []

-- the atoms of the goal that the state lacks
abbrev pub lacking : PlainTask → GoalId → State → List AtomId
lacking t g s = filter (λ a. not (s a.0)) (goal_atoms t g)

-- no action that is neither blocked nor removed adds two of the atoms
abbrev pub AddsOneAtMost : PlainTask → List ActionId → List AtomId → Type 0
AddsOneAtMost t removed xs = (a : ActionId) (act : GroundAction) (n m : ℕ) → slice_get t.actions a.0 ≡ Some act → has_id removed a ≡ false → act.blocked ≡ false
    → IsTrue (set_of xs n) → IsTrue (set_of xs m) → IsTrue (set_of act.add n) → IsTrue (set_of act.add m) → n ≡ m

-- all atoms but one
abbrev pub all_but : AtomId → State
all_but a n = not (n == a.0)

-- the cut of a set as a list: the actions that are neither blocked nor removed and lead out of it, rising
abbrev pub listed_cut : PlainTask → List ActionId → State → List ActionId
listed_cut t removed u = filter (λ a. cut t removed u a) (allowed_of t removed)

-- whether the action with this number leads out of the set
abbrev pub leads : PlainTask → State → ActionId → Bool
leads t u a = option_map_or (leads_out u) (slice_get t.actions a.0) false

-- an action of the task that applies in the set and adds an atom of the zone
pub record IsEntering (t : PlainTask) (u zone : State) (a : ActionId) : Type 0 where
  pub action : GroundAction
  pub at : slice_get t.actions a.0 ≡ Some action
  pub applies : has_all u action.pre ≡ true
  pub atom : ℕ
  pub adds : IsTrue (set_of action.add atom)
  pub inside : IsTrue (zone atom)

-- each action of the list that adds an atom of the zone needs one of it
abbrev pub IsClosedUnder : PlainTask → State → List ActionId → Type 0
IsClosedUnder t zone used = (a : ActionId) (act : GroundAction) (n : ℕ) → IsTrue (has_id used a) → slice_get t.actions a.0 ≡ Some act → IsTrue (set_of act.add n) → IsTrue (zone n)
    → (m : ℕ) × IsTrue (set_of act.pre m) × IsTrue (zone m)

-- a zone before the goal: it has an atom of the goal, none that is reached, and the actions of the lists
-- so far lead into it only from within; the new list has the actions that lead out of what is reached,
-- and each of its actions leads into the zone
pub record IsZone (t : PlainTask) (g : GoalId) (removed : List ActionId) (s : State) (lists : List (List ActionId)) (zone reached : State) (list : List ActionId) : Type 0 where
  pub goal_atom : ℕ
  pub of_goal : IsTrue (set_of (goal_atoms t g) goal_atom)
  pub in_zone : IsTrue (zone goal_atom)
  pub closed : All (IsClosedUnder t zone) lists
  pub has_state : IsSubset s reached
  pub outside : (n : ℕ) → IsTrue (reached n) → IsTrue (zone n) → ⊥
  pub has_cut : (a : ActionId) → IsTrue (cut t removed reached a) → IsTrue (has_id list a)
  pub enters : (a : ActionId) → IsTrue (has_id list a) → IsEntering t reached zone a

-- the bound is at least the level: at least the number, and `Never` where there is none
abbrev pub IsAtLeastLevel : Bound → Option ℕ → Type 0
IsAtLeastLevel bound None = bound ≡ Never
IsAtLeastLevel (Steps m) (Some n) = n ≤ m
IsAtLeastLevel Never (Some n) = Unit {0}

-- the bound is at least the number; `Never` counts as at least every number
abbrev pub IsAtLeast : Bound → ℕ → Type 0
IsAtLeast (Steps m) n = n ≤ m
IsAtLeast Never n = Unit {0}

-- the sets prove the bound: there are as many as it says, or for `Never` one, with an empty cut
abbrev pub IsEnough : PlainTask → List ActionId → List (List AtomId) → Bound → Type 0
IsEnough t removed sets (Steps n) = length sets ≡ n
IsEnough t removed sets Never = (length sets ≡ 1) × All (λ u. IsEmptyCut (cut t removed (set_of u))) sets
