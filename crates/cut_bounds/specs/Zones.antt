-- How lists are made one after another: from zones of atoms before the goal, with the actions of the lists so
-- far flagged.
use Rattle.std.specs.Prelude.{◌≡◌, ℕ, ◌<◌, ◌≤◌, Bool, true, false, not, ◌||◌, IsTrue, List, [], ◌∷◌, ◌++◌, length, slice_get, All, Contains, Some, ◌⊎◌}
use Rattle.std.specs.Option.{option_map_or, unwrap_or}
use Rattle.std.specs.List.{list_all}
use Rattle.grd_base.specs.declared.ids.ActionId.{ActionId}
use Rattle.grd_base.specs.declared.ids.GoalId.{GoalId}
use Rattle.grd_base.specs.declared.limits.Bound.TheVariants.{Steps}
use Rattle.grd_base.specs.Rising.{has_id}
use Rattle.strips_model.specs.Values.{PlainTask}
use Rattle.strips_model.specs.Plans.{State, set_of, has_all}
use Rattle.strips_model.specs.Index.{listed}
use Rattle.strips_model.specs.Cuts.{cut}
use Rattle.strips_model.specs.Levels.{IsLevel}
use Rattle.cut_bounds.specs.CutMarks.{IsCutMark, goal_atoms, lacking, AddsOneAtMost}

-- the atoms outside the zone
abbrev pub outside : State → State
outside zone n = not (zone n)

-- whether all that the action with this number needs is outside the zone
abbrev pub comes_from_outside : PlainTask → State → ActionId → Bool
comes_from_outside t zone a = option_map_or (λ act. has_all (outside zone) act.pre) (slice_get t.actions a.0) false

-- the action is listed with an atom of the zone and needs none of it
abbrev pub IsEnteringBy : PlainTask → List (List ActionId) → State → State → ActionId → Type 0
IsEnteringBy t adders zone atoms a = (n : ℕ) × IsTrue (atoms n) × Contains (listed adders n) a × IsTrue (comes_from_outside t zone a)

-- the zone has an atom of the goal and none of the state
pub record IsZoneFor (t : PlainTask) (g : GoalId) (s zone : State) : Type 0 where
  pub apart : (n : ℕ) → IsTrue (s n) → IsTrue (zone n) → ⊥
  pub goal_atom : ℕ
  pub of_goal : IsTrue (set_of (goal_atoms t g) goal_atom)
  pub in_zone : IsTrue (zone goal_atom)

-- whether the action is flagged
abbrev pub is_flagged : List Bool → ActionId → Bool
is_flagged used a = unwrap_or (slice_get used a.0) false

-- no action of the list is flagged
abbrev pub are_fresh : List Bool → List ActionId → Bool
are_fresh used list = list_all (λ a. not (is_flagged used a)) list

-- the lists so far are a mark, and their actions are flagged
pub record AreLists (t : PlainTask) (g : GoalId) (removed : List ActionId) (s : State) (lists : List (List ActionId)) (used : List Bool) : Type 0 where
  pub mark : IsCutMark t g removed s lists (Steps (length lists))
  pub flagged : All (λ list. (a : ActionId) → IsTrue (has_id list a) → is_flagged used a ≡ true) lists
  pub sized : length used ≡ length t.actions

-- the flags with those of the list
pub record AreFlags (used : List Bool) (list : List ActionId) (more : List Bool) : Type 0 where
  pub sized : length more ≡ length used
  pub each : (a : ActionId) → is_flagged more a ≡ (is_flagged used a || has_id list a)

-- a list was put behind the others, or it is empty or shares an action with them
abbrev pub IsPut : List (List ActionId) → List Bool → List ActionId → List (List ActionId) → List Bool → Bool → Type 0
IsPut lists used list more flags true = (0 < length list) × IsTrue (are_fresh used list) × (more ≡ lists ++ list ∷ []) × AreFlags used list flags
IsPut lists used list more flags false = (more ≡ lists) × (flags ≡ used) × ((list ≡ []) ⊎ (are_fresh used list ≡ false))

-- the list of the cut of all that is outside the zone was put, or could not be
abbrev pub IsTried : PlainTask → List ActionId → State → List (List ActionId) → List Bool → List (List ActionId) → List Bool → Bool → Type 0
IsTried t removed zone lists used more flags put =
    (list : List ActionId) × ((a : ActionId) → has_id list a ≡ cut t removed (outside zone) a) × IsPut lists used list more flags put

-- a mark has at least as many lists as the goal has atoms that the state lacks, where no action adds two of
-- them and the goal has a level
abbrev pub IsCovering : PlainTask → GoalId → List ActionId → State → ℕ → Type 0
IsCovering t g removed s count =
    AddsOneAtMost t removed (lacking t g s) → (n : ℕ) → IsLevel t g removed s (Some n) → length (lacking t g s) ≤ count

-- no lists yet: no action is flagged
pub record AreNoLists (t : PlainTask) (lists : List (List ActionId)) (used : List Bool) : Type 0 where
  pub none : lists ≡ []
  pub sized : length used ≡ length t.actions
  pub unflagged : (a : ActionId) → is_flagged used a ≡ false
