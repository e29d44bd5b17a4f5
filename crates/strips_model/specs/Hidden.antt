-- Hidden actions: some actions of an agent are not seen (this project's own wording). Which are hidden is
-- given by one truth value for each action.
use Rattle.std.specs.Prelude.{◌≡◌, ◌≢◌, ℕ, Bool, false, not, List, [], filter, Option, get_or}
use Rattle.grd_base.specs.declared.ids.ActionId.{ActionId}
use Rattle.grd_base.specs.declared.ids.GoalId.{GoalId}
use Rattle.strips_model.specs.Agents.{Plans, BeginsOptimalAmong, IsGreatestAmong}

-- what is seen of a sequence: its actions that are not hidden
abbrev pub visible : List Bool → List ActionId → List ActionId
visible hidden p = filter (λ a. not (get_or hidden a.0 false)) p

-- the sequence is what is seen of some sequence that begins an optimal plan of the goal
pub record IsSeenAmong (plans : Plans) (hidden : List Bool) (g : GoalId) (q : List ActionId) : Type 0 where
  pub prefix : List ActionId
  pub begins : BeginsOptimalAmong plans g [] prefix
  pub seen : visible hidden prefix ≡ q

-- the same is seen of two different goals
pub record IsHiddenCommonAmong (plans : Plans) (hidden : List Bool) (i j : GoalId) (q : List ActionId) : Type 0 where
  pub different : i ≢ j
  pub first : IsSeenAmong plans hidden i q
  pub second : IsSeenAmong plans hidden j q

-- the worst-case distinctiveness where some actions are hidden: how many actions may be seen before the
-- goals of two agents differ
abbrev pub IsHiddenWcdAmong : Plans → List Bool → Option ℕ → Type 0
IsHiddenWcdAmong plans hidden = IsGreatestAmong plans [] (IsHiddenCommonAmong plans hidden)
