-- What the best-first search finds of a task. Only private contracts speak of it.
use Rattle.std.specs.Prelude.{◌≡◌, ℕ, List}
use Rattle.grd_base.specs.declared.bits.Bits.{Bits}
use Rattle.grd_base.specs.declared.ids.ActionId.{ActionId}
use Rattle.grd_base.specs.declared.ids.GoalId.{GoalId}
use Rattle.grd_base.specs.Bits.{members, IsWhole}
use Rattle.strips_model.specs.Values.{PlainTask}
use Rattle.strips_model.specs.Plans.{start_of}
use Rattle.search_core.specs.declared.rows.LeastAnswer.{LeastAnswer}
use Rattle.search_core.specs.Tables.{AreRefuted, AreCounted}
use Rattle.search_core.specs.LeastAnswers.{CountsForLeast, IsLeastAnswer, HasLeastRow, least_rows}
use Rattle.optimal_search.specs.Space.{successors_of, holds_in, level_in}
use Rattle.optimal_search.specs.Floors.{ShowsBound}

-- how far the goal is from the start of the task, by the space of the two
pub record IsLeastPlan {W : ℕ} (t : PlainTask) (g : GoalId) (removed : List ActionId) (limit : ℕ) (found : LeastAnswer (Bits W) (List (List ActionId))) : Type 0 where
  pub first : Bits W
  pub whole : IsWhole first
  pub begins : members first ≡ start_of t
  pub right : IsLeastAnswer (successors_of t removed) (holds_in t g) first limit found
  pub refuted : AreRefuted (successors_of t removed) (holds_in t g) (ShowsBound t g removed) (least_rows found)
  pub start : HasLeastRow first found
  pub counted : AreCounted (successors_of t removed) (CountsForLeast (successors_of t removed) (holds_in t g) (level_in t g removed) first) first limit (least_rows found)
