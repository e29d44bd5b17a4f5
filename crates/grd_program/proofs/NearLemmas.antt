-- Which states count against the limit of a command: those that are near for a goal are reached for it.
use Rattle.std.proofs.Common.{ℕ, ◌+◌, ◌≤◌, length, arith}
use Rattle.std.proofs.lemmas.List.Elements.{All-weaker}
use Rattle.grd_base.specs.declared.ids.GoalId.{GoalId}
use Rattle.grd_base.specs.Counts.{MoreThan}
use Rattle.strips_model.specs.Values.{PlainTask}
use Rattle.strips_model.specs.Plans.{State}
use Rattle.strips_model.specs.Reached.{IsReachedFor, IsNear}
use Rattle.grd_program.specs.declared.question.Question.{Question}
use Rattle.grd_program.specs.declared.question.Question.TheVariants.{Costs, Wcd}
use Rattle.grd_program.specs.Runs.{CountsFor}

near_reached : (t : PlainTask) (g : GoalId) (s : State) → IsNear t g s → IsReachedFor t g s
near_reached t g s near = record {
  path = near.path;
  leads = near.leads;
  within = λ c cost. let short : length near.path + near.level ≤ c = near.within c cost in omega arith;
}

-- where more states are near than the limit, more count for either question
pub near_counts : (t : PlainTask) (g : GoalId) (limit : ℕ) (question : Question) → MoreThan limit (IsNear t g) → MoreThan limit (CountsFor question t g)
near_counts t g limit Costs more = more
near_counts t g limit Wcd more = record {
  items = more.items;
  many = more.many;
  differ = more.differ;
  have = All-weaker (IsNear t g) (IsReachedFor t g) (λ s near. near_reached t g s near) more.items more.have;
}
