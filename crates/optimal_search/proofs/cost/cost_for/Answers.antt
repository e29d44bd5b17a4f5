-- What is found in the space of the task is found of the task.
use Rattle.std.proofs.Common.{rules, ◌<◌, ◌∙◌, length, subst}
use Rattle.std.specs.Prelude.{All, IfOk}
use Rattle.grd_base.specs.declared.ids.GoalId.{GoalId}
use Rattle.grd_base.specs.Counts.{MoreThan}
use Rattle.strips_model.specs.Values.{PlainTask}
use Rattle.strips_model.specs.Reached.{IsNear}
use Rattle.optimal_search.specs.Costs.{IsRightCost}
use Rattle.optimal_search.proofs.cost.cost_for.Goals as goal

pub cost_in-requires : goal.cost_in-requires
cost_in-requires g c = (search rules, (c.requires.width, (c.requires.states, c.in_ok-space.ensures.removed ∙ c.requires.removed)))

pub returns-clause-right : goal.returns-clause-right
returns-clause-right g c =
    let Right : PlainTask → GoalId → Type 0 = λ t h. IfOk c.cost_in.result (IsRightCost t h c.args.states) in
    subst (λ t. Right t c.args.goal) c.in_ok-space.ensures.task (subst (λ h. Right c.in_ok-space.space.task h) c.in_ok-space.ensures.goal c.cost_in.ensures.right)

pub returns-clause-in_range : goal.returns-clause-in_range
returns-clause-in_range g c =
    let InRange : PlainTask → Type 0 = λ t. IfOk c.cost_in.result (λ found. All (λ a. a.0 < length t.actions) found.plan) in
    subst InRange c.in_ok-space.ensures.task c.cost_in.ensures.in_range

pub returns-clause-many : goal.returns-clause-many
returns-clause-many g c = λ e.
    let Many : PlainTask → GoalId → Type 0 = λ t h. MoreThan c.args.states (IsNear t h) in
    subst (λ t. Many t c.args.goal) c.in_ok-space.ensures.task (subst (λ h. Many c.in_ok-space.space.task h) c.in_ok-space.ensures.goal (c.cost_in.ensures.many e))
