-- What the best-first search over the space of the task finds.
use Rattle.std.proofs.Common.{ap, subst, ◌∙◌}
use Rattle.strips_model.specs.Values.{IsTask}
use Rattle.strips_model.specs.Plans.{start_of}
use Rattle.optimal_search.proofs.AskLaws.{start_state, too_many, least_from}
use Rattle.optimal_search.proofs.cost.least_plan.Goals as goal

pub returns-clause-least : goal.returns-clause-least
returns-clause-least g c =
    let space = c.args.space.now in
    least_from space.task space.goal space.removed c.args.states c.start-first.result c.whole.ensures (c.start-first.ensures ∙ ap start_of c.task-task.ensures.same) c.least.result
    c.least.ensures.right c.least.ensures.refuted c.least.ensures.start c.least.ensures.counted

pub returns-clause-many : goal.returns-clause-many
returns-clause-many g c = λ e.
    let space = c.args.space.now in
    let task : IsTask space.task = subst IsTask c.task-task.ensures.same c.known_task.ensures in
    let begins = c.start-first.ensures ∙ ap start_of c.task-task.ensures.same in
    too_many space.task space.goal space.removed task c.task-task.ensures.atoms c.start-first.result (start_state space.task c.start-first.result task c.whole.ensures begins) begins c.args.states
    (c.least.ensures.many e)
