use Rattle.std.proofs.Common.{[], subst}
use Rattle.strips_model.specs.Values.{IsTask}
use Rattle.optimal_search.specs.Plans.{IsLeastPlan}
use Rattle.optimal_search.proofs.CostLaws.{plan_found, plan_right, no_plan_right}
use Rattle.optimal_search.proofs.least_plans.plan_in.Goals as goal

pub returns-in-Found-clause-right : goal.returns-in-Found-clause-right
returns-in-Found-clause-right g c =
    let t = c.args.space.now.task in
    let goal = c.args.space.now.goal in
    let task : IsTask t = subst IsTask c.task.ensures.same c.known_task.ensures in
    let least = subst (λ removed. IsLeastPlan t goal removed c.args.states c.in_ok-plan.field-0) c.requires c.in_ok-plan.ensures.least in
    let found = subst (λ found. IsLeastPlan t goal [] c.args.states found) c.in-Found.is least in
    plan_right t goal task c.task.ensures.atoms c.args.states c.in-Found.plan c.in-Found.field-1 found

pub returns-in-Found-clause-in_range : goal.returns-in-Found-clause-in_range
returns-in-Found-clause-in_range g c =
    let t = c.args.space.now.task in
    let goal = c.args.space.now.goal in
    let task : IsTask t = subst IsTask c.task.ensures.same c.known_task.ensures in
    let least = subst (λ removed. IsLeastPlan t goal removed c.args.states c.in_ok-plan.field-0) c.requires c.in_ok-plan.ensures.least in
    let found = subst (λ found. IsLeastPlan t goal [] c.args.states found) c.in-Found.is least in
    plan_found t goal task c.task.ensures.atoms c.args.states c.in-Found.plan c.in-Found.field-1 found

pub returns-clause-right : goal.returns-clause-right
returns-clause-right g c =
    let t = c.args.space.now.task in
    let goal = c.args.space.now.goal in
    let task : IsTask t = subst IsTask c.task.ensures.same c.known_task.ensures in
    let least = subst (λ removed. IsLeastPlan t goal removed c.args.states c.in_ok-plan.field-0) c.requires c.in_ok-plan.ensures.least in
    let found = subst (λ found. IsLeastPlan t goal [] c.args.states found) c.in-Never.is least in
    no_plan_right t goal task c.task.ensures.atoms c.args.states c.in-Never.field-0 found
