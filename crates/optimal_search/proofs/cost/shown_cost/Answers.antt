-- The path is a plan of least length, and the table refutes less.
use Rattle.std.proofs.Common.{◌≡◌, [], length, rules, arith}
use mathlib.Core.Path.{subst}
use Rattle.strips_model.specs.Values.{IsTask}
use Rattle.optimal_search.specs.Plans.{IsLeastPlan}
use Rattle.optimal_search.proofs.CostLaws.{right_slice, cost_same, none_same, rows_found, plan_found, path_found, never_found}
use Rattle.optimal_search.proofs.cost.shown_cost.Goals as goal

pub table_below-requires : goal.table_below-requires
table_below-requires g c =
    let t = c.args.space.now.task in
    let goal = c.args.space.now.goal in
    let task : IsTask t = subst IsTask c.task.ensures.same c.known_task.ensures in
    let found = subst (λ found. IsLeastPlan t goal [] c.args.states found) c.in-Found.is c.requires.least in
    let right = rows_found t goal task c.task.ensures.atoms c.args.states _ found in
    (search rules, (search rules, (c.requires.width, right_slice t goal c.args.space.now.removed c.in-Found.rows.items c.as_slice-in-Found.result.now c.requires.removed c.as_slice-in-Found.ensures.value right)))

pub table_of-requires : goal.table_of-requires
table_of-requires g c =
    let t = c.args.space.now.task in
    let goal = c.args.space.now.goal in
    let task : IsTask t = subst IsTask c.task.ensures.same c.known_task.ensures in
    let found = subst (λ found. IsLeastPlan t goal [] c.args.states found) c.in-Never.is c.requires.least in
    let right = rows_found t goal task c.task.ensures.atoms c.args.states _ found in
    (search rules, (search rules, (c.requires.width, right_slice t goal c.args.space.now.removed c.in-Never.rows.items c.as_slice-in-Never.result.now c.requires.removed c.as_slice-in-Never.ensures.value right)))

pub returns-in_ok-table-in-Found-clause-right : goal.returns-in_ok-table-in-Found-clause-right
returns-in_ok-table-in-Found-clause-right g c =
    let t = c.args.space.now.task in
    let goal = c.args.space.now.goal in
    let plan = c.in-Found.plan.items in
    let rows = c.in-Found.rows.items in
    let task : IsTask t = subst IsTask c.task.ensures.same c.known_task.ensures in
    let found = subst (λ found. IsLeastPlan t goal [] c.args.states found) c.in-Found.is c.requires.least in
    let right = path_found t goal task c.task.ensures.atoms c.args.states c.in-Found.plan c.in-Found.rows found in
    let long : length plan ≡ c.len.result = omega (arith, c.len.ensures, c.in-Found.plan.ok) in
    let made = c.in_ok-table-in-Found.ensures in
    cost_same t goal c.args.states plan c.as_slice.result.now rows c.as_slice-in-Found.result.now c.args.space.now.removed c.in_ok-table-in-Found.table c.len.result long c.as_slice.ensures.value c.as_slice-in-Found.ensures.value c.requires.removed made right

pub returns-in_ok-table-in-Found-clause-in_range : goal.returns-in_ok-table-in-Found-clause-in_range
returns-in_ok-table-in-Found-clause-in_range g c =
    let t = c.args.space.now.task in
    let goal = c.args.space.now.goal in
    let task : IsTask t = subst IsTask c.task.ensures.same c.known_task.ensures in
    let found = subst (λ found. IsLeastPlan t goal [] c.args.states found) c.in-Found.is c.requires.least in
    plan_found t goal task c.task.ensures.atoms c.args.states c.in-Found.plan c.in-Found.rows found

pub returns-in_ok-table-in-Never-clause-right : goal.returns-in_ok-table-in-Never-clause-right
returns-in_ok-table-in-Never-clause-right g c =
    let t = c.args.space.now.task in
    let goal = c.args.space.now.goal in
    let task : IsTask t = subst IsTask c.task.ensures.same c.known_task.ensures in
    let found = subst (λ found. IsLeastPlan t goal [] c.args.states found) c.in-Never.is c.requires.least in
    let right = never_found t goal task c.task.ensures.atoms c.args.states c.in-Never.rows found in
    none_same t goal c.args.states c.in-Never.rows.items c.as_slice-in-Never.result.now c.args.space.now.removed c.in_ok-table-in-Never.table c.new.result.items c.new.ensures.items c.as_slice-in-Never.ensures.value
    c.requires.removed c.in_ok-table-in-Never.ensures right
