-- The best-first search over the space finds the cost in the task.
use Rattle.std.proofs.Common.{◌≡◌, ℕ, length, Some, None, subst, arith}
use Rattle.grd_base.specs.Counts.{MoreThan}
use Rattle.strips_model.specs.Values.{IsTask}
use Rattle.strips_model.specs.Reached.{IsNearWithout}
use Rattle.optimal_search.specs.Oracles.{PlainOracle}
use Rattle.optimal_search.specs.Plans.{IsLeastPlan}
use Rattle.optimal_search.proofs.AskLaws.{AreOfCost, passed_on, cost_found, none_found}
use Rattle.optimal_search.proofs.oracle.Oracle.find_cost.Goals as goal

pub returns-in_err-plan-clause-many : goal.returns-in_err-plan-clause-many
returns-in_err-plan-clause-many g c = λ e.
    let Many : PlainOracle → Type 0 = λ x. MoreThan x.limit (IsNearWithout x.task x.goal x.removed) in
    let error = c.from_residual in
    subst Many c.self.view_is (c.in_err-plan.ensures.many (passed_on error.result _ _ error.ensures.1 e))

-- the rows that come with a least path
by_path : (g : _) (c : goal.After-drop-plan g) → AreOfCost c.args.self.now.task c.args.self.now.goal c.args.self.now.removed (Some c.len.result) c.in-Found.rows.items
by_path g c =
    let o = c.self.inside in
    let t = o.space.task in
    let Found : PlainOracle → Type 0 = λ x. AreOfCost x.task x.goal x.removed (Some c.len.result) c.in-Found.rows.items in
    let is : IsTask t = subst IsTask c.task.ensures.same c.known_task.ensures in
    let plan = subst (λ found. IsLeastPlan t o.space.goal o.space.removed o.limit found) c.in-Found.is c.in_ok-plan.ensures.least in
    let long : length c.in-Found.plan.items ≡ c.len.result = omega (arith, c.len.ensures, c.in-Found.plan.ok.0) in
    let found = cost_found t o.space.goal o.space.removed is c.self.invariant.0.atoms o.limit c.in-Found.plan c.in-Found.rows plan in
    subst Found c.self.view_is (subst (λ (n : ℕ). AreOfCost t o.space.goal o.space.removed (Some n) c.in-Found.rows.items) long found)

pub returns-in-Found-clause-cost : goal.returns-in-Found-clause-cost
returns-in-Found-clause-cost g c = (by_path g c).cost

pub returns-in-Found-clause-start : goal.returns-in-Found-clause-start
returns-in-Found-clause-start g c = (by_path g c).start

pub returns-in-Found-clause-right : goal.returns-in-Found-clause-right
returns-in-Found-clause-right g c = (by_path g c).right

-- the rows that come where there is no path
by_none : (g : _) (c : goal.In-Never g) → AreOfCost c.args.self.now.task c.args.self.now.goal c.args.self.now.removed None c.in-Never.rows.items
by_none g c =
    let o = c.self.inside in
    let t = o.space.task in
    let Found : PlainOracle → Type 0 = λ x. AreOfCost x.task x.goal x.removed None c.in-Never.rows.items in
    let is : IsTask t = subst IsTask c.task.ensures.same c.known_task.ensures in
    let plan = subst (λ found. IsLeastPlan t o.space.goal o.space.removed o.limit found) c.in-Never.is c.in_ok-plan.ensures.least in
    subst Found c.self.view_is (none_found t o.space.goal o.space.removed is c.self.invariant.0.atoms o.limit c.in-Never.rows plan)

pub returns-in-Never-clause-cost : goal.returns-in-Never-clause-cost
returns-in-Never-clause-cost g c = (by_none g c).cost

pub returns-in-Never-clause-start : goal.returns-in-Never-clause-start
returns-in-Never-clause-start g c = (by_none g c).start

pub returns-in-Never-clause-right : goal.returns-in-Never-clause-right
returns-in-Never-clause-right g c = (by_none g c).right
