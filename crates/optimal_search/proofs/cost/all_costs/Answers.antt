-- The table is that of the task, so what is found of a goal of its task is found of one of the task.
use Rattle.std.proofs.Common.{◌<◌, length, ap, subst, arith}
use Rattle.std.specs.Prelude.{All}
use Rattle.std.proofs.lemmas.List.{length_push}
use Rattle.std.proofs.lemmas.List.Elements.{All-push}
use Rattle.grd_base.specs.Counts.{MoreThan}
use Rattle.strips_model.specs.Values.{PlainTask}
use Rattle.strips_model.specs.Reached.{IsNear}
use Rattle.cost_certificate.specs.Found.{PlainCost}
use Rattle.optimal_search.specs.Costs.{IsRightCost}
use Rattle.optimal_search.proofs.AskLaws.{passed_on}
use Rattle.optimal_search.proofs.CostLaws.{right_push}
use Rattle.optimal_search.proofs.cost.all_costs.Goals as goal

pub returns-in_err-cost_of-clause-many : goal.returns-in_err-cost_of-clause-many
returns-in_err-cost_of-clause-many g c = λ other e.
    let error = c.from_residual-in_err-cost_of in
    let Many : PlainTask → Type 0 = λ t. (other.0 < length t.goals) × MoreThan c.args.states (IsNear t other) in
    subst Many c.in_ok-table.ensures (c.in_err-cost_of.ensures.many other (passed_on error.result _ _ error.ensures.1 e))

pub loop-i-preserved : goal.loop-i-preserved
loop-i-preserved g c =
    let is = c.loop-i.invariant in
    let one = c.in_ok-cost_of.field-0 in
    let more = c.in_ok-push.ensures.items in
    let Right : PlainTask → Type 0 = λ t. IsRightCost t (record { 0 = c.loop-i.i }) c.args.states one in
    let InRange : PlainTask → Type 0 = λ t. All (λ a. a.0 < length t.actions) one.plan in
    record {
      each_goal = omega (arith, is.each_goal, ap length more, length_push c.loop-i.found.items one);
      right = right_push c.args.task.now c.args.states c.loop-i.found.items c.push.new.self.items one c.loop-i.i more is.each_goal (subst Right c.in_ok-table.ensures c.in_ok-cost_of.ensures.right) is.right;
      in_range = rw more (All-push (λ (x : PlainCost). All (λ a. a.0 < length c.args.task.now.actions) x.plan) c.loop-i.found.items one is.in_range
          (subst InRange c.in_ok-table.ensures c.in_ok-cost_of.ensures.in_range));
    }
