-- The table is that of the task, so what is found of a goal of its task is found of one of the task.
use Rattle.std.proofs.Common.{◌<◌, ◌∷◌, [], length, map, ap, subst, ◌∙◌, arith}
use Rattle.std.specs.Prelude.{All, IfSome}
use Rattle.std.specs.Option.{option_map}
use Rattle.std.proofs.lemmas.List.{length_push, length-map, map-append}
use Rattle.std.proofs.lemmas.List.Elements.{All-push}
use Rattle.grd_base.specs.Counts.{MoreThan}
use Rattle.strips_model.specs.Values.{PlainTask}
use Rattle.strips_model.specs.Reached.{IsNear}
use Rattle.strips_model.specs.Common.{IsRight}
use Rattle.optimal_search.proofs.AskLaws.{passed_on}
use Rattle.optimal_search.proofs.CostLaws.{plan_push}
use Rattle.optimal_search.proofs.least_plans.all_plans.Goals as goal

pub returns-in_err-plan_of-clause-many : goal.returns-in_err-plan_of-clause-many
returns-in_err-plan_of-clause-many g c = λ other e.
    let error = c.from_residual-in_err-plan_of in
    let Many : PlainTask → Type 0 = λ t. (other.0 < length t.goals) × MoreThan c.args.states (IsNear t other) in
    subst Many c.in_ok-table.ensures (c.in_err-plan_of.ensures.many other (passed_on error.result _ _ error.ensures.1 e))

pub loop-i-preserved : goal.loop-i-preserved
loop-i-preserved g c =
    let is = c.loop-i.invariant in
    let one = c.in_ok-plan_of.field-0 in
    let more = c.in_ok-push.ensures.items in
    let old = map (option_map (λ p. p.items)) c.loop-i.plans.items in
    let Right : PlainTask → Type 0 = λ t. IsRight t (record { 0 = c.loop-i.i }) [] (option_map (λ p. p.items) one) in
    let InRange : PlainTask → Type 0 = λ t. IfSome one (λ p. All (λ a. a.0 < length t.actions) p.items) in
    record {
      each_goal = omega (arith, is.each_goal, ap length more, length_push c.loop-i.plans.items one);
      right = plan_push c.args.task.now old (map (option_map (λ p. p.items)) c.push.new.self.items) (option_map (λ p. p.items) one) c.loop-i.i
          (ap (map (option_map (λ p. p.items))) more ∙ map-append (option_map (λ p. p.items)) c.loop-i.plans.items (one ∷ []))
          (length-map c.loop-i.plans.items (option_map (λ p. p.items)) ∙ is.each_goal)
          (subst Right c.in_ok-table.ensures c.in_ok-plan_of.ensures.right) is.right;
      in_range = rw more (All-push (λ x. IfSome x (λ p. All (λ a. a.0 < length c.args.task.now.actions) p.items)) c.loop-i.plans.items one is.in_range
          (subst InRange c.in_ok-table.ensures c.in_ok-plan_of.ensures.in_range));
    }
