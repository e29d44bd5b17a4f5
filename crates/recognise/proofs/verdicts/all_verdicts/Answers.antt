-- Each goal with a cost has the verdict of that cost; without a cost none is recognised.
use Rattle.std.proofs.Common.{◌≡◌, length, Some, None, ap, subst, sym, ◌∙◌, arith}
use Rattle.std.proofs.lemmas.List.{length_push}
use Rattle.grd_base.specs.declared.ids.GoalId.{GoalId}
use Rattle.cost_certificate.specs.declared.found.Verdict.{Verdict}
use Rattle.cost_certificate.specs.Found.{PlainCost}
use Rattle.cost_certificate.specs.Verdicts.{plain_verdict, IsRightVerdict}
use Rattle.optimal_search.proofs.AskLaws.{passed_on}
use Rattle.recognise.proofs.VerdictLemmas.{none_right, cost_at, right_push}
use Rattle.recognise.proofs.verdicts.all_verdicts.Goals as goal
use Rattle.recognise.proofs.verdicts.all_verdicts.Goals.{in-Some+in_ok-verdict-in-Some, in-None}

pub verdict_of-requires-clause-cost : goal.verdict_of-requires-clause-cost
verdict_of-requires-clause-cost g c =
    cost_at c.args.task.now c.args.observations.now c.args.costs.now c.loop-i.i c.index-costs-i.result c.loop-i-test.true c.index-costs-i.is (Some c.in-Some.cost)
    (ap (λ (x : PlainCost). x.cost) (sym c.found.view_is) ∙ c.in-Some.is) c.requires.right

pub returns-in_err-verdict-in-Some-clause-many : goal.returns-in_err-verdict-in-Some-clause-many
returns-in_err-verdict-in-Some-clause-many g c = λ other e.
    let many = c.in_err-verdict-in-Some.ensures.many other (passed_on c.from_residual-in_err-verdict-in-Some.result _ _ c.from_residual-in_err-verdict-in-Some.ensures.1 e) in
    (omega (arith, ap (λ (h : GoalId). h.0) many.0, c.loop-i-test.true, c.requires.each_goal), many.1)

pub loop-i-preserved : goal.loop-i-preserved
loop-i-preserved g c =
    let is = c.loop-i.invariant in
    let more = c.in_ok-push.ensures.items in
    let t = c.args.task.now in
    let os = c.args.observations.now in
    let costs = c.args.costs.now in
    let x = c.index-costs-i.result in
    let cost : x.cost ≡ c.found.inside.cost = ap (λ (y : PlainCost). y.cost) (sym c.found.view_is) in
    let verdict = c.match-found.verdict in
    record {
      each_goal = omega (arith, is.each_goal, ap length more ∙ length_push c.loop-i.verdicts.items _);
      right = elim c.match-found.branch [
        | in-Some+in_ok-verdict-in-Some w ↦
            right_push t os costs c.loop-i.i x c.loop-i-test.true c.index-costs-i.is (Some w.in-Some.cost) (cost ∙ w.in-Some.is) c.loop-i.verdicts.items c.push.new.self.items verdict more is.each_goal
            (subst (λ (v : Verdict). IsRightVerdict t os (record { 0 = c.loop-i.i }) (Some w.in-Some.cost) (plain_verdict v)) (sym w.verdict-is) w.in_ok-verdict-in-Some.ensures.right) is.right
        | in-None w ↦
            let none = cost_at t os costs c.loop-i.i x c.loop-i-test.true c.index-costs-i.is None (cost ∙ w.in-None.is) c.requires.right in
            right_push t os costs c.loop-i.i x c.loop-i-test.true c.index-costs-i.is None (cost ∙ w.in-None.is) c.loop-i.verdicts.items c.push.new.self.items verdict more is.each_goal
            (subst (λ (v : Verdict). IsRightVerdict t os (record { 0 = c.loop-i.i }) None (plain_verdict v)) (sym w.verdict-is) (none_right t os (record { 0 = c.loop-i.i }) w.new.result.items none w.new.ensures.items)) is.right
      ];
    }
