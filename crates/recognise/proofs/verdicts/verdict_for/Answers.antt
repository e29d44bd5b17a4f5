-- The oracle is asked about the observed task, from its start.
use Rattle.std.proofs.Common.{rules, Some, [], ap, sym, subst, ◌∙◌}
use Rattle.std.specs.Prelude.{IfOk}
use Rattle.grd_base.specs.Bits.{members}
use Rattle.grd_base.specs.Counts.{MoreThan}
use Rattle.strips_model.specs.Values.{IsTask}
use Rattle.strips_model.specs.Plans.{start_of, IsCost, IsOver}
use Rattle.strips_model.specs.Reached.{IsNearObserved}
use Rattle.cost_certificate.specs.Verdicts.{plain_verdict, IsRightVerdict}
use Rattle.optimal_search.specs.Oracles.{PlainOracle}
use Rattle.recognise.proofs.VerdictLemmas.{start_over}
use Rattle.recognise.proofs.verdicts.verdict_for.Goals as goal

pub ask-requires : goal.ask-requires
ask-requires g c =
    let is = c.in_ok-oracle.ensures in
    let Over : PlainOracle → Type 0 = λ o. IsOver o.task (members c.start-first.result) in
    let Costs : PlainOracle → Type 0 = λ o. IsCost c.args.task.now o.goal [] (Some c.args.cost) in
    let same = c.task-task_made.ensures in
    let task = ap (λ (o : PlainOracle). o.task) is in
    let made = task ∙ c.requires.made in
    let removed = ap (λ (o : PlainOracle). o.removed) is ∙ c.new-removed.ensures in
    let begins = c.start-first.ensures ∙ ap start_of same in
    let over = subst Over (sym is) (start_over c.args.made.now (members c.start-first.result) (subst IsTask same c.known_task.ensures) begins) in
    (search rules, (search rules, (made, (removed, (begins ∙ sym (ap start_of task), (over, subst Costs (sym is) c.requires.cost))))))

pub returns-clause-right : goal.returns-clause-right
returns-clause-right g c =
    let Right : PlainOracle → Type 0 = λ o. IfOk c.ask.result (λ verdict. IsRightVerdict c.args.task.now c.args.observations.now o.goal (Some c.args.cost) (plain_verdict verdict)) in
    subst Right c.in_ok-oracle.ensures c.ask.ensures.right

pub returns-clause-many : goal.returns-clause-many
returns-clause-many g c = λ e.
    let Many : PlainOracle → Type 0 = λ o. MoreThan o.limit (IsNearObserved c.args.task.now c.args.observations.now o.goal) in
    subst Many c.in_ok-oracle.ensures (c.ask.ensures.many e)
