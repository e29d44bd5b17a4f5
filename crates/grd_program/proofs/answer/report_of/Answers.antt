use Rattle.std.proofs.Common.{[], map, sym, subst, ap, ◌∙◌}
use Rattle.std.specs.Option.{option_map}
use Rattle.strips_model.specs.Common.{AreRight}
use Rattle.report_text.specs.Reports.{action_names, cost_report}
use Rattle.grd_program.specs.Runs.{IsWcdReport, IsReportOn}
use Rattle.grd_program.proofs.FileLemmas.{ok_more}
use Rattle.grd_program.proofs.WorldAnswers.{right_in_world}
use Rattle.grd_program.proofs.answer.report_of.Goals as goal

pub returns-in-Costs-clause-report : goal.returns-in-Costs-clause-report
returns-in-Costs-clause-report c =
    let typed = c.args.world.now.typed in
    let goals = c.args.world.now.goals in
    let found = map (option_map (λ plan. plan.items)) c.in-Ok.found.items in
    let right = right_in_world typed goals c.requires.task found (subst (λ t. AreRight t [] found) c.task-task.ensures.task c.in-Ok.ensures.right) in
    let text = c.in_ok-cost_report-in-Costs.field-0.items in
    let text_is = c.in_ok-cost_report-in-Costs.ensures ∙ ap (λ items. cost_report (action_names typed) (map (option_map (λ plan. plan.items)) items)) c.deref.ensures.value in
    subst (λ question. IsReportOn question typed goals text) (sym c.in-Costs.is) (found, right, text_is)

pub returns-clause-report : goal.returns-clause-report
returns-clause-report c =
    let typed = c.args.world.now.typed in
    let goals = c.args.world.now.goals in
    let found = map (option_map (λ plan. plan.items)) c.in-Ok.found.items in
    let seen = map (option_map (λ plan. plan.items)) c.deref-in-Wcd.result.now in
    let right = right_in_world typed goals c.requires.task found (subst (λ t. AreRight t [] found) c.task-task.ensures.task c.in-Ok.ensures.right) in
    ok_more (λ text. IsWcdReport typed goals seen text.items) (λ text. IsReportOn c.args.question typed goals text.items) c.wcd_on.result
    (λ text report. subst (λ question. IsReportOn question typed goals text.items) (sym c.in-Wcd.is)
    (found, right, subst (λ items. IsWcdReport typed goals (map (option_map (λ plan. plan.items)) items) text.items) c.deref-in-Wcd.ensures.value report))
    c.wcd_on.ensures.report
