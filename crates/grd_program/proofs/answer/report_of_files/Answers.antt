use Rattle.std.proofs.Common.{subst}
use Rattle.grd_program.specs.Runs.{IsReportOn, IsReportText}
use Rattle.grd_program.proofs.FileLemmas.{ok_more, report_text_is}
use Rattle.grd_program.proofs.answer.report_of_files.Goals as goal

pub returns-clause-text : goal.returns-clause-text
returns-clause-text g c =
    let told = g.F.Shelf.told c.args.shelf.now in
    let question = c.args.question in
    let typed = c.in_ok-inputs.inputs.typed in
    ok_more (λ text. IsReportOn question typed c.deref.result.now text.items) (λ text. IsReportText question told c.args.job.now text.items) c.report_on.result
    (λ text report. report_text_is question told c.args.job.now typed c.in_ok-inputs.inputs.goals.items text.items c.in_ok-inputs.ensures.taken
    (subst (λ goals. IsReportOn question typed goals text.items) c.deref.ensures.value report)) c.report_on.ensures.report
