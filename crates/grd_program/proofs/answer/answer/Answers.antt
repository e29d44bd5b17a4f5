use Rattle.std.proofs.Common.{map, string_bytes}
use Rattle.grd_program.specs.Runs.{IsTextOf, IsAnswerText}
use Rattle.grd_program.proofs.FileLemmas.{ok_more}
use Rattle.grd_program.proofs.answer.answer.Goals as goal

pub returns-clause-text : goal.returns-clause-text
returns-clause-text g c =
    let job = c.in_ok-job.job in
    let told = g.F.Shelf.told c.args.shelf.now in
    ok_more (λ text. IsTextOf job.command told job text.items) (λ text. IsAnswerText told (map string_bytes c.args.words.now) text.items) c.text_of_job.result
    (λ text prints. record { job = job; reads = c.in_ok-job.ensures.reads.reads; prints = prints }) c.text_of_job.ensures.text
