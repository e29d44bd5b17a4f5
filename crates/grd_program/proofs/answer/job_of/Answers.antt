use Rattle.std.proofs.Common.{map, string_bytes, ap, ◌∙◌, Err}
use Rattle.grd_program.proofs.FileLemmas.{only_job, only_usage}
use Rattle.grd_program.proofs.answer.job_of.Goals as goal

pub returns-in-Ok-clause-reads : goal.returns-in-Ok-clause-reads
returns-in-Ok-clause-reads c =
    only_job (map string_bytes c.args.words.now) c.read_words.result c.read_words.ensures.read_exactly c.read_words.ensures.fault_exactly
    c.in-Ok.job c.in-Ok.is c.in-Ok.ensures.read

pub returns-in-Err-Usage-clause-cause : goal.returns-in-Err-Usage-clause-cause
returns-in-Err-Usage-clause-cause c =
    let is = c.in-Err-Usage.is ∙ ap Err c.in-Err-Usage.field-0-is in
    only_usage (map string_bytes c.args.words.now) c.read_words.result c.read_words.ensures.read_exactly c.read_words.ensures.fault_exactly
    c.in-Err-Usage.fault is (c.read_words.ensures.fault c.in-Err-Usage.fault is)
