use Rattle.std.proofs.Common.{ap, ◌∙◌, Err}
use Rattle.grd_program.proofs.FileLemmas.{fails_typing}
use Rattle.grd_program.proofs.typed.typed_of.Goals as goal

pub returns-in-Err-Typing-clause-cause : goal.returns-in-Err-Typing-clause-cause
returns-in-Err-Typing-clause-cause c =
    let fault = c.in-Err-Typing.fault in
    let is = c.in-Err-Typing.is ∙ ap Err c.in-Err-Typing.field-0-is in
    fails_typing c.args.domain.now c.args.problem.now c.check.result fault c.check.ensures.fault_exactly c.check.ensures.makes is (c.check.ensures.fault fault is)
