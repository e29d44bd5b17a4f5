use Rattle.goal_files.proofs.Skips.{is_skipped-first, is_skipped-none}
use Rattle.goal_files.proofs.pieces.is_skipped.Goals as goal

pub returns-in-Some : goal.returns-in-Some
returns-in-Some c = is_skipped-first c.args.line.now c.skip_blanks.result.now c.in-Some.b.now c.skip_blanks.ensures c.in-Some.ensures.value

pub returns-in-None : goal.returns-in-None
returns-in-None c = is_skipped-none c.args.line.now c.skip_blanks.result.now c.skip_blanks.ensures c.in-None.ensures.value
