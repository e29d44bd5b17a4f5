use Rattle.std.proofs.Common.{◌<◌, All, sym, ap, ◌∙◌, subst, take}
use Rattle.goal_files.proofs.Marks.{run_is_ascii}
use Rattle.goal_files.proofs.pieces.split_piece.Goals as goal

pub returns-then-is_name_byte-clause-ascii : goal.returns-then-is_name_byte-clause-ascii
returns-then-is_name_byte-clause-ascii c =
    let run = c.split_at.ensures.front ∙ ap (λ n. take n c.args.line.now) c.run_len.ensures.value in
    subst (All (λ b. b < 128)) (sym run) (run_is_ascii c.args.line.now)
