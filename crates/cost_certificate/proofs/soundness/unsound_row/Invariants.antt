use Rattle.std.proofs.Common.{take}
use Rattle.std.specs.Prelude.{All}
use Rattle.cost_certificate.specs.Tables.{IsSoundRow}
use Rattle.cost_certificate.proofs.soundness.unsound_row.Given as goal

abbrev pub invariant-loop-i : goal.invariant-loop-i
invariant-loop-i g l = All (IsSoundRow l.moves.task l.goal l.moves.removed) (take l.i l.rows)
