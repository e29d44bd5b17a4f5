use Rattle.std.proofs.Common.{take}
use Rattle.std.specs.Prelude.{All}
use Rattle.cost_certificate.proofs.BoundLemmas.{HasNeeds}
use Rattle.cost_certificate.proofs.bounds.unsupported_row.Given as goal

-- the rows so far have what they need
abbrev pub invariant-loop-i : goal.invariant-loop-i
invariant-loop-i g l = All (HasNeeds l.moves.task l.moves.removed l.rows) (take l.i l.rows)
