use Rattle.std.proofs.Common.{take}
use Rattle.cost_certificate.specs.Seen.{AreBest}
use Rattle.cost_certificate.proofs.bounds.best_bounds.Given as goal

-- the entries are the best bounds of the rows so far
abbrev pub invariant-loop-row : goal.invariant-loop-row
invariant-loop-row g l = AreBest (take l.row-index l.rows) l.bounds.entries
