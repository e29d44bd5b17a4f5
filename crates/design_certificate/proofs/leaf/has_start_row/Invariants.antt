use Rattle.std.proofs.Common.{take}
use Rattle.strips_model.specs.Plans.{start_of}
use Rattle.cost_certificate.specs.Tables.{HasRow}
use Rattle.design_certificate.proofs.leaf.has_start_row.Given as goal

abbrev pub invariant-loop-row : goal.invariant-loop-row
invariant-loop-row l = HasRow (take l.row-index l.fn.rows) (start_of l.fn.task) l.fn.need → ⊥
