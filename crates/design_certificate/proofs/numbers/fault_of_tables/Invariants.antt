use Rattle.std.proofs.Common.{take}
use Rattle.std.specs.Prelude.{All}
use Rattle.cost_certificate.specs.Tables.{IsValidTable}
use Rattle.design_certificate.proofs.numbers.fault_of_tables.Given as goal

abbrev pub invariant-loop-i : goal.invariant-loop-i
invariant-loop-i l = All (λ x. IsValidTable l.fn.task x.0 l.fn.removed x.1) (take l.i l.fn.tables)
