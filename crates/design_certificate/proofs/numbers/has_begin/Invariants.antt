use Rattle.std.proofs.Common.{take}
use Rattle.std.specs.Prelude.{Any}
use Rattle.design_certificate.specs.Live.{Begins}
use Rattle.design_certificate.proofs.numbers.has_begin.Given as goal

abbrev pub invariant-loop-row : goal.invariant-loop-row
invariant-loop-row l = Any (Begins l.fn.task l.fn.costs) (take l.row-index l.fn.rows) → ⊥
