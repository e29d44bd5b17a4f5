use Rattle.design_certificate.specs.Index.{IsIndexed}
use Rattle.design_certificate.proofs.index.LiveIndex.of.Given as goal

abbrev pub invariant-loop-row : goal.invariant-loop-row
invariant-loop-row g l = IsIndexed l.fn.rows l.row-index l.last.entries l.earlier.items
