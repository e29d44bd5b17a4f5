use Rattle.type_check.specs.Types.{LiesUnder}
use Rattle.type_check.proofs.FitLaws.{NoneBefore}
use Rattle.type_check.proofs.types.Types.fits_one.Given as goal

abbrev pub invariant-loop-other : goal.invariant-loop-other
invariant-loop-other l = NoneBefore (LiesUnder l.self l.name) l.others l.other-index
