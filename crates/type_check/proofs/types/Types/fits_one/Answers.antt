use Rattle.std.proofs.Common.{arith}
use Rattle.type_check.specs.Types.{LiesUnder}
use Rattle.type_check.proofs.FitLaws.{none_found}
use Rattle.type_check.proofs.types.Types.fits_one.Goals as goal

pub returns : goal.returns
returns c = (
  λ e. cc,
  λ some.
      absurd
      (none_found (LiesUnder c.args.self.now c.args.name.now) c.args.others.now
      (λ k d less. c.loop-other.invariant k d (omega (arith, less, c.loop-other-test.false, c.loop-other.auto.other-index-end))) some),
)
