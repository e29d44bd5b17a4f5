use Rattle.std.proofs.Common.{◌∙◌, ◌<◌, length, arith, true}
use Rattle.std.proofs.lemmas.List.{length-set}
use Rattle.type_check.proofs.ChainLaws.{meets_same, meets_on}
use Rattle.type_check.proofs.chains.mark_up.Goals as goal

pub loop-preserved : goal.loop-preserved
loop-preserved c =
    let within : c.loop.at < length c.loop.marks = omega (arith, c.loop.invariant.0, c.loop.invariant.1) in
    let same = meets_same c.args.parents.now c.loop.marks c.loop.at within c.loop.invariant.2 in (
      c.requires.within c.loop.at c.in-Some.parent c.in-Some.is,
      length-set c.loop.marks c.loop.at true ∙ c.loop.invariant.1,
      (same c.in-Some.parent).1 (meets_on c.args.parents.now c.loop.marks c.loop.at c.in-Some.parent c.if-marks-at.false c.in-Some.is c.loop.invariant.2),
      λ j. (λ met. (c.loop.invariant.3 j).0 ((same j).0 met), λ met. (same j).1 ((c.loop.invariant.3 j).1 met)),
    )
