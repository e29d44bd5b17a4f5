use Rattle.design_certificate.specs.Live.{HasNumber}
use Rattle.design_certificate.proofs.LoopLemmas.{all_next, all_found}
use Rattle.design_certificate.proofs.numbers.are_numbered.Goals as goal

pub loop-goal-preserved : goal.loop-goal-preserved
loop-goal-preserved c =
    all_next (HasNumber c.args.costs.now) c.args.goals.now c.loop-goal.goal-index (record { 0 = 0 }) c.loop-goal-test.true c.loop-goal.invariant (c.has_number.ensures.0 c.if-not-has_number.false)

pub returns : goal.returns
returns c = all_found (HasNumber c.args.costs.now) c.args.goals.now c.loop-goal.goal-index c.loop-goal-test.false c.loop-goal.invariant
