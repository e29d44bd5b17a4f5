use Rattle.std.specs.Prelude.{Contains}
use Rattle.design_certificate.proofs.LoopLemmas.{all_next, all_found}
use Rattle.design_certificate.proofs.index.has_goals_of.Goals as goal

pub loop-goal-preserved : goal.loop-goal-preserved
loop-goal-preserved c =
    all_next (Contains c.args.goals.now) c.args.wanted.now c.loop-goal.goal-index (record { 0 = 0 }) c.loop-goal-test.true c.loop-goal.invariant (c.has_goal.ensures.0 c.if-not-has_goal.false)

pub returns : goal.returns
returns c = all_found (Contains c.args.goals.now) c.args.wanted.now c.loop-goal.goal-index c.loop-goal-test.false c.loop-goal.invariant
