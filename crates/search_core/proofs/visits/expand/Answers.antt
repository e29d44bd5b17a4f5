use Rattle.std.proofs.Common.{sym}
use Rattle.std.proofs.lemmas.List.{take_all}
use Rattle.grd_base.proofs.ListLemmas.{take_next}
use Rattle.search_core.proofs.VisitLemmas.{spread_step, spread_more}
use Rattle.search_core.proofs.visits.expand.Goals as goal

pub visit-requires-clause-step : goal.visit-requires-clause-step
visit-requires-clause-step g c =
    spread_step _ _ _ _ _ _ _ _ _ _ _ _ _ _ _ _ c.requires.head c.loop-step.invariant c.requires.steps (c.loop-step.step-index, c.loop-step-test.true, sym c.step-item.is)

pub loop-step-preserved : goal.loop-step-preserved
loop-step-preserved g c =
    rw (take_next c.args.steps.now c.loop-step.step-index c.step-item.result c.loop-step-test.true c.step-item.is)
    (spread_more _ _ _ _ _ _ _ _ _ _ _ _ _ _ _ _ _ c.loop-step.invariant (rw c.in_default.is at c.in_ok-path.ensures.on))

pub returns-clause-on : goal.returns-clause-on
returns-clause-on g c =
    let spread = c.loop-step.invariant in
    (spread.step, rw (take_all c.loop-step.step-index c.args.steps.now c.loop-step-test.false) at spread.held)
