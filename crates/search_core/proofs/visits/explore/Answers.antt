use Rattle.search_core.proofs.visits.explore.Goals as goal

pub loop-place-preserved : goal.loop-place-preserved
loop-place-preserved g c = rw c.in_default.is at c.in_ok-path.ensures.on
