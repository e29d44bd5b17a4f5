use Rattle.std.proofs.Common.{take}
use Rattle.search_core.proofs.VisitLemmas.{IsSpreading}
use Rattle.search_core.proofs.visits.expand.Given as goal

abbrev pub invariant-loop-step : goal.invariant-loop-step
invariant-loop-step g l =
    IsSpreading (g.S.Space.next l.fn.question.space.now) (g.S.Space.is_done l.fn.question.space.now) (g.S.Space.level l.fn.question.space.now) (g.F.Floor.shows l.fn.question.floor.now l.fn.question.space.now)
    l.fn.question.start l.fn.question.r l.fn.question.limit l.fn.progress.kept l.progress.kept l.fn.progress.found.entries l.progress.found.entries l.fn.head.place l.fn.head.depth (take l.step-index l.steps)
