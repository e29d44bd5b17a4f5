use Rattle.std.proofs.Common.{◌-◌, ◌^◌}
use Rattle.search_core.specs.Visits.{IsExploring}
use Rattle.search_core.proofs.visits.explore.Given as goal

abbrev pub invariant-loop-place : goal.invariant-loop-place
invariant-loop-place g l =
    IsExploring (g.S.Space.next l.fn.question.space.now) (g.S.Space.is_done l.fn.question.space.now) (g.S.Space.level l.fn.question.space.now) (g.F.Floor.shows l.fn.question.floor.now l.fn.question.space.now)
    l.fn.question.start l.fn.question.r l.fn.question.limit l.progress.kept l.progress.found.entries l.place

abbrev pub decreases-loop-place : goal.decreases-loop-place
decreases-loop-place g l = 2 ^ 64 - l.place
