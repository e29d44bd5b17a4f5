use Rattle.search_core.specs.Turns.{IsBetween, measure}
use Rattle.search_core.proofs.turns.search.Given as goal

abbrev pub invariant-loop-place : goal.invariant-loop-place
invariant-loop-place g l =
    IsBetween (g.S.Space.next l.fn.question.space.now) (g.S.Space.is_done l.fn.question.space.now) (g.S.Space.level l.fn.question.space.now) (g.F.Floor.shows l.fn.question.floor.now l.fn.question.space.now)
    l.fn.question.start l.fn.question.limit l.reach.kept l.reach.found.entries l.reach.queue

abbrev pub decreases-loop-place : goal.decreases-loop-place
decreases-loop-place g l = measure l.fn.question.limit l.reach.kept l.reach.found.entries
