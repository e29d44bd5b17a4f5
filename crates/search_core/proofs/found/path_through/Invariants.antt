use Rattle.search_core.proofs.WayLemmas.{IsOnWay}
use Rattle.search_core.proofs.found.path_through.Given as goal

abbrev pub invariant-loop-at : goal.invariant-loop-at
invariant-loop-at g l = IsOnWay l.fn.found.entries l.fn.place l.fn.last l.path.items l.at

abbrev pub decreases-loop-at : goal.decreases-loop-at
decreases-loop-at g l = l.at
