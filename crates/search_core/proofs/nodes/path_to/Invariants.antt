use Rattle.search_core.proofs.ParentLemmas.{IsOnWay}
use Rattle.search_core.proofs.nodes.path_to.Given as goal

abbrev pub invariant-loop-way : goal.invariant-loop-way
invariant-loop-way g l = IsOnWay l.fn.found.entries l.fn.place l.path.items l.way

abbrev pub decreases-loop-way : goal.decreases-loop-way
decreases-loop-way g l = l.way.depth
