use Rattle.std.proofs.Common.{◌-◌}
use Rattle.plain_search.specs.Walks.{visits}
use Rattle.plain_search.specs.Depths.{IsDeepened}
use Rattle.plain_search.proofs.layers.layers_within.Given as goal

abbrev pub invariant-loop-from : goal.invariant-loop-from
invariant-loop-from g l = IsDeepened l.moves l.limit l.steps l.head (visits l.layers.visited) l.layers.depths.items

abbrev pub decreases-loop-from : goal.decreases-loop-from
decreases-loop-from g l = l.limit - l.head
