use Rattle.grd_base.specs.Bits.{members}
use Rattle.plain_search.specs.Walks.{visits}
use Rattle.plain_search.specs.Depths.{Deepens}
use Rattle.plain_search.proofs.MoveLemmas.{next_number}
use Rattle.plain_search.proofs.layers.expand.Given as goal

abbrev pub invariant-loop-a : goal.invariant-loop-a
invariant-loop-a g l =
    Deepens l.moves l.limit l.head (next_number l.moves l.a-index) (members l.from) l.deeper (visits l.layers.visited) l.layers.depths.items
