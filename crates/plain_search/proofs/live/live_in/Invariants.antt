use Rattle.grd_base.specs.Bits.{members}
use Rattle.plain_search.specs.Walks.{visits}
use Rattle.plain_search.specs.Live.{Gathers}
use Rattle.plain_search.proofs.MoveLemmas.{next_number}
use Rattle.plain_search.proofs.live.live_in.Given as goal

abbrev pub invariant-loop-a : goal.invariant-loop-a
invariant-loop-a g l = Gathers l.moves (visits l.layers.visited) l.layers.depths.items (members l.from) l.depth (next_number l.moves l.a-index) (members l.here)
