use Rattle.grd_base.specs.Bits.{members}
use Rattle.plain_search.specs.Walks.{visits}
use Rattle.plain_search.specs.Live.{MissesBy}
use Rattle.plain_search.proofs.MoveLemmas.{next_number}
use Rattle.plain_search.proofs.completion.live_step.Given as goal

abbrev pub invariant-loop-a : goal.invariant-loop-a
invariant-loop-a g l = MissesBy l.moves (visits l.layers.visited) l.layers.depths.items (members l.from) l.depth l.goal (next_number l.moves l.a-index)
