use Rattle.std.proofs.Common.{◌≤◌, length}
use Rattle.plain_search.specs.Walks.{visits}
use Rattle.plain_search.specs.Live.{IsLiveFrom, AreFewFrom}
use Rattle.plain_search.proofs.live.last_shared.Given as goal

abbrev pub invariant-loop-place : goal.invariant-loop-place
invariant-loop-place g l = record {
  within : l.place ≤ length l.live;
  known : IsLiveFrom l.moves (visits l.layers.visited) l.layers.depths.items l.place l.live;
  few : AreFewFrom l.moves (visits l.layers.visited) l.layers.depths.items l.place;
}

abbrev pub decreases-loop-place : goal.decreases-loop-place
decreases-loop-place g l = l.place
