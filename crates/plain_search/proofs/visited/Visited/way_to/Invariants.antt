use Rattle.std.proofs.Common.{◌≡◌, ℕ, ◌<◌, List, ◌++◌, length, reverse}
use Rattle.grd_base.specs.declared.ids.ActionId.{ActionId}
use Rattle.plain_search.specs.Walks.{visits, AreWays}
use Rattle.plain_search.proofs.visited.Visited.way_to.Given as goal

abbrev pub invariant-loop-at : goal.invariant-loop-at
invariant-loop-at g l = record {
  within : l.at < length l.self;
  rest : (path : ℕ → List ActionId) → AreWays path (visits l.self) → path l.place ≡ path l.at ++ reverse l.way.items;
}

abbrev pub decreases-loop-at : goal.decreases-loop-at
decreases-loop-at g l = l.at
