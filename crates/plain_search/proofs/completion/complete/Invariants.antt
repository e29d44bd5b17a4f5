use Rattle.std.proofs.Common.{◌≤◌, ◌-◌, length}
use Rattle.plain_search.specs.Walks.{visits}
use Rattle.plain_search.proofs.CompletionLemmas.{IsPart}
use Rattle.plain_search.proofs.completion.complete.Given as goal

abbrev pub invariant-loop-a : goal.invariant-loop-a
invariant-loop-a g l = record {
  part : IsPart l.moves (visits l.layers.visited) l.layers.depths.items l.goal l.fn.prefix l.at l.plan.items;
  behind : l.fn.place ≤ l.at;
}

abbrev pub decreases-loop-a : goal.decreases-loop-a
decreases-loop-a g l = length (visits l.layers.visited) - l.at
