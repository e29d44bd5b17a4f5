use Rattle.std.proofs.Common.{◌≡◌, length}
use Rattle.std.specs.Prelude.{All}
use Rattle.search_core.specs.Nodes.{IsTicket, AreQueued}
use Rattle.search_core.proofs.turns.next_waiting.Given as goal

abbrev pub invariant-loop-ticket : goal.invariant-loop-ticket
invariant-loop-ticket g l = record {
  found : l.reach.found.entries ≡ l.fn.reach.found.entries;
  kept : l.reach.kept ≡ l.fn.reach.kept;
  issued : All (IsTicket l.reach.found.entries) l.reach.queue;
  queued : AreQueued l.reach.found.entries l.reach.queue;
}

abbrev pub decreases-loop-ticket : goal.decreases-loop-ticket
decreases-loop-ticket g l = length l.reach.queue
