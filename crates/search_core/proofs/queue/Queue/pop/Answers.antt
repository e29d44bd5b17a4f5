use Rattle.std.specs.declared.cmp.Reverse.{Reverse}
use Rattle.std.proofs.lemmas.List.Sorted.{IsPermutation-map}
use Rattle.search_core.specs.declared.queue.Ticket.{Ticket}
use Rattle.search_core.proofs.QueueLemmas.{least_from_greatest}
use Rattle.search_core.proofs.queue.Queue.pop.Goals as goal

pub returns-clause-moved : goal.returns-clause-moved
returns-clause-moved c = rw c.self.view_is at (IsPermutation-map (λ (t : Reverse Ticket). t.0) _ _ c.in_ok-ticket.ensures.permutation)

pub returns-clause-least : goal.returns-clause-least
returns-clause-least c = rw c.self.view_is at (least_from_greatest _ _ (c.in_ok-ticket.ensures.heap_order c.self.invariant).1)
