use Rattle.std.proofs.lemmas.List.Sorted.{IsPermutation-map}
use Rattle.std.specs.declared.cmp.Reverse.{Reverse}
use Rattle.search_core.specs.declared.queue.Ticket.{Ticket}
use Rattle.search_core.proofs.queue.Queue.push.Goals as goal

pub returns : goal.returns
returns c = rw c.self.view_is at (IsPermutation-map (λ (t : Reverse Ticket). t.0) _ _ c.in_ok-push.ensures.permutation)
