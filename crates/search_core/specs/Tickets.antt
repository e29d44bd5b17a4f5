-- The order of the queue. Only private contracts speak of it.
use Rattle.std.specs.Ordering.{nat_cmp, ordering_then}
use Rattle.std.specs.declared.cmp.Ordering.{Ordering}
use Rattle.std.specs.declared.cmp.Reverse.{Reverse}
use Rattle.search_core.specs.declared.queue.Ticket.{Ticket}

-- the one of least total is the greatest; of these the one of least bound, and of these the newest
abbrev pub by_ticket : Reverse Ticket → Reverse Ticket → Ordering
by_ticket x y = ordering_then (nat_cmp y.0.total x.0.total) (ordering_then (nat_cmp y.0.bound x.0.bound) (nat_cmp x.0.place.0 y.0.place.0))
