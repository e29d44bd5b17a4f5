-- What a heap of tickets says of its least one.
use Rattle.std.proofs.Common.{◌≡◌, ℕ, ◌≤◌, List, [], ◌∷◌, map, false, refl, arith}
use Rattle.std.specs.Prelude.{All}
use Rattle.std.specs.BinaryHeap.{IsUpperBound}
use Rattle.std.specs.Ordering.{is_lt, nat_cmp, ordering_then}
use Rattle.std.specs.declared.cmp.Ordering.{Ordering}
use Rattle.std.specs.declared.cmp.Ordering.TheVariants.{Less, Equal, Greater}
use Rattle.std.specs.declared.cmp.Reverse.{Reverse}
use Rattle.std.proofs.lemmas.List.Sorted.{le_from_greatest}
use Rattle.std.proofs.lemmas.List.Elements.{All-cons, All-nil}
use Rattle.search_core.specs.declared.queue.Ticket.{Ticket}
use Rattle.search_core.specs.Tickets.{by_ticket}

-- what comes first decides unless it is `Equal`
first_not_lt : (a b : Ordering) → is_lt (ordering_then a b) ≡ false → is_lt a ≡ false
first_not_lt Less b e = e
first_not_lt Equal b e = refl
first_not_lt Greater b e = e

no_more : (a b : ℕ) → is_lt (nat_cmp a b) ≡ false → b ≤ a
no_more a b h = le_from_greatest a (b ∷ []) (h, tt) 0 b (omega arith)

-- the greatest of a heap is the ticket of least total
pub least_from_greatest : (x : Reverse Ticket) (xs : List (Reverse Ticket)) → IsUpperBound by_ticket x xs → All (λ (t : Ticket). x.0.total ≤ t.total) (map (λ (t : Reverse Ticket). t.0) xs)
least_from_greatest x [] h = All-nil (λ (t : Ticket). x.0.total ≤ t.total)
least_from_greatest x (y ∷ ys) h =
    All-cons (λ (t : Ticket). x.0.total ≤ t.total) y.0 (map (λ (t : Reverse Ticket). t.0) ys) (no_more y.0.total x.0.total (first_not_lt _ _ h.0)) (least_from_greatest x ys h.1)
