use Rattle.std.proofs.Common.{◌≡◌, suc, length, arith}
use Rattle.std.proofs.lemmas.List.Sorted.{length_permutation}
use Rattle.std.proofs.lemmas.Option.{slice_get_within}
use Rattle.search_core.proofs.PlaceLemmas.{value_at}
use Rattle.search_core.proofs.TakeLemmas.{popped_at, next_here, stale_here, issued_popped}
use Rattle.search_core.proofs.turns.next_waiting.Goals as goal

pub index-requires : goal.index-requires
index-requires g c = slice_get_within _ _ _ (popped_at _ _ c.loop-ticket.invariant.issued c.loop-ticket.invariant.queued _ _ c.in-Some.ensures.moved c.in-Some.ensures.least).at

pub returns-then-index-clause-next : goal.returns-then-index-clause-next
returns-then-index-clause-next g c =
    let here = value_at c.loop-ticket.reach.found.entries c.in-Some.ticket.place.0 c.index.result.now c.index.ensures in
    next_here _ _ c.loop-ticket.invariant.issued c.loop-ticket.invariant.queued _ _ c.in-Some.ensures.moved c.in-Some.ensures.least (here.0, c.index.result.now) here.1 c.if-index.true

pub loop-ticket-smaller : goal.loop-ticket-smaller
loop-ticket-smaller g c =
    let long : suc (length c.pop.new.self) ≡ length c.loop-ticket.reach.queue = length_permutation _ _ c.in-Some.ensures.moved in
    omega (arith, long)

pub loop-ticket-preserved : goal.loop-ticket-preserved
loop-ticket-preserved g c =
    let here = value_at c.loop-ticket.reach.found.entries c.in-Some.ticket.place.0 c.index.result.now c.index.ensures in
    record {
      found = c.loop-ticket.invariant.found;
      kept = c.loop-ticket.invariant.kept;
      issued = issued_popped _ _ c.loop-ticket.invariant.issued c.loop-ticket.invariant.queued _ _ c.in-Some.ensures.moved c.in-Some.ensures.least;
      queued = stale_here _ _ c.loop-ticket.invariant.issued c.loop-ticket.invariant.queued _ _ c.in-Some.ensures.moved c.in-Some.ensures.least (here.0, c.index.result.now) here.1 c.if-index.false;
    }
