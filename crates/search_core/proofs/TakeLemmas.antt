-- A state that is taken out of the queue.
use Rattle.std.proofs.Common.{◌≡◌, ℕ, zero, suc, ◌+◌, ◌≤◌, List, [], ◌∷◌, sym, ap, subst, ◌∙◌, ◌⊎◌, inl, inr, Some, true, false, true≢false, arith}
use Rattle.std.specs.Prelude.{Contains, All, slice_get}
use Rattle.std.specs.List.Sorted.{IsPermutation}
use Rattle.std.proofs.lemmas.Bool.{cases_Bool, cases_eq}
use Rattle.std.proofs.lemmas.List.Elements.{All-contains, All-tail}
use Rattle.std.proofs.lemmas.List.Sorted.{All-permutation, Contains-permutation}
use Rattle.std.proofs.lemmas.Option.{same_Some}
use Rattle.grd_base.specs.declared.limits.Bound.{Bound}
use Rattle.grd_base.specs.declared.limits.Bound.TheVariants.{Steps, Never}
use Rattle.search_core.specs.declared.queue.Ticket.{Ticket}
use Rattle.search_core.specs.Nodes.{Entry, IsTotalAtMost, IsTicket, IsQueued, AreQueued, AreQueuedBut}
use Rattle.search_core.specs.Turns.{IsNext, NoneWaits}

-- a list that lost one element has each other one
contains_popped : {X : Type 0} (old new : List X) (x y : X) → IsPermutation old (x ∷ new) → (x ≡ y → ⊥) → Contains old y → Contains new y
contains_popped old new x y moved other has = by (Contains-permutation old (x ∷ new) y moved has)
  where
    by : Contains (x ∷ new) y → Contains new y
    by (zero, within, is) = absurd (other is)
    by (suc k, within, is) = (k, omega (arith, within), is)

popped_queued : (old new : List Ticket) (t : Ticket) (place depth : ℕ) (b : Bound) → IsPermutation old (t ∷ new) → (place ≡ t.place.0 → ⊥) → IsQueued old place depth b → IsQueued new place depth b
popped_queued old new t place depth (Steps k) moved other has =
    contains_popped old new t (record { total = depth + k; bound = k; place = record { 0 = place } }) moved (λ same. other (ap (λ (u : Ticket). u.place.0) (sym same))) has
popped_queued old new t place depth Never moved other has = has

module _ {S M : Type 0} (entries : List (Entry S M)) (old : List Ticket) where
  -- an empty queue
  none_queued : (place depth : ℕ) (b : Bound) → IsQueued [] place depth b → ⊥
  none_queued place depth (Steps k) has = omega (arith, has.1)
  none_queued place depth Never has = has

  pub none_waits : old ≡ [] → AreQueued entries old → NoneWaits entries
  none_waits empty queued i e at = by (cases_Bool e.1.waits)
    where
      by : (e.1.waits ≡ true) ⊎ (e.1.waits ≡ false) → e.1.waits ≡ false
      by (inl waits) =
          let P : List Ticket → Type 0 = λ ts. IsQueued ts i e.1.way.depth e.1.bound in
          absurd (none_queued i e.1.way.depth e.1.bound (subst P empty (queued i e at waits)))
      by (inr still) = still

  module _ (issued : All (IsTicket entries) old) (queued : AreQueued entries old) (t : Ticket) (new : List Ticket) (moved : IsPermutation old (t ∷ new)) (least : All (λ (u : Ticket). t.total ≤ u.total) old) where
    pub issued_popped : All (IsTicket entries) new
    issued_popped = All-tail (IsTicket entries) t new (All-permutation (IsTicket entries) old (t ∷ new) moved issued)

    pub popped_at : IsTicket entries t
    popped_at = All-permutation (IsTicket entries) old (t ∷ new) moved issued 0 t (omega arith)

    queued_but : AreQueuedBut entries new t.place.0
    queued_but i e other at waits = popped_queued old new t i e.1.way.depth e.1.bound moved other (queued i e at waits)

    -- a ticket that is out of date
    pub queued_stale : popped_at.entry.1.waits ≡ false → AreQueued entries new
    queued_stale still i e at waits = by (cases_eq i t.place.0)
      where
        by : (i ≡ t.place.0) ⊎ (i ≡ t.place.0 → ⊥) → IsQueued new i e.1.way.depth e.1.bound
        by (inl here) =
            let is : popped_at.entry ≡ e = same_Some popped_at.entry e (sym popped_at.at ∙ ap (λ n. slice_get entries n) (sym here) ∙ at) in
            absurd (true≢false (sym waits ∙ ap (λ (f : Entry S M). f.1.waits) (sym is) ∙ still))
        by (inr other) = queued_but i e other at waits

    total_least : (i d n m : ℕ) (b c : Bound) → IsQueued old i d b → IsTotalAtMost d b n → IsTotalAtMost m c t.total → IsTotalAtMost m c n
    total_least i d n m (Steps k) (Steps j) has low no_less =
        let le : t.total ≤ d + k = All-contains (λ (u : Ticket). t.total ≤ u.total) old (record { total = d + k; bound = k; place = record { 0 = i } }) least has in
        omega (arith, le, low, no_less)
    total_least i d n m (Steps k) Never has low no_less = no_less
    total_least i d n m Never c has low no_less = absurd has

    pub next_at : popped_at.entry.1.waits ≡ true → IsNext entries new t.place.0
    next_at waits = record {
      entry = popped_at.entry;
      at = popped_at.at;
      waits = waits;
      issued = issued_popped;
      queued = queued_but;
      least = λ i e n at still low. total_least i e.1.way.depth n popped_at.entry.1.way.depth e.1.bound popped_at.entry.1.bound (queued i e at still) low popped_at.no_less;
    }

    module _ (e : Entry S M) (at : slice_get entries t.place.0 ≡ Some e) where
      popped_is : e ≡ popped_at.entry
      popped_is = same_Some _ _ (sym at ∙ popped_at.at)

      pub next_here : e.1.waits ≡ true → IsNext entries new t.place.0
      next_here waits = next_at (ap (λ (f : Entry S M). f.1.waits) (sym popped_is) ∙ waits)

      pub stale_here : e.1.waits ≡ false → AreQueued entries new
      stale_here still = queued_stale (ap (λ (f : Entry S M). f.1.waits) (sym popped_is) ∙ still)
