-- What stays true where a state is added or its depth lowered.
use Rattle.std.proofs.Common.{◌≡◌, ℕ, ◌+◌, ◌<◌, ◌≤◌, List, [], ◌∷◌, length, refl, sym, ap, subst, ◌∙◌, ◌⊎◌, inl, inr, Some, Option, Bool, true, false, true≢false, arith}
use Rattle.std.specs.Prelude.{Contains, All, slice_get}
use Rattle.std.proofs.lemmas.List.Elements.{All-cons, Contains-get_or, Contains-append_right}
use Rattle.std.proofs.lemmas.List.Sorted.{All-permutation, Contains-permutation}
use Rattle.grd_base.specs.declared.limits.Bound.{Bound}
use Rattle.grd_base.specs.declared.limits.Bound.TheVariants.{Steps, Never}
use Rattle.search_core.specs.declared.ways.Way.{Way}
use Rattle.search_core.specs.declared.queue.Ticket.{Ticket}
use Rattle.search_core.specs.Spaces.{Successors}
use Rattle.search_core.specs.Entries.{IsFresh}
use Rattle.search_core.specs.Nodes.{Entry, IsHeldBy, IsNoDeeper, IsTotalAtMost, IsReachedIn, IsAfter, IsPlaced, IsExpanded, IsNode, IsTicket, IsQueued, AreQueued, AreClosedBut, AreNodes, one_if, expanded_count, weight_of, weight}
use Rattle.search_core.specs.Turns.{IsEased, IsEntered, IsWaiting, has_number}
use Rattle.search_core.proofs.PlaceLemmas.{get_push_new, get_push_cases, sum_push}
use Rattle.search_core.proofs.EasedLemmas.{after_eased, tickets_eased, all_held_eased, eased_push}

-- a queue with one more ticket has the others as before
pub queue_more : (before after : List Ticket) (place depth : ℕ) (b : Bound) → IsWaiting before after place depth b → (t : Ticket) → Contains before t → Contains after t
queue_more before after place depth (Steps k) moved t has =
    let u : Ticket = record { total = depth + k; bound = k; place = record { 0 = place } } in
    Contains-permutation (u ∷ before) after t moved (Contains-append_right (u ∷ []) before t has)
queue_more before after place depth Never same t has = let P : List Ticket → Type 0 = λ ts. Contains ts t in subst P (sym same) has

pub still_queued : (before after : List Ticket) → ((t : Ticket) → Contains before t → Contains after t) → (place depth : ℕ) (b : Bound) → IsQueued before place depth b → IsQueued after place depth b
still_queued before after more place depth (Steps k) has = more _ has
still_queued before after more place depth Never has = has

-- its own ticket
pub own_queued : (before after : List Ticket) (place depth : ℕ) (b : Bound) → has_number b ≡ true → IsWaiting before after place depth b → IsQueued after place depth b
own_queued before after place depth (Steps k) number moved =
    let u : Ticket = record { total = depth + k; bound = k; place = record { 0 = place } } in
    Contains-permutation (u ∷ before) after u moved (Contains-get_or (u ∷ before) 0 u (omega arith))
own_queued before after place depth Never number moved = absurd (true≢false (sym number))

module _ {S M : Type 0} where
  -- the tickets after one more was added
  pub issued_more : (before after : List Ticket) (entries : List (Entry S M)) (place : ℕ) (e : Entry S M) (b : Bound) → slice_get entries place ≡ Some e → e.1.bound ≡ b
      → IsWaiting before after place e.1.way.depth b → All (IsTicket entries) before → All (IsTicket entries) after
  issued_more before after entries place e (Steps k) at is moved all =
      let u : Ticket = record { total = e.1.way.depth + k; bound = k; place = record { 0 = place } } in
      let P : Bound → Type 0 = λ b. IsTotalAtMost e.1.way.depth b (e.1.way.depth + k) in
      All-permutation (IsTicket entries) (u ∷ before) after moved
      (All-cons (IsTicket entries) u before (record { entry = e; at = at; no_less = subst P (sym is) (omega arith) }) all)
  issued_more before after entries place e Never at is same all = let P : List Ticket → Type 0 = λ ts. All (IsTicket entries) ts in subst P (sym same) all

module _ {S M : Type 0} (next : Successors S) (is_done : S → Bool) (level : S → Option ℕ) (shows : S → M → Bound → Type 0) (start : S) where
  pub expanded_eased : (kept now : ℕ) (s : S) (depth lower : ℕ) → kept ≤ now → lower ≤ depth → IsExpanded next is_done level start kept s depth → IsExpanded next is_done level start now s lower
  expanded_eased kept now s depth lower more low h = record { counts = h.counts; not_done = h.not_done; earlier = omega (arith, more, low, h.earlier) }

  pub node_eased : (kept now : ℕ) (xs ys : List (Entry S M)) (e : Entry S M) → kept ≤ now → IsEased xs ys → IsNode next is_done level shows start kept xs e → IsNode next is_done level shows start now ys e
  node_eased kept now xs ys e more eased h = record {
    reached = h.reached;
    shown = h.shown;
    early = omega (arith, more, h.early);
    first = h.first;
    later = λ above. after_eased xs ys eased next e.0 e.1.way (h.later above);
    placed = h.placed;
    expanded = λ is. expanded_eased kept now e.0 e.1.way.depth e.1.way.depth more (omega arith) (h.expanded is);
  }

  module _ (limit : ℕ) where
    -- one more entry
    module _ (kept : ℕ) (xs ys : List (Entry S M)) (before after : List Ticket) (s : S) (way : Way)
        (nodes : AreNodes next is_done level shows start limit kept xs before) (fresh : IsFresh xs s) (entered : IsEntered shows xs ys before after s way) where
      pub eased_entered : IsEased xs ys
      eased_entered = let P : List (Entry S M) → Type 0 = λ zs. IsEased xs zs in subst P (sym entered.pushed) (eased_push xs entered.entry)

      pub get_entered : (i : ℕ) (f : Entry S M) → slice_get ys i ≡ Some f → (slice_get xs i ≡ Some f) ⊎ ((i ≡ length xs) × (entered.entry ≡ f))
      get_entered i f at = get_push_cases xs entered.entry i f (let P : List (Entry S M) → Type 0 = λ zs. slice_get zs i ≡ Some f in subst P entered.pushed at)

      pub new_at : slice_get ys (length xs) ≡ Some entered.entry
      new_at = let P : List (Entry S M) → Type 0 = λ zs. slice_get zs (length xs) ≡ Some entered.entry in subst P (sym entered.pushed) (get_push_new xs entered.entry)

      depth_of : entered.entry.1.way.depth ≡ way.depth
      depth_of = ap (λ (w : Way). w.depth) entered.way_is

      placed_new : (b : Bound) (waits expanded : Bool) → waits ≡ has_number b → expanded ≡ false → IsPlaced b waits expanded
      placed_new (Steps k) waits expanded is still = inl is
      placed_new Never waits expanded is still = (is, still)

      module _ (early : way.depth ≤ kept) (reached : IsReachedIn next start s way.depth) (first : way.depth ≡ 0 → s ≡ start) (later : 0 < way.depth → IsAfter next xs s way) where
        new_node : IsNode next is_done level shows start kept ys entered.entry
        new_node =
            let P : ℕ → Type 0 = λ n. IsReachedIn next start s n in
            let Q : S → Type 0 = λ t. IsReachedIn next start t entered.entry.1.way.depth in
            let A : S → Type 0 = λ t. IsAfter next ys t entered.entry.1.way in
            let W : Way → Type 0 = λ w. IsAfter next ys s w in
            let D : S → Type 0 = λ t. shows t entered.entry.1.mark entered.entry.1.bound in
            record {
              reached = subst Q (sym entered.state_is) (subst P (sym depth_of) reached);
              shown = subst D (sym entered.state_is) entered.shown;
              early = omega (arith, early, depth_of);
              first = λ zero. entered.state_is ∙ first (omega (arith, zero, depth_of));
              later = λ above. subst A (sym entered.state_is) (subst W (sym entered.way_is) (after_eased xs ys eased_entered next s way (later (omega (arith, above, depth_of)))));
              placed = placed_new entered.entry.1.bound entered.entry.1.waits entered.entry.1.expanded entered.waits entered.expanded;
              expanded = λ is. absurd (true≢false (sym is ∙ entered.expanded));
            }

        each_entered : (i : ℕ) (f : Entry S M) → slice_get ys i ≡ Some f → IsNode next is_done level shows start kept ys f
        each_entered i f at = elim (get_entered i f at) [
          | inl old ↦ node_eased kept kept xs ys f (omega arith) eased_entered (nodes.each i f old)
          | inr new ↦ let P : Entry S M → Type 0 = λ g. IsNode next is_done level shows start kept ys g in subst P new.1 new_node
        ]

        apart_entered : (i j : ℕ) (f g : Entry S M) → slice_get ys i ≡ Some f → slice_get ys j ≡ Some g → f.0 ≡ g.0 → i ≡ j
        apart_entered i j f g at_f at_g same = elim (get_entered i f at_f) [
          | inl old_f ↦ elim (get_entered j g at_g) [
            | inl old_g ↦ nodes.apart i j f g old_f old_g same
            | inr new_g ↦ absurd (fresh (record { place = i; entry = f; at = old_f; state_is = same ∙ ap (λ (h : Entry S M). h.0) (sym new_g.1) ∙ entered.state_is }))
          ]
          | inr new_f ↦ elim (get_entered j g at_g) [
            | inl old_g ↦ absurd (fresh (record { place = j; entry = g; at = old_g; state_is = sym same ∙ ap (λ (h : Entry S M). h.0) (sym new_f.1) ∙ entered.state_is }))
            | inr new_g ↦ new_f.0 ∙ sym new_g.0
          ]
        ]

        queued_new : IsWaiting before after (length xs) entered.entry.1.way.depth entered.entry.1.bound
        queued_new = let P : ℕ → Type 0 = λ n. IsWaiting before after (length xs) n entered.entry.1.bound in subst P (sym depth_of) entered.queued

        pub nodes_entered : AreNodes next is_done level shows start limit kept ys after
        nodes_entered = record {
          each = each_entered;
          apart = apart_entered;
          kept_is =
              let f : Entry S M → ℕ = λ g. one_if g.1.expanded in
              let a : expanded_count ys ≡ expanded_count xs + one_if entered.entry.1.expanded = ap (λ zs. expanded_count zs) entered.pushed ∙ sum_push f xs entered.entry in
              let b : one_if entered.entry.1.expanded ≡ 0 = ap one_if entered.expanded in
              omega (arith, a, b, nodes.kept_is);
          few = nodes.few;
          issued = issued_more before after ys (length xs) entered.entry entered.entry.1.bound new_at refl queued_new (tickets_eased xs ys eased_entered before nodes.issued);
        }

        pub queued_entered : AreQueued xs before → AreQueued ys after
        queued_entered queued i f at waits = elim (get_entered i f at) [
          | inl old ↦ still_queued before after (queue_more before after (length xs) entered.entry.1.way.depth entered.entry.1.bound queued_new) i f.1.way.depth f.1.bound (queued i f old waits)
          | inr new ↦
              let P : ℕ → Type 0 = λ n. IsQueued after n entered.entry.1.way.depth entered.entry.1.bound in
              let Q : Entry S M → Type 0 = λ g. IsQueued after i g.1.way.depth g.1.bound in
              let number : has_number entered.entry.1.bound ≡ true = sym entered.waits ∙ ap (λ (g : Entry S M). g.1.waits) new.1 ∙ waits in
              subst Q new.1 (subst P (sym new.0) (own_queued before after (length xs) entered.entry.1.way.depth entered.entry.1.bound number queued_new))
        ]

      pub closed_entered : (but : ℕ) → AreClosedBut next xs but → AreClosedBut next ys but
      closed_entered but closed i f other at expanded still = elim (get_entered i f at) [
        | inl old ↦ all_held_eased xs ys eased_entered (f.1.way.depth + 1) (next f.0) (closed i f other old expanded still)
        | inr new ↦ absurd (true≢false (sym expanded ∙ ap (λ (g : Entry S M). g.1.expanded) (sym new.1) ∙ entered.expanded))
      ]

      pub weight_entered : weight ys ≡ weight xs
      weight_entered =
          let f : Entry S M → ℕ = λ g. weight_of g.1.expanded g.1.waits g.1.way.depth in
          let a : weight ys ≡ weight xs + weight_of entered.entry.1.expanded entered.entry.1.waits entered.entry.1.way.depth = ap (λ zs. weight zs) entered.pushed ∙ sum_push f xs entered.entry in
          let b : weight_of entered.entry.1.expanded entered.entry.1.waits entered.entry.1.way.depth ≡ 0 = ap (λ x. weight_of x entered.entry.1.waits entered.entry.1.way.depth) entered.expanded in
          omega (arith, a, b)

      -- the new entry is held
      no_deeper_new : (b : Bound) (depth most : ℕ) → depth ≤ most → IsNoDeeper b depth most
      no_deeper_new (Steps k) depth most low = low
      no_deeper_new Never depth most low = tt

      pub held_entered : (most : ℕ) → way.depth ≤ most → IsHeldBy ys s most
      held_entered most low = record { place = length xs; entry = entered.entry; at = new_at; state_is = entered.state_is; no_deeper = no_deeper_new entered.entry.1.bound entered.entry.1.way.depth most (omega (arith, low, depth_of)) }
