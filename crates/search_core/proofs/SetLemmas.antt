-- What stays true where what is known of one state changes.
use Rattle.std.proofs.Common.{◌≡◌, ℕ, ◌+◌, ◌<◌, ◌≤◌, List, refl, sym, ap, subst, ◌∙◌, inl, inr, Some, Option, Bool, true, false, true≢false, arith}
use Rattle.std.specs.Prelude.{All, slice_get}
use Rattle.std.proofs.lemmas.Option.{same_Some}
use Rattle.indexmap.specs.Layout.{set_value_at}
use Rattle.grd_base.specs.declared.limits.Bound.{Bound}
use Rattle.grd_base.specs.declared.limits.Bound.TheVariants.{Steps, Never}
use Rattle.search_core.specs.declared.nodes.Node.{Node}
use Rattle.search_core.specs.declared.ways.Way.{Way}
use Rattle.search_core.specs.declared.queue.Ticket.{Ticket}
use Rattle.search_core.specs.Spaces.{Successors}
use Rattle.search_core.specs.Nodes.{Entry, IsHeldBy, IsNoDeeper, IsReachedIn, IsAfter, IsPlaced, IsNode, IsTicket, IsQueued, AreQueued, AreClosedBut, AreNodes, one_if, expanded_count, weight_of, weight}
use Rattle.search_core.specs.Turns.{IsEased, IsWaiting, IsHead, has_number, lowered}
use Rattle.search_core.proofs.PlaceLemmas.{get_set_cases, get_set_here, get_set_other, sum_set}
use Rattle.search_core.proofs.EasedLemmas.{after_eased, tickets_eased, all_held_eased, eased_set}
use Rattle.search_core.proofs.NodeLemmas.{node_eased, expanded_eased, queue_more, still_queued, own_queued, issued_more}

module _ {S M : Type 0} (next : Successors S) (is_done : S → Bool) (level : S → Option ℕ) (shows : S → M → Bound → Type 0) (start : S) (limit : ℕ) where
  module _ (kept : ℕ) (xs : List (Entry S M)) (tickets : List Ticket) (nodes : AreNodes next is_done level shows start limit kept xs tickets)
      (place : ℕ) (e : Entry S M) (at : slice_get xs place ≡ Some e) (w : Node M) (low : w.way.depth ≤ e.1.way.depth) (same : w.bound ≡ e.1.bound) where
    ys : List (Entry S M)
    ys = set_value_at xs place w

    eased : IsEased xs ys
    unfolding ys
    eased = eased_set xs place w e at low same

    -- each entry has the state of one at the same place
    before_set : (i : ℕ) (f : Entry S M) → slice_get ys i ≡ Some f → (g : Entry S M) × (slice_get xs i ≡ Some g) × (f.0 ≡ g.0)
    unfolding ys
    before_set i f at_f = elim (get_set_cases xs place w i f at_f) [
      | inl k ↦ (f, k.at, refl)
      | inr k ↦ (k.before, (ap (λ n. slice_get xs n) k.here ∙ k.at), ap (λ (h : Entry S M). h.0) (sym k.is))
    ]

    was_here : (k : Entry S M) → slice_get xs place ≡ Some k → e ≡ k
    was_here k at_k = same_Some e k (sym at ∙ at_k)

    -- what holds of the entry that was set and of the others, holds of each
    each_set : (P : ℕ → Entry S M → Type 0) → ((i : ℕ) (f : Entry S M) → (i ≡ place → ⊥) → slice_get xs i ≡ Some f → P i f) → P place (e.0, w) → (i : ℕ) (f : Entry S M) → slice_get ys i ≡ Some f → P i f
    unfolding ys
    each_set P others here i f at_f = elim (get_set_cases xs place w i f at_f) [
      | inl k ↦ others i f k.other k.at
      | inr k ↦
          let is : (e.0, w) ≡ f = ap (λ (h : Entry S M). (h.0, w)) (was_here k.before k.at) ∙ k.is in
          let Q : ℕ → Type 0 = λ n. P n (e.0, w) in
          let R : Entry S M → Type 0 = λ h. P i h in
          subst R is (subst Q (sym k.here) here)
    ]

    pub nodes_set : (now : ℕ) (after : List Ticket) → kept ≤ now → now ≤ limit → IsNode next is_done level shows start now (set_value_at xs place w) (e.0, w) → expanded_count (set_value_at xs place w) ≡ now → All (IsTicket (set_value_at xs place w)) after
        → AreNodes next is_done level shows start limit now (set_value_at xs place w) after
    unfolding ys
    nodes_set now after more few node count issued = record {
      each = each_set (λ i f. IsNode next is_done level shows start now ys f) (λ i f other at_f. node_eased next is_done level shows start kept now xs ys f more eased (nodes.each i f at_f)) node;
      apart = λ i j f g at_f at_g is.
          let a = before_set i f at_f in
          let b = before_set j g at_g in
          nodes.apart i j a.0 b.0 a.1 b.1 (sym a.2 ∙ is ∙ b.2);
      kept_is = count;
      few = few;
      issued = issued;
    }

    pub count_set : expanded_count (set_value_at xs place w) + one_if e.1.expanded ≡ kept + one_if w.expanded
    count_set = let f : Entry S M → ℕ = λ g. one_if g.1.expanded in
        let a : expanded_count (set_value_at xs place w) + one_if e.1.expanded ≡ expanded_count xs + one_if w.expanded = sum_set f xs place w e at in
        omega (arith, a, nodes.kept_is)

    pub weight_set : weight (set_value_at xs place w) + weight_of e.1.expanded e.1.waits e.1.way.depth ≡ weight xs + weight_of w.expanded w.waits w.way.depth
    weight_set = let f : Entry S M → ℕ = λ g. weight_of g.1.expanded g.1.waits g.1.way.depth in sum_set f xs place w e at

  -- a shorter way to a state
  module _ (kept : ℕ) (xs : List (Entry S M)) (before after : List Ticket) (nodes : AreNodes next is_done level shows start limit kept xs before)
      (place : ℕ) (e : Entry S M) (at : slice_get xs place ≡ Some e) (way : Way) (deeper : IsNoDeeper e.1.bound e.1.way.depth way.depth → ⊥) (queue : IsWaiting before after place way.depth e.1.bound) where
    deeper_by : (b : Bound) (depth most : ℕ) → (IsNoDeeper b depth most → ⊥) → (most < depth) × (has_number b ≡ true)
    deeper_by (Steps k) depth most not = (omega (arith, not), refl)
    deeper_by Never depth most not = absurd (not tt)

    below : way.depth < e.1.way.depth
    below = (deeper_by e.1.bound e.1.way.depth way.depth deeper).0

    numbered : has_number e.1.bound ≡ true
    numbered = (deeper_by e.1.bound e.1.way.depth way.depth deeper).1

    w : Node M
    w = lowered e.1 way

    pub eased_lowered : IsEased xs (set_value_at xs place (lowered e.1 way))
    eased_lowered = eased_set xs place (lowered e.1 way) e at (omega (arith, below)) refl

    placed_waits : (b : Bound) (expanded : Bool) → has_number b ≡ true → IsPlaced b true expanded
    placed_waits (Steps k) expanded number = inl refl
    placed_waits Never expanded number = absurd (true≢false (sym number))

    at_lowered : slice_get (set_value_at xs place (lowered e.1 way)) place ≡ Some (e.0, lowered e.1 way)
    at_lowered = get_set_here xs place (lowered e.1 way) e at

    module _ (early : way.depth ≤ kept) (reached : IsReachedIn next start e.0 way.depth) (first : way.depth ≡ 0 → e.0 ≡ start) (later : 0 < way.depth → IsAfter next xs e.0 way) where
      lowered_node : IsNode next is_done level shows start kept (set_value_at xs place (lowered e.1 way)) (e.0, lowered e.1 way)
      lowered_node = record {
        reached = reached;
        shown = (nodes.each place e at).shown;
        early = early;
        first = first;
        later = λ above. after_eased xs (set_value_at xs place (lowered e.1 way)) eased_lowered next e.0 way (later above);
        placed = placed_waits e.1.bound e.1.expanded numbered;
        expanded = λ is. expanded_eased next is_done level shows start kept kept e.0 e.1.way.depth way.depth (omega arith) (omega (arith, below)) ((nodes.each place e at).expanded is);
      }

      pub nodes_lowered : AreNodes next is_done level shows start limit kept (set_value_at xs place (lowered e.1 way)) after
      nodes_lowered =
          nodes_set kept xs before nodes place e at (lowered e.1 way) (omega (arith, below)) refl kept after (omega arith) nodes.few lowered_node
          (let c : expanded_count (set_value_at xs place (lowered e.1 way)) + one_if e.1.expanded ≡ kept + one_if e.1.expanded = count_set kept xs before nodes place e at (lowered e.1 way) (omega (arith, below)) refl in omega (arith, c))
          (issued_more before after (set_value_at xs place (lowered e.1 way)) place (e.0, lowered e.1 way) e.1.bound at_lowered refl queue
          (tickets_eased xs (set_value_at xs place (lowered e.1 way)) eased_lowered before nodes.issued))

    pub queued_lowered : AreQueued xs before → AreQueued (set_value_at xs place (lowered e.1 way)) after
    unfolding ys
    queued_lowered queued i f at_f =
        each_set kept xs before nodes place e at (lowered e.1 way) (omega (arith, below)) refl (λ j g. g.1.waits ≡ true → IsQueued after j g.1.way.depth g.1.bound)
        (λ j g other at_g waits. still_queued before after (queue_more before after place way.depth e.1.bound queue) j g.1.way.depth g.1.bound (queued j g at_g waits))
        (λ waits. own_queued before after place way.depth e.1.bound numbered queue) i f at_f

    pub closed_lowered : (but : ℕ) → AreClosedBut next xs but → AreClosedBut next (set_value_at xs place (lowered e.1 way)) but
    closed_lowered but closed i f other at_f expanded still = elim (get_set_cases xs place (lowered e.1 way) i f at_f) [
      | inl k ↦ all_held_eased xs (set_value_at xs place (lowered e.1 way)) eased_lowered (f.1.way.depth + 1) (next f.0) (closed i f other k.at expanded still)
      | inr k ↦ absurd (true≢false (ap (λ (h : Entry S M). h.1.waits) k.is ∙ still))
    ]

    lighter : (expanded waits : Bool) (a b : ℕ) → a < b → weight_of expanded true a ≤ weight_of expanded waits b
    lighter true true a b less = omega (arith, less)
    lighter true false a b less = omega (arith, less)
    lighter false waits a b less = omega arith

    pub weight_lowered : weight (set_value_at xs place (lowered e.1 way)) ≤ weight xs
    weight_lowered =
        let h : weight (set_value_at xs place (lowered e.1 way)) + weight_of e.1.expanded e.1.waits e.1.way.depth ≡ weight xs + weight_of e.1.expanded true way.depth = weight_set kept xs before nodes place e at (lowered e.1 way) (omega (arith, below)) refl in
        let l : weight_of e.1.expanded true way.depth ≤ weight_of e.1.expanded e.1.waits e.1.way.depth = lighter e.1.expanded e.1.waits way.depth e.1.way.depth below in
        omega (arith, h, l)

    -- an entry that is no deeper than the way stays
    pub head_lowered : (head depth : ℕ) (s : S) → depth < way.depth → IsHead xs head depth s → IsHead (set_value_at xs place (lowered e.1 way)) head depth s
    head_lowered head depth s low h = record {
      entry = h.entry;
      at = get_set_other xs place (lowered e.1 way) head h.entry
          (λ here.
          let is : e ≡ h.entry = same_Some e h.entry (sym at ∙ ap (λ n. slice_get xs n) (sym here) ∙ h.at) in
          let d : e.1.way.depth ≡ h.entry.1.way.depth = ap (λ (f : Entry S M). f.1.way.depth) is in
          omega (arith, d, h.depth_is, below, low)) h.at;
      state_is = h.state_is;
      depth_is = h.depth_is;
      waits = h.waits;
      expanded = h.expanded;
    }

    pub held_lowered : (most : ℕ) → way.depth ≤ most → IsHeldBy (set_value_at xs place (lowered e.1 way)) e.0 most
    held_lowered most low = record { place = place; entry = (e.0, lowered e.1 way); at = at_lowered; state_is = refl; no_deeper = up e.1.bound }
      where
        up : (b : Bound) → IsNoDeeper b way.depth most
        up (Steps k) = low
        up Never = tt
