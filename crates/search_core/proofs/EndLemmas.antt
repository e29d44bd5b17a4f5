-- The answers of a best-first search.
use Rattle.std.proofs.Common.{◌≡◌, ℕ, suc, ◌-◌, ◌<◌, ◌≤◌, List, [], length, refl, sym, ap, subst, ◌∙◌, Some, None, Option, Bool, true, true≢false, arith}
use Rattle.std.specs.Prelude.{slice_get, Vec}
use Rattle.std.specs.List.{filter_map}
use Rattle.std.specs.declared.alloc.Global.{Global}
use Rattle.std.proofs.lemmas.List.Elements.{All-nil}
use Rattle.std.proofs.lemmas.Option.{same_Some, none-some}
use Rattle.grd_base.specs.declared.ids.ActionId.{ActionId}
use Rattle.grd_base.specs.declared.limits.Bound.{Bound}
use Rattle.grd_base.specs.declared.limits.Bound.TheVariants.{Steps, Never}
use Rattle.search_core.specs.declared.ways.Way.{Way}
use Rattle.search_core.specs.declared.nodes.Node.{Node}
use Rattle.search_core.specs.declared.queue.Ticket.{Ticket}
use Rattle.search_core.specs.declared.rows.LeastAnswer.TheVariants as answer
use Rattle.search_core.specs.declared.rows.KeptRow.{KeptRow}
use Rattle.search_core.specs.Spaces.{Successors, IsDoneWithin, IsAdmissible}
use Rattle.search_core.specs.Tables.{HasRow, HasNeverRow, AreRefuted, AreCounted}
use Rattle.search_core.specs.LeastAnswers.{CountsForLeast}
use Rattle.search_core.specs.Entries.{IsFresh}
use Rattle.search_core.specs.Nodes.{Entry, IsTotalAtMost, IsReachedIn, IsNode, IsAfter, AreNodes, AreLinked, HaveParents, IsWayTo}
use Rattle.search_core.specs.LeastRows.{row_of}
use Rattle.search_core.specs.Turns.{IsEntered, IsBetween, IsEnd, IsSpent, IsAnswer}
use Rattle.search_core.proofs.NodeLemmas.{nodes_entered, queued_entered, closed_entered, held_entered}
use Rattle.search_core.proofs.WaitLemmas.{SomeWaits, waiting_on_way}
use Rattle.search_core.proofs.MarkLemmas.{depth_at_most}
use Rattle.search_core.proofs.RowLemmas.{IsBelow, rows_refuted, rows_counted, start_row, start_never}

module _ {S M : Type 0} (next : Successors S) (is_done : S → Bool) (level : S → Option ℕ) (shows : S → M → Bound → Type 0) (start : S) (limit kept : ℕ) (xs : List (Entry S M)) where
  module _ (tickets : List Ticket) (nodes : AreNodes next is_done level shows start limit kept xs tickets) where
    pub linked : AreLinked next start xs
    linked = record { first = λ i e at low. (nodes.each i e at).first low; later = λ i e at above. (nodes.each i e at).later above }

    pub parents : HaveParents xs
    parents i e at above = let after : IsAfter next xs e.0 e.1.way = (nodes.each i e at).later above in (after.before, after.at, after.deeper)

  module _ (law : (s : S) (m : M) (b : Bound) → shows s m b → IsAdmissible next is_done (level s) s b) (tickets : List Ticket) where
    -- a path of least length
    module _ (place : ℕ) (end : IsEnd next is_done level shows start limit kept xs tickets place) (e : Entry S M) (at : slice_get xs place ≡ Some e) where
      is_here : end.taken.here.entry ≡ e
      is_here = same_Some _ _ (sym end.taken.here.at ∙ at)

      waits : e.1.waits ≡ true
      waits = ap (λ (f : Entry S M). f.1.waits) (sym is_here) ∙ end.taken.here.waits

      first : (i : ℕ) (f : Entry S M) (n : ℕ) → slice_get xs i ≡ Some f → f.1.waits ≡ true → IsTotalAtMost f.1.way.depth f.1.bound n → IsTotalAtMost e.1.way.depth e.1.bound n
      first i f n got still low = let P : Entry S M → Type 0 = λ g. IsTotalAtMost g.1.way.depth g.1.bound n in subst P is_here (end.taken.here.least i f n got still low)

      depth_least : (n : ℕ) → IsDoneWithin next is_done start n → e.1.way.depth ≤ n
      depth_least = depth_at_most next is_done level shows law start limit kept xs end.taken.before tickets end.taken.nodes end.taken.root end.taken.closed place e at waits first

      depth_late : (i : ℕ) (f : Entry S M) (n : ℕ) → slice_get xs i ≡ Some f → f.1.waits ≡ true → IsTotalAtMost f.1.way.depth f.1.bound n → e.1.way.depth ≤ n
      depth_late i f n got still low = by e.1.bound (first i f n got still low)
        where
          by : (b : Bound) → IsTotalAtMost e.1.way.depth b n → e.1.way.depth ≤ n
          by (Steps k) h = omega (arith, h)
          by Never h = absurd h

      pub found_answer : (path : Vec ActionId Global) (rows : Vec (KeptRow S M) Global) → IsWayTo next start e path.items → rows.items ≡ filter_map (row_of (Some e.1.way.depth)) xs
          → IsAnswer next is_done level shows start limit (answer.Found path rows)
      found_answer path rows way is =
          let done : is_done e.0 ≡ true = ap (λ (f : Entry S M). is_done f.0) (sym is_here) ∙ end.done in
          let within : IsDoneWithin next is_done start (length path.items) = record { path = path.items; end = e.0; leads = way.leads; short = omega arith; done = done } in
          let no_shorter : e.1.way.depth ≤ length path.items = depth_least (length path.items) within in
          let long : length path.items ≡ e.1.way.depth = omega (arith, no_shorter, way.no_longer) in
          let node : IsNode next is_done level shows start kept xs e = end.taken.nodes.each place e at in
          let R : List (KeptRow S M) → Type 0 = λ rs. AreRefuted next is_done shows rs in
          let C : List (KeptRow S M) → Type 0 = λ rs. AreCounted next (CountsForLeast next is_done level start) start limit rs in
          let H : List (KeptRow S M) → Type 0 = λ rs. HasRow rs start (length path.items - 1) in
          let N : ℕ → Type 0 = λ n. HasRow (filter_map (row_of (Some e.1.way.depth)) xs) start (n - 1) in
          record {
            right = record { end = e.0; leads = way.leads; done = done; least = λ n d. let h : e.1.way.depth ≤ n = depth_least n d in omega (arith, h, long); within_limit = omega (arith, long, node.early, end.taken.nodes.few) };
            refuted = subst R (sym is) (rows_refuted next is_done level shows law start limit kept xs end.taken.before end.taken.nodes end.taken.closed (Some e.1.way.depth) depth_least depth_late);
            start_row = λ some. subst H (sym is) (subst N (sym long) (start_row next is_done level shows law start limit kept xs end.taken.before end.taken.nodes end.taken.closed (Some e.1.way.depth) depth_least depth_late end.taken.root e.1.way.depth refl (omega (arith, some, long))));
            counted = subst C (sym is) (rows_counted next is_done level shows law start limit kept xs end.taken.before end.taken.nodes end.taken.closed (Some e.1.way.depth) depth_least depth_late);
          }

    -- none is reached
    module _ (spent : IsSpent next is_done level shows start limit kept xs tickets) where
      never_done : (n : ℕ) → IsDoneWithin next is_done start n → ⊥
      never_done n d =
          let w : SomeWaits xs n = waiting_on_way next is_done level shows law start limit kept xs spent.before spent.nodes spent.closed spent.root n d in
          true≢false (sym w.waits ∙ spent.none w.place w.entry w.at)

      none_late : (i : ℕ) (f : Entry S M) (n : ℕ) → slice_get xs i ≡ Some f → f.1.waits ≡ true → IsTotalAtMost f.1.way.depth f.1.bound n → IsBelow None n
      none_late i f n got still low = true≢false (sym still ∙ spent.none i f got)

      pub never_answer : (rows : Vec (KeptRow S M) Global) → rows.items ≡ filter_map (row_of None) xs → IsAnswer next is_done level shows start limit (answer.Never rows)
      never_answer rows is =
          let R : List (KeptRow S M) → Type 0 = λ rs. AreRefuted next is_done shows rs in
          let C : List (KeptRow S M) → Type 0 = λ rs. AreCounted next (CountsForLeast next is_done level start) start limit rs in
          let H : List (KeptRow S M) → Type 0 = λ rs. HasNeverRow rs start in
          record {
            right = never_done;
            refuted = subst R (sym is) (rows_refuted next is_done level shows law start limit kept xs spent.before spent.nodes spent.closed None never_done none_late);
            start_row = subst H (sym is) (start_never next is_done level shows law start limit kept xs spent.before spent.nodes spent.closed None never_done none_late spent.root refl);
            counted = subst C (sym is) (rows_counted next is_done level shows law start limit kept xs spent.before spent.nodes spent.closed None never_done none_late);
          }

-- the start alone
module _ {S M : Type 0} (next : Successors S) (is_done : S → Bool) (level : S → Option ℕ) (shows : S → M → Bound → Type 0) (start : S) (limit : ℕ) where
  nothing : AreNodes {M = M} next is_done level shows start limit 0 [] []
  nothing = record { each = λ i e at. absurd (none-some e at); apart = λ i j e f at_e at_f same. absurd (none-some e at_e); kept_is = refl; few = omega arith; issued = All-nil _ }

  pub between_first : (kept : ℕ) (xs : List (Entry S M)) (tickets : List Ticket) (way : Way) → kept ≡ 0 → way.depth ≡ 0 → IsEntered shows [] xs [] tickets start way → IsBetween next is_done level shows start limit kept xs tickets
  between_first kept xs tickets way none at_zero entered =
      let fresh : IsFresh {X = Node M} [] start = λ held. none-some held.entry held.at in
      let P : ℕ → Type 0 = λ n. IsBetween next is_done level shows start limit n xs tickets in
      let reached : IsReachedIn next start start way.depth = record { walk = []; steps = tt; ends = refl; long = sym at_zero } in
      let later = λ (above : 0 < way.depth). absurd (omega (arith, above, at_zero)) in
      subst P (sym none) (record {
        nodes = nodes_entered next is_done level shows start limit 0 [] xs [] tickets start way nothing fresh entered (omega (arith, at_zero)) reached (λ _. refl) later;
        root = held_entered next is_done level shows start limit 0 [] xs [] tickets start way nothing fresh entered 0 (omega (arith, at_zero));
        queued = queued_entered next is_done level shows start limit 0 [] xs [] tickets start way nothing fresh entered (omega (arith, at_zero)) reached (λ _. refl) later (λ i e at. absurd (none-some e at));
        closed = λ i e at expanded still. closed_entered next is_done level shows start limit 0 [] xs [] tickets start way nothing fresh entered (suc i) (λ j f other at_f. absurd (none-some f at_f)) i e (λ here. omega (arith, here)) at expanded still;
      })
