-- The steps of a best-first search, as its functions tell them.
use Rattle.std.proofs.Common.{◌≡◌, ℕ, ◌+◌, ◌-◌, ◌*◌, ◌<◌, ◌≤◌, List, [], ◌∷◌, ◌++◌, refl, sym, ap, subst, ◌∙◌, inl, inr, Some, Option, Bool, true, false, arith}
use Rattle.std.specs.Prelude.{Contains, slice_get}
use Rattle.std.proofs.lemmas.Bool.{cases_eq}
use Rattle.std.proofs.lemmas.List.{length-append}
use Rattle.std.proofs.lemmas.List.Elements.{All-contains, All-push}
use Rattle.std.proofs.lemmas.Option.{same_Some}
use Rattle.indexmap.specs.Layout.{set_value_at}
use Rattle.grd_base.specs.declared.ids.ActionId.{ActionId}
use Rattle.grd_base.specs.declared.limits.Bound.{Bound}
use Rattle.grd_base.specs.Counts.{MoreThan}
use Rattle.search_core.specs.declared.ways.Way.{Way}
use Rattle.search_core.specs.declared.queue.Ticket.{Ticket}
use Rattle.search_core.specs.Spaces.{Successors, IsAdmissible}
use Rattle.search_core.specs.LeastAnswers.{CountsForLeast}
use Rattle.search_core.specs.Entries.{IsHeldAt, IsFresh}
use Rattle.search_core.specs.Nodes.{Entry, IsHeldBy, IsNoDeeper, IsTotalAtMost, IsReachedIn, IsAfter, IsNode, AreHeldBy, AreClosed, AreNodes}
use Rattle.search_core.specs.Turns.{IsEased, IsEntered, IsLowered, IsLeft, IsReopened, IsMarked, IsNext, IsExpanding, IsBetween, IsTakenOut, IsStep, IsEnd, IsSpent, NoneWaits, IsStepOf, AreStepsOf, lowered, marked, measure}
use Rattle.search_core.proofs.PlaceLemmas.{get_push_old}
use Rattle.search_core.proofs.WalkLemmas.{IsWalk-push, end_of-push}
use Rattle.search_core.proofs.EasedLemmas.{eased_refl, eased_trans, held_eased, all_held_eased}
use Rattle.search_core.proofs.NodeLemmas.{eased_entered, nodes_entered, queued_entered, closed_entered, weight_entered, held_entered}
use Rattle.search_core.proofs.SetLemmas.{eased_lowered, nodes_lowered, queued_lowered, closed_lowered, weight_lowered, head_lowered, held_lowered}
use Rattle.search_core.proofs.MarkLemmas.{mark_first, mark_again, lighter_first, lighter_again, too_many}

reached_more : {S : Type 0} (next : Successors S) (start s : S) (depth : ℕ) (step : ActionId × S) → IsReachedIn next start s depth → Contains (next s) step → IsReachedIn next start step.1 (depth + 1)
reached_more {S} next start s depth step h has =
    let P : S → Type 0 = λ t. Contains (next t) step in
    record {
      walk = h.walk ++ step ∷ [];
      steps = IsWalk-push next start h.walk step h.steps (subst P (sym h.ends) has);
      ends = end_of-push start h.walk step;
      long = omega (arith, length-append h.walk (step ∷ []), h.long);
    }

module _ {S M : Type 0} (next : Successors S) (is_done : S → Bool) (level : S → Option ℕ) (shows : S → M → Bound → Type 0) (start : S) (limit : ℕ) where
  -- a state that was taken out
  module _ (law : (s : S) (m : M) (b : Bound) → shows s m b → IsAdmissible next is_done (level s) s b) (kept : ℕ) (xs ys : List (Entry S M)) (tickets : List Ticket) (place : ℕ)
      (taken : IsTakenOut next is_done level shows start limit kept xs tickets place) (e : Entry S M) (at : slice_get xs place ≡ Some e) where
    is_here : taken.here.entry ≡ e
    is_here = same_Some _ _ (sym taken.here.at ∙ at)

    waits : e.1.waits ≡ true
    waits = ap (λ (f : Entry S M). f.1.waits) (sym is_here) ∙ taken.here.waits

    least : (i : ℕ) (f : Entry S M) (n : ℕ) → slice_get xs i ≡ Some f → f.1.waits ≡ true → IsTotalAtMost f.1.way.depth f.1.bound n → IsTotalAtMost e.1.way.depth e.1.bound n
    least i f n got still low = let P : Entry S M → Type 0 = λ g. IsTotalAtMost g.1.way.depth g.1.bound n in subst P is_here (taken.here.least i f n got still low)

    pub take_many : e.1.expanded ≡ false → limit ≤ kept → MoreThan limit (CountsForLeast next is_done level start)
    take_many fresh full = too_many next is_done level shows law start limit kept xs taken.before tickets taken.nodes taken.root taken.closed place e at waits least fresh full

    module _ (s : S) (held : IsHeldAt xs s place) (not_done : is_done s ≡ false) (depth : ℕ) (mark : IsMarked xs ys place depth) where
      state_is : e.0 ≡ s
      state_is = ap (λ (f : Entry S M). f.0) (same_Some _ _ (sym at ∙ held.at)) ∙ held.state_is

      undone : is_done e.0 ≡ false
      undone = ap is_done state_is ∙ not_done

      marked_is : e ≡ mark.entry
      marked_is = same_Some _ _ (sym at ∙ mark.at)

      changed : ys ≡ set_value_at xs place (marked e.1)
      changed = mark.changed ∙ ap (λ (f : Entry S M). set_value_at xs place (marked f.1)) (sym marked_is)

      deep : e.1.way.depth ≡ depth
      deep = ap (λ (f : Entry S M). f.1.way.depth) marked_is ∙ mark.depth_is

      moved : (now : ℕ) → IsExpanding next is_done level shows start limit now (set_value_at xs place (marked e.1)) tickets place e.1.way.depth e.0 → IsExpanding next is_done level shows start limit now ys tickets place depth s
      moved now h =
          let P : List (Entry S M) → Type 0 = λ zs. IsExpanding next is_done level shows start limit now zs tickets place depth s in
          let Q : ℕ → Type 0 = λ d. IsExpanding next is_done level shows start limit now (set_value_at xs place (marked e.1)) tickets place d s in
          let R : S → Type 0 = λ t. IsExpanding next is_done level shows start limit now (set_value_at xs place (marked e.1)) tickets place e.1.way.depth t in
          subst P (sym changed) (subst Q deep (subst R state_is h))

      pub take_first : e.1.expanded ≡ false → kept < limit → IsExpanding next is_done level shows start limit (kept + 1) ys tickets place depth s
      take_first fresh room = moved (kept + 1) (mark_first next is_done level shows law start limit kept xs taken.before tickets taken.nodes taken.root taken.closed place e at waits least undone taken.here.issued taken.here.queued fresh room)

      pub take_again : e.1.expanded ≡ true → IsExpanding next is_done level shows start limit kept ys tickets place depth s
      take_again again = moved kept (mark_again next is_done level shows law start limit kept xs taken.before tickets taken.nodes taken.root taken.closed place e at waits least undone taken.here.issued taken.here.queued again)

      pub take_lighter_first : e.1.expanded ≡ false → kept < limit → measure limit (kept + 1) ys < measure limit kept xs
      take_lighter_first fresh room =
          let P : List (Entry S M) → Type 0 = λ zs. measure limit (kept + 1) zs < measure limit kept xs in
          subst P (sym changed) (lighter_first next is_done level shows law start limit kept xs taken.before tickets taken.nodes taken.root taken.closed place e at waits least undone taken.here.issued taken.here.queued fresh room)

      pub take_lighter_again : e.1.expanded ≡ true → measure limit kept ys < measure limit kept xs
      take_lighter_again again =
          let P : List (Entry S M) → Type 0 = λ zs. measure limit kept zs < measure limit kept xs in
          subst P (sym changed) (lighter_again next is_done level shows law start limit kept xs taken.before tickets taken.nodes taken.root taken.closed place e at waits least undone taken.here.issued taken.here.queued again)

  -- a step from the state that is expanded
  module _ (kept : ℕ) (xs : List (Entry S M)) (tickets : List Ticket) (place depth : ℕ) (s : S) (work : IsExpanding next is_done level shows start limit kept xs tickets place depth s) where
    head_node : IsNode next is_done level shows start kept xs work.head.entry
    head_node = work.nodes.each place work.head.entry work.head.at

    pub depth_below : depth + 1 ≤ kept
    depth_below = let h : work.head.entry.1.way.depth + 1 ≤ kept = (head_node.expanded work.head.expanded).earlier in omega (arith, h, work.head.depth_is)

    pub depth_below_limit : depth + 1 ≤ limit
    depth_below_limit = omega (arith, depth_below, work.nodes.few)

    pub work_same : IsStep next is_done level shows start limit kept kept xs xs tickets place depth s
    work_same = record { expanding = work; same = refl; eased = eased_refl xs; no_heavier = omega arith }

    module _ (step : ActionId × S) (has : Contains (next s) step) where
      reached : IsReachedIn next start step.1 (depth + 1)
      reached =
          let P : S → Type 0 = λ t. IsReachedIn next start t work.head.entry.1.way.depth in
          let Q : ℕ → Type 0 = λ d. IsReachedIn next start s d in
          reached_more next start s depth step (subst Q work.head.depth_is (subst P work.head.state_is head_node.reached)) has

      after : (way : Way) → way.parent ≡ place → way.depth ≡ depth + 1 → way.action ≡ step.0 → IsAfter next xs step.1 way
      after way parent deep action =
          let P : ℕ → Type 0 = λ n. slice_get xs n ≡ Some work.head.entry in
          let Q : S → Type 0 = λ t. Contains (next t) (way.action, step.1) in
          let A : ActionId → Type 0 = λ a. Contains (next s) (a, step.1) in
          record {
            before = work.head.entry;
            at = subst P (sym parent) work.head.at;
            step = subst Q (sym work.head.state_is) (subst A (sym action) has);
            deeper = omega (arith, work.head.depth_is, deep);
          }

      module _ (way : Way) (parent : way.parent ≡ place) (deep : way.depth ≡ depth + 1) (action : way.action ≡ step.0) (ys : List (Entry S M)) (more : List Ticket) where
        -- to a state that is new
        module _ (fresh : IsFresh xs step.1) (entered : IsEntered shows xs ys tickets more step.1 way) where
          reached_way : IsReachedIn next start step.1 way.depth
          reached_way = let P : ℕ → Type 0 = λ d. IsReachedIn next start step.1 d in subst P (sym deep) reached

          pub visit_entered : IsStep next is_done level shows start limit kept kept xs ys more place depth s
          visit_entered =
              let early : way.depth ≤ kept = omega (arith, depth_below, deep) in
              let first : way.depth ≡ 0 → step.1 ≡ start = λ zero. absurd (omega (arith, zero, deep)) in
              let later : 0 < way.depth → IsAfter next xs step.1 way = λ above. after way parent deep action in
              record {
                expanding = record {
                  nodes = nodes_entered next is_done level shows start limit kept xs ys tickets more step.1 way work.nodes fresh entered early reached_way first later;
                  root = held_eased xs ys (eased_entered next is_done level shows start limit kept xs ys tickets more step.1 way work.nodes fresh entered) start 0 work.root;
                  queued = queued_entered next is_done level shows start limit kept xs ys tickets more step.1 way work.nodes fresh entered early reached_way first later work.queued;
                  closed = closed_entered next is_done level shows start limit kept xs ys tickets more step.1 way work.nodes fresh entered place work.closed;
                  head = record {
                    entry = work.head.entry;
                    at = let P : List (Entry S M) → Type 0 = λ zs. slice_get zs place ≡ Some work.head.entry in subst P (sym entered.pushed) (get_push_old xs entered.entry place work.head.entry work.head.at);
                    state_is = work.head.state_is;
                    depth_is = work.head.depth_is;
                    waits = work.head.waits;
                    expanded = work.head.expanded;
                  };
                };
                same = refl;
                eased = eased_entered next is_done level shows start limit kept xs ys tickets more step.1 way work.nodes fresh entered;
                no_heavier = omega (arith, weight_entered next is_done level shows start limit kept xs ys tickets more step.1 way work.nodes fresh entered);
              }

          pub visit_entered_held : IsHeldBy ys step.1 (depth + 1)
          visit_entered_held = held_entered next is_done level shows start limit kept xs ys tickets more step.1 way work.nodes fresh entered (depth + 1) (omega (arith, deep))

        -- to one that was found
        module _ (at : ℕ) (held : IsHeldAt xs step.1 at) (low : IsLowered xs ys tickets more at way) where
          found_is : low.entry.0 ≡ step.1
          found_is = ap (λ (f : Entry S M). f.0) (same_Some _ _ (sym low.at ∙ held.at)) ∙ held.state_is

          left : IsLeft xs ys tickets more low.entry way → IsStep next is_done level shows start limit kept kept xs ys more place depth s × IsHeldBy ys step.1 (depth + 1)
          left l =
              let P : List (Entry S M) → Type 0 = λ zs. IsStep next is_done level shows start limit kept kept xs zs more place depth s in
              let Q : List Ticket → Type 0 = λ ts. IsStep next is_done level shows start limit kept kept xs xs ts place depth s in
              let H : List (Entry S M) → Type 0 = λ zs. IsHeldBy zs step.1 (depth + 1) in
              let D : ℕ → Type 0 = λ d. IsNoDeeper low.entry.1.bound low.entry.1.way.depth d in
              (subst P (sym l.same) (subst Q (sym l.queue) work_same), subst H (sym l.same) (record { place = at; entry = low.entry; at = low.at; state_is = found_is; no_deeper = subst D deep l.no_deeper }))

          module _ (r : IsReopened xs ys tickets more at low.entry way) where
            zs : List (Entry S M)
            zs = set_value_at xs at (lowered low.entry.1 way)

            reached_entry : IsReachedIn next start low.entry.0 way.depth
            reached_entry =
                let P : ℕ → Type 0 = λ d. IsReachedIn next start step.1 d in
                let Q : S → Type 0 = λ t. IsReachedIn next start t way.depth in
                subst Q (sym found_is) (subst P (sym deep) reached)

            after_entry : 0 < way.depth → IsAfter next xs low.entry.0 way
            after_entry above = let Q : S → Type 0 = λ t. IsAfter next xs t way in subst Q (sym found_is) (after way parent deep action)

            reopened_at : IsStep next is_done level shows start limit kept kept xs (set_value_at xs at (lowered low.entry.1 way)) more place depth s
            reopened_at =
                let early : way.depth ≤ kept = omega (arith, depth_below, deep) in
                let first : way.depth ≡ 0 → low.entry.0 ≡ start = λ zero. absurd (omega (arith, zero, deep)) in
                let eased : IsEased xs (set_value_at xs at (lowered low.entry.1 way)) = eased_lowered next is_done level shows start limit kept xs tickets more work.nodes at low.entry low.at way r.deeper r.queued in
                record {
                  expanding = record {
                    nodes = nodes_lowered next is_done level shows start limit kept xs tickets more work.nodes at low.entry low.at way r.deeper r.queued early reached_entry first after_entry;
                    root = held_eased xs (set_value_at xs at (lowered low.entry.1 way)) eased start 0 work.root;
                    queued = queued_lowered next is_done level shows start limit kept xs tickets more work.nodes at low.entry low.at way r.deeper r.queued work.queued;
                    closed = closed_lowered next is_done level shows start limit kept xs tickets more work.nodes at low.entry low.at way r.deeper r.queued place work.closed;
                    head = head_lowered next is_done level shows start limit kept xs tickets more work.nodes at low.entry low.at way r.deeper r.queued place depth s (omega (arith, deep)) work.head;
                  };
                  same = refl;
                  eased = eased;
                  no_heavier = weight_lowered next is_done level shows start limit kept xs tickets more work.nodes at low.entry low.at way r.deeper r.queued;
                }

            reopened : IsStep next is_done level shows start limit kept kept xs ys more place depth s × IsHeldBy ys step.1 (depth + 1)
            reopened =
                let P : List (Entry S M) → Type 0 = λ us. IsStep next is_done level shows start limit kept kept xs us more place depth s in
                let H : List (Entry S M) → Type 0 = λ us. IsHeldBy us step.1 (depth + 1) in
                let T : S → Type 0 = λ t. IsHeldBy (set_value_at xs at (lowered low.entry.1 way)) t (depth + 1) in
                (subst P (sym r.changed) reopened_at, subst H (sym r.changed) (subst T found_is (held_lowered next is_done level shows start limit kept xs tickets more work.nodes at low.entry low.at way r.deeper r.queued (depth + 1) (omega (arith, deep)))))

          pub visit_lowered : IsStep next is_done level shows start limit kept kept xs ys more place depth s × IsHeldBy ys step.1 (depth + 1)
          visit_lowered = elim low.by [ inl l ↦ left l | inr r ↦ reopened r ]

  -- one step after others
  pub step_trans : (kept now last : ℕ) (xs ys zs : List (Entry S M)) (tickets more : List Ticket) (place depth : ℕ) (s : S)
      → IsStep next is_done level shows start limit kept now xs ys tickets place depth s → IsStep next is_done level shows start limit now last ys zs more place depth s → IsStep next is_done level shows start limit kept last xs zs more place depth s
  step_trans kept now last xs ys zs tickets more place depth s a b = record { expanding = b.expanding; same = b.same ∙ a.same; eased = eased_trans xs ys zs a.eased b.eased; no_heavier = omega (arith, a.no_heavier, b.no_heavier) }

  -- all steps were followed
  pub between_after : (kept : ℕ) (xs : List (Entry S M)) (tickets : List Ticket) (place depth : ℕ) (s : S) → IsExpanding next is_done level shows start limit kept xs tickets place depth s → AreHeldBy xs (depth + 1) (next s)
      → IsBetween next is_done level shows start limit kept xs tickets
  between_after kept xs tickets place depth s work held = record { nodes = work.nodes; root = work.root; queued = work.queued; closed = closed }
    where
      closed : AreClosed next xs
      closed i f at expanded still = elim (cases_eq i place) [
        | inl here ↦
            let is : work.head.entry ≡ f = same_Some _ _ (sym work.head.at ∙ ap (λ n. slice_get xs n) (sym here) ∙ at) in
            let P : Entry S M → Type 0 = λ g. AreHeldBy xs (g.1.way.depth + 1) (next g.0) in
            let Q : S → Type 0 = λ t. AreHeldBy xs (depth + 1) (next t) in
            let D : ℕ → Type 0 = λ d. AreHeldBy xs (d + 1) (next work.head.entry.0) in
            subst P is (subst D (sym work.head.depth_is) (subst Q (sym work.head.state_is) held))
        | inr other ↦ work.closed i f other at expanded still
      ]

  pub lighter_after : (kept now : ℕ) (xs ys : List (Entry S M)) (tickets : List Ticket) (place depth : ℕ) (s : S) (n : ℕ) → measure limit kept xs < n → IsStep next is_done level shows start limit kept now xs ys tickets place depth s → measure limit now ys < n
  lighter_after kept now xs ys tickets place depth s n less step =
      let same : (limit - now) * (2 * limit + 2) ≡ (limit - kept) * (2 * limit + 2) = ap (λ k. (limit - k) * (2 * limit + 2)) step.same in
      omega (arith, same, step.no_heavier, less)

-- one of these steps
pub step_of : {S : Type 0} (next : Successors S) (s : S) (steps : List (ActionId × S)) (step : ActionId × S) → AreStepsOf next s steps → Contains steps step → IsStepOf next s step
step_of {S} next s steps step all has = All-contains (λ (t : ActionId × S). Contains (next s) t) steps step all has

-- the steps so far and one more
pub held_next : {S M : Type 0} (xs ys : List (Entry S M)) (depth : ℕ) (done : List (ActionId × S)) (step : ActionId × S) → IsEased xs ys → AreHeldBy xs depth done → IsHeldBy ys step.1 depth → AreHeldBy ys depth (done ++ step ∷ [])
held_next {S} {M} xs ys depth done step eased held one = All-push (λ (t : ActionId × S). IsHeldBy ys t.1 depth) done step (all_held_eased xs ys eased depth done held) one

module _ {S M : Type 0} (next : Successors S) (is_done : S → Bool) (level : S → Option ℕ) (shows : S → M → Bound → Type 0) (start : S) (limit : ℕ) where
  -- a state is taken out
  module _ (kept now : ℕ) (xs ys : List (Entry S M)) (before : List Ticket) (same : ys ≡ xs) (same_kept : now ≡ kept) (between : IsBetween next is_done level shows start limit kept xs before) where
    module _ (tickets : List Ticket) (place : ℕ) (here : IsNext ys tickets place) where
      pub taken_of : IsTakenOut next is_done level shows start limit now ys tickets place
      taken_of =
          let P : List (Entry S M) → Type 0 = λ zs. AreNodes next is_done level shows start limit now zs before in
          let Q : ℕ → Type 0 = λ n. AreNodes next is_done level shows start limit n xs before in
          let R : List (Entry S M) → Type 0 = λ zs. IsHeldBy zs start 0 in
          let C : List (Entry S M) → Type 0 = λ zs. AreClosed next zs in
          record { before = before; nodes = subst P (sym same) (subst Q (sym same_kept) between.nodes); root = subst R (sym same) between.root; closed = subst C (sym same) between.closed; here = here }

      -- and is done
      pub end_of_search : (e : Entry S M) → slice_get ys place ≡ Some e → true ≡ is_done e.0 → IsEnd next is_done level shows start limit now ys tickets place
      unfolding taken_of
      end_of_search e at done = record { taken = taken_of; done = ap (λ (f : Entry S M). is_done f.0) (same_Some _ _ (sym here.at ∙ at)) ∙ sym done }

    -- none is left
    pub spent_of : (tickets : List Ticket) → NoneWaits ys → IsSpent next is_done level shows start limit now ys tickets
    spent_of tickets none =
        let P : List (Entry S M) → Type 0 = λ zs. AreNodes next is_done level shows start limit now zs before in
        let Q : ℕ → Type 0 = λ n. AreNodes next is_done level shows start limit n xs before in
        let R : List (Entry S M) → Type 0 = λ zs. IsHeldBy zs start 0 in
        let C : List (Entry S M) → Type 0 = λ zs. AreClosed next zs in
        record { before = before; nodes = subst P (sym same) (subst Q (sym same_kept) between.nodes); root = subst R (sym same) between.root; closed = subst C (sym same) between.closed; none = none }
