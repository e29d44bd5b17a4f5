-- A state that is taken out of the queue is expanded.
use Rattle.std.proofs.Common.{◌≡◌, ◌≢◌, ℕ, ◌+◌, ◌-◌, ◌*◌, ◌<◌, ◌≤◌, List, ◌∷◌, length, refl, sym, ap, subst, ◌∙◌, inl, inr, Some, None, Option, Bool, true, false, true≢false, arith}
use Rattle.std.specs.Prelude.{All, slice_get}
use Rattle.std.proofs.lemmas.List.{length-map}
use Rattle.std.proofs.lemmas.List.Elements.{All-cons}
use Rattle.std.proofs.lemmas.List.Kept.{AllPairs-cons}
use Rattle.std.proofs.lemmas.Option.{same_Some}
use Rattle.indexmap.specs.Layout.{set_value_at}
use Rattle.grd_base.specs.declared.ids.ActionId.{ActionId}
use Rattle.grd_base.specs.declared.limits.Bound.{Bound}
use Rattle.grd_base.specs.declared.limits.Bound.TheVariants.{Steps, Never}
use Rattle.grd_base.specs.Counts.{MoreThan}
use Rattle.search_core.specs.declared.queue.Ticket.{Ticket}
use Rattle.search_core.specs.Spaces.{Successors, actions_of, IsPath, IsDoneWithin, IsAdmissible, IsAtLeastLevel}
use Rattle.search_core.specs.LeastAnswers.{CountsForLeast}
use Rattle.search_core.specs.Nodes.{Entry, IsHeldBy, IsTotalAtMost, IsPlaced, IsExpanded, IsNode, IsTicket, IsReachedIn, AreQueuedBut, AreClosed, AreNodes, one_if, expanded_count, weight_of, weight}
use Rattle.search_core.specs.Turns.{IsEased, IsExpanding, marked, measure}
use Rattle.search_core.proofs.PlaceLemmas.{get_set_cases, get_set_here}
use Rattle.search_core.proofs.EasedLemmas.{after_eased, tickets_eased, all_held_eased, held_eased, eased_set}
use Rattle.search_core.proofs.SetLemmas.{nodes_set, count_set, weight_set}
use Rattle.search_core.proofs.PickLemmas.{expanded_states, expanded_all, expanded_distinct, expanded_length}
use Rattle.search_core.proofs.WaitLemmas.{SomeWaits, waiting_on_way}

-- the path of a walk
pub path_of : {S : Type 0} (next : Successors S) (start s : S) (depth : ℕ) (h : IsReachedIn next start s depth) → IsPath next start (actions_of h.walk) s
path_of next start s depth h = record { walk = h.walk; steps = h.steps; carries = refl; ends = h.ends }

pub path_long : {S : Type 0} (next : Successors S) (start s : S) (depth : ℕ) (h : IsReachedIn next start s depth) → length (actions_of h.walk) ≡ depth
path_long {S} next start s depth h = length-map h.walk (λ (t : ActionId × S). t.0) ∙ h.long

module _ {S M : Type 0} (next : Successors S) (is_done : S → Bool) (level : S → Option ℕ) (shows : S → M → Bound → Type 0) (law : (s : S) (m : M) (b : Bound) → shows s m b → IsAdmissible next is_done (level s) s b)
    (start : S) (limit kept : ℕ) (xs : List (Entry S M)) (before tickets : List Ticket) (nodes : AreNodes next is_done level shows start limit kept xs before) (root : IsHeldBy xs start 0) (closed : AreClosed next xs)
    (place : ℕ) (e : Entry S M) (at : slice_get xs place ≡ Some e) (waits : e.1.waits ≡ true)
    (least : (i : ℕ) (f : Entry S M) (n : ℕ) → slice_get xs i ≡ Some f → f.1.waits ≡ true → IsTotalAtMost f.1.way.depth f.1.bound n → IsTotalAtMost e.1.way.depth e.1.bound n) where
  -- no path to a done state is shorter than the total of what was taken out
  pub total_at_most : (n : ℕ) → IsDoneWithin next is_done start n → IsTotalAtMost e.1.way.depth e.1.bound n
  total_at_most n d =
      let w : SomeWaits xs n = waiting_on_way next is_done level shows law start limit kept xs before nodes closed root n d in
      least w.place w.entry n w.at w.waits w.low

  pub depth_at_most : (n : ℕ) → IsDoneWithin next is_done start n → e.1.way.depth ≤ n
  depth_at_most n d = by e.1.bound (total_at_most n d)
    where
      by : (b : Bound) → IsTotalAtMost e.1.way.depth b n → e.1.way.depth ≤ n
      by (Steps k) h = omega (arith, h)
      by Never h = absurd h

  -- so it counts
  counts_by : (b : Bound) (l : Option ℕ) → e.1.bound ≡ b → level e.0 ≡ l → IsPlaced b true e.1.expanded → IsAtLeastLevel b l → CountsForLeast next is_done level start e.0
  counts_by (Steps k) (Some height) bound is placed above =
      let reached : IsReachedIn next start e.0 e.1.way.depth = (nodes.each place e at).reached in
      record {
        path = actions_of reached.walk;
        leads = path_of next start e.0 e.1.way.depth reached;
        height = height;
        level_is = is;
        near = λ n d.
            let P : Bound → Type 0 = λ b. IsTotalAtMost e.1.way.depth b n in
            let total : e.1.way.depth + k ≤ n = subst P bound (total_at_most n d) in
            omega (arith, total, above, path_long next start e.0 e.1.way.depth reached);
      }
  counts_by (Steps k) None bound is placed never = absurd (not_never never)
    where
      steps : Bound → ℕ
      steps (Steps n) = 0
      steps Never = 1

      not_never : Steps k ≡ Never → ⊥
      not_never same = let h : 0 ≡ 1 = ap steps same in omega (arith, h)
  counts_by Never l bound is placed above = absurd (true≢false placed.0)

  pub counts : CountsForLeast next is_done level start e.0
  counts =
      let node : IsNode next is_done level shows start kept xs e = nodes.each place e at in
      let P : Bool → Type 0 = λ b. IsPlaced e.1.bound b e.1.expanded in
      counts_by e.1.bound (level e.0) refl refl (subst P waits node.placed) (law e.0 e.1.mark e.1.bound node.shown).above_level

  -- no room for one more
  pub too_many : e.1.expanded ≡ false → limit ≤ kept → MoreThan limit (CountsForLeast next is_done level start)
  too_many fresh full = record {
    items = e.0 ∷ expanded_states xs;
    many = omega (arith, expanded_length xs, nodes.kept_is, full);
    differ = AllPairs-cons (λ a b. a ≢ b) e.0 (expanded_states xs)
        (expanded_all (λ t. e.0 ≢ t) xs (λ i f got expanded same.
        let here : place ≡ i = nodes.apart place i e f at got same in
        let is : e ≡ f = same_Some e f (sym at ∙ ap (λ n. slice_get xs n) here ∙ got) in
        absurd (true≢false (sym expanded ∙ ap (λ (g : Entry S M). g.1.expanded) (sym is) ∙ fresh))))
        (expanded_distinct xs nodes.apart);
    have = All-cons (CountsForLeast next is_done level start) e.0 (expanded_states xs) counts
        (expanded_all (CountsForLeast next is_done level start) xs (λ i f got expanded. ((nodes.each i f got).expanded expanded).counts));
  }

  module _ (not_done : is_done e.0 ≡ false) (issued : All (IsTicket xs) tickets) (queued : AreQueuedBut xs tickets place) where
    ys : List (Entry S M)
    ys = set_value_at xs place (marked e.1)

    eased : IsEased xs ys
    unfolding ys
    eased = eased_set xs place (marked e.1) e at (omega arith) refl

    placed_marked : (b : Bound) → IsPlaced b true e.1.expanded → IsPlaced b false true
    placed_marked (Steps k) placed = inr refl
    placed_marked Never placed = absurd (true≢false placed.0)

    module _ (now : ℕ) (more : kept ≤ now) (few : now ≤ limit) (expanded : IsExpanded next is_done level start now e.0 e.1.way.depth) (count : now + one_if e.1.expanded ≡ kept + 1) where
      marked_node : IsNode next is_done level shows start now ys (e.0, marked e.1)
      marked_node =
          let node : IsNode next is_done level shows start kept xs e = nodes.each place e at in
          let P : Bool → Type 0 = λ b. IsPlaced e.1.bound b e.1.expanded in
          record {
            reached = node.reached;
            shown = node.shown;
            early = omega (arith, more, node.early);
            first = node.first;
            later = λ above. after_eased xs ys eased next e.0 e.1.way (node.later above);
            placed = placed_marked e.1.bound (subst P waits node.placed);
            expanded = λ is. expanded;
          }

      nodes_marked : AreNodes next is_done level shows start limit now ys tickets
      unfolding ys
      nodes_marked =
          nodes_set next is_done level shows start limit kept xs before nodes place e at (marked e.1) (omega arith) refl now tickets more few marked_node
          (let c : expanded_count ys + one_if e.1.expanded ≡ kept + 1 = count_set next is_done level shows start limit kept xs before nodes place e at (marked e.1) (omega arith) refl in omega (arith, c, count))
          (tickets_eased xs ys eased tickets issued)

      pub expanding_marked : IsExpanding next is_done level shows start limit now (set_value_at xs place (marked e.1)) tickets place e.1.way.depth e.0
      unfolding ys
      expanding_marked = record {
        nodes = nodes_marked;
        root = held_eased xs ys eased start 0 root;
        queued = λ i f at_f still. elim (get_set_cases xs place (marked e.1) i f at_f) [
          | inl k ↦ queued i f k.other k.at still
          | inr k ↦ absurd (true≢false (sym still ∙ ap (λ (h : Entry S M). h.1.waits) (sym k.is)))
        ];
        closed = λ i f other at_f is still. elim (get_set_cases xs place (marked e.1) i f at_f) [
          | inl k ↦ all_held_eased xs ys eased (f.1.way.depth + 1) (next f.0) (closed i f k.at is still)
          | inr k ↦ absurd (other k.here)
        ];
        head = record { entry = (e.0, marked e.1); at = get_set_here xs place (marked e.1) e at; state_is = refl; depth_is = refl; waits = refl; expanded = refl };
      }

    -- for the first time
    expanded_first : IsExpanded next is_done level start (kept + 1) e.0 e.1.way.depth
    expanded_first = record { counts = counts; not_done = not_done; earlier = omega (arith, (nodes.each place e at).early) }

    pub mark_first : e.1.expanded ≡ false → kept < limit → IsExpanding next is_done level shows start limit (kept + 1) (set_value_at xs place (marked e.1)) tickets place e.1.way.depth e.0
    mark_first fresh room =
        let none : one_if e.1.expanded ≡ 0 = ap one_if fresh in
        expanding_marked (kept + 1) (omega arith) (omega (arith, room)) expanded_first (omega (arith, none))

    heavier : weight (set_value_at xs place (marked e.1)) + weight_of e.1.expanded e.1.waits e.1.way.depth ≡ weight xs + 2 * e.1.way.depth
    heavier = weight_set next is_done level shows start limit kept xs before nodes place e at (marked e.1) (omega arith) refl

    times_more : (m k : ℕ) → (m + 1) * k ≡ m * k + k
    times_more m k = omega arith

    pub lighter_first : e.1.expanded ≡ false → kept < limit → measure limit (kept + 1) (set_value_at xs place (marked e.1)) < measure limit kept xs
    lighter_first fresh room =
        let a : weight_of e.1.expanded e.1.waits e.1.way.depth ≡ 0 = ap (λ b. weight_of b e.1.waits e.1.way.depth) fresh in
        let up : (limit - kept) * (2 * limit + 2) ≡ (limit - (kept + 1)) * (2 * limit + 2) + (2 * limit + 2) =
        ap (λ n. n * (2 * limit + 2)) (let s : limit - kept ≡ (limit - (kept + 1)) + 1 = omega (arith, room) in s) ∙ times_more (limit - (kept + 1)) (2 * limit + 2) in
        omega (arith, a, heavier, up, (nodes.each place e at).early, room)

    -- and again
    pub mark_again : e.1.expanded ≡ true → IsExpanding next is_done level shows start limit kept (set_value_at xs place (marked e.1)) tickets place e.1.way.depth e.0
    mark_again before_now =
        let one : one_if e.1.expanded ≡ 1 = ap one_if before_now in
        expanding_marked kept (omega arith) nodes.few ((nodes.each place e at).expanded before_now) (omega (arith, one))

    pub lighter_again : e.1.expanded ≡ true → measure limit kept (set_value_at xs place (marked e.1)) < measure limit kept xs
    lighter_again before_now =
        let a : weight_of e.1.expanded e.1.waits e.1.way.depth ≡ 2 * e.1.way.depth + 1 = ap (λ b. weight_of b e.1.waits e.1.way.depth) before_now ∙ ap (λ b. weight_of true b e.1.way.depth) waits in
        omega (arith, a, heavier)
