-- What is known after a step is followed, after a state is expanded, and after all are.
use Rattle.std.proofs.Common.{◌≡◌, ℕ, zero, suc, ◌+◌, ◌<◌, ◌≤◌, List, [], ◌∷◌, ◌++◌, length, refl, sym, ap, subst, ◌∙◌, inl, inr, Some, None, Option, Result, Ok, Err, Bool, true, false, arith}
use Rattle.std.specs.Prelude.{Contains, slice_get, IfOk, IfNone}
use Rattle.std.proofs.lemmas.Option.{slice_get_within, MatchOption-at_none, same_Some, none-some}
use Rattle.std.proofs.lemmas.List.Elements.{All-weaker, All-push}
use Rattle.grd_base.specs.declared.ids.ActionId.{ActionId}
use Rattle.grd_base.specs.declared.limits.Bound.{Bound}
use Rattle.search_core.specs.declared.ways.Way.{Way}
use Rattle.search_core.specs.Spaces.{Successors}
use Rattle.search_core.specs.Answers.{IsDonePath}
use Rattle.search_core.specs.Entries.{IsHeld}
use Rattle.search_core.specs.Progress.{Entry, IsHeldBy, IsKept, IsCutOff, IsProgress, IsNew, IsAdded, IsGrown, AreLinked, HaveEarlierParents, IsWay, IsWayOn}
use Rattle.search_core.specs.Visits.{IsHead, IsStepFrom, AreStepsFrom, IsStep, AreHeldBy, IsExploring}
use Rattle.search_core.proofs.PlaceLemmas.{some_at, get_push_old, get_push_new, get_push_cases, get_grown, grown_none, grown_trans, below_cases}

module _ {S M : Type 0} (next : Successors S) (is_done : S → Bool) (level : S → Option ℕ) (shows : S → M → Bound → Type 0) (start : S) (r limit kept : ℕ) (xs : List (Entry S M)) (p : IsProgress next is_done level shows start r limit kept xs) where
  pub linked_of : AreLinked next start xs
  linked_of = record { first = λ e got. (p.each 0 e got).first refl; later = λ i e above got. (p.each i e got).later above }

  pub earlier_of : HaveEarlierParents xs
  earlier_of i e above got = ((p.each i e got).later above).lower

  module _ (place depth : ℕ) (head : IsHead xs place depth) where
    kept_here : IsKept next level start r kept head.entry.0 depth
    kept_here =
        let Q : ℕ → Type 0 = λ d. IsKept next level start r kept head.entry.0 d in
        subst Q head.depth_is
        (MatchOption-at_none (IsKept next level start r kept head.entry.0 head.entry.1.way.depth) (IsCutOff shows r kept head.entry.0 head.entry.1.way.depth head.entry.1.bound) head.kept (p.each place head.entry head.at).verdict)

    pub depth_below_limit : depth < limit
    depth_below_limit = omega (arith, kept_here.earlier, p.few)

    pub within_entries : place < length xs
    within_entries = slice_get_within xs place head.entry head.at

    pub step_held : (s : S) → IsHeld xs s → IsStep next is_done level shows start r limit kept kept xs xs place depth × IsHeldBy xs s (depth + 1)
    step_held s h = (
      record { progress = p; more = omega arith; grown = grown_none xs; head = head },
      record { place = h.place; entry = h.entry; at = h.at; state_is = h.state_is; no_deeper = head.deepest h.place h.entry h.at },
    )

    module _ (action : ActionId) (s : S) (step : IsStepFrom next xs place (action, s)) where
      pub yes_at : (path : List ActionId) → IsWayOn next start xs place action path → depth < r → is_done s ≡ true → IsDonePath next is_done start r limit path
      yes_at path on near done =
          let way : IsWay next start head.entry path s = on head.entry s head.at (step head.entry head.at) in
          record {
            end = s;
            leads = way.leads;
            done = done;
            short = omega (arith, way.long, head.depth_is);
            within_limit = omega (arith, way.long, head.depth_is, kept_here.earlier, p.few);
          }

      pub new_at : (IsHeld xs s → ⊥) → (depth + 1 ≤ r → is_done s ≡ false) → IsNew next is_done start r kept xs s (record { depth = depth + 1; parent = place; action = action })
      new_at fresh not_done = record {
        fresh = fresh;
        one_more = omega (arith, kept_here.near);
        not_done = not_done;
        earlier = kept_here.earlier;
        deepest = head.deepest;
        first = λ empty. absurd (omega (arith, empty, within_entries));
        later = λ above. record {
          before = head.entry;
          at = head.at;
          lower = within_entries;
          step = step head.entry head.at;
          deeper = ap (λ n. n + 1) head.depth_is;
        };
      }

    pub step_added : (now : ℕ) (ys : List (Entry S M)) (s : S) (way : Way) → way.depth ≡ depth + 1 → IsProgress next is_done level shows start r limit now ys → kept ≤ now → IsAdded xs ys s way
        → IsStep next is_done level shows start r limit kept now xs ys place depth × IsHeldBy ys s (depth + 1)
    step_added now ys s way deep q more add =
        let e : Entry S M = add.entry in
        let depth_is : e.1.way.depth ≡ depth + 1 = ap (λ (w : Way). w.depth) add.way_is ∙ deep in
        let P : List (Entry S M) → Type 0 = λ zs. IsHead zs place depth in
        let Q : List (Entry S M) → Type 0 = λ zs. IsHeldBy zs s (depth + 1) in (
          record {
            progress = q;
            more = more;
            grown = record { added = e ∷ []; grown = add.pushed };
            head = subst P (sym add.pushed) (record {
              entry = head.entry;
              at = get_push_old xs e place head.entry head.at;
              depth_is = head.depth_is;
              kept = head.kept;
              deepest = λ i f got. elim (get_push_cases xs e i f got) [
                | inl old ↦ head.deepest i f old
                | inr new ↦ let same : e.1.way.depth ≡ f.1.way.depth = ap (λ (g : Entry S M). g.1.way.depth) new.1 in omega (arith, same, depth_is)
              ];
            });
          },
          subst Q (sym add.pushed) (record { place = length xs; entry = e; at = get_push_new xs e; state_is = add.state_is; no_deeper = omega (arith, depth_is) }),
        )

held_grown : {S M : Type 0} (xs ys : List (Entry S M)) → IsGrown xs ys → (s : S) (depth : ℕ) → IsHeldBy xs s depth → IsHeldBy ys s depth
held_grown xs ys g s depth h = record { place = h.place; entry = h.entry; at = get_grown xs ys g h.place h.entry h.at; state_is = h.state_is; no_deeper = h.no_deeper }

all_held_grown : {S M : Type 0} (xs ys : List (Entry S M)) → IsGrown xs ys → (depth : ℕ) (steps : List (ActionId × S)) → AreHeldBy xs depth steps → AreHeldBy ys depth steps
all_held_grown {S} {M} xs ys g depth steps h = All-weaker (λ (step : ActionId × S). IsHeldBy xs step.1 depth) (λ step. IsHeldBy ys step.1 depth) (λ step held. held_grown xs ys g step.1 depth held) steps h

-- what holds where there is no value goes over to what follows from it
none_weaker : {X E : Type 0} (result : Result (Option X) E) (P Q : Type 0) → (P → Q) → IfOk result (λ found. IfNone found P) → IfOk result (λ found. IfNone found Q)
none_weaker (Ok None) P Q follows holds = follows holds
none_weaker (Ok (Some x)) P Q follows holds = tt
none_weaker (Err e) P Q follows holds = tt

-- what the loop over the steps keeps
pub record IsSpreading {S M : Type 0} (next : Successors S) (is_done : S → Bool) (level : S → Option ℕ) (shows : S → M → Bound → Type 0) (start : S) (r limit kept now : ℕ) (old new : List (Entry S M)) (place depth : ℕ) (done : List (ActionId × S)) : Type 0 where
  pub step : IsStep next is_done level shows start r limit kept now old new place depth
  pub held : AreHeldBy new (depth + 1) done

module _ {S M : Type 0} (next : Successors S) (is_done : S → Bool) (level : S → Option ℕ) (shows : S → M → Bound → Type 0) (start : S) (r limit kept : ℕ) (old : List (Entry S M)) (place depth : ℕ) where
  -- a step of the old entry at the place is one of the new entry there
  pub spread_step : (now : ℕ) (new : List (Entry S M)) (done steps : List (ActionId × S)) (step : ActionId × S) → IsHead old place depth → IsSpreading next is_done level shows start r limit kept now old new place depth done
      → AreStepsFrom next old place steps → Contains steps step → IsStepFrom next new place step
  spread_step now new done steps step head a from has e got =
      let same : head.entry ≡ e = same_Some _ _ (sym (get_grown old new a.step.grown place head.entry head.at) ∙ got) in
      let P : Entry S M → Type 0 = λ f. Contains (next f.0) step in
      let Q : List (ActionId × S) → Type 0 = λ ss. Contains ss step in
      subst P same (subst Q (from head.entry head.at) has)

  pub spread_more : (now more : ℕ) (mid new : List (Entry S M)) (done : List (ActionId × S)) (step : ActionId × S)
      → IsSpreading next is_done level shows start r limit kept now old mid place depth done
      → IsStep next is_done level shows start r limit now more mid new place depth × IsHeldBy new step.1 (depth + 1)
      → IsSpreading next is_done level shows start r limit kept more old new place depth (done ++ step ∷ [])
  spread_more now more mid new done step a b = record {
    step = record { progress = b.0.progress; more = omega (arith, a.step.more, b.0.more); grown = grown_trans old mid new a.step.grown b.0.grown; head = b.0.head };
    held = All-push (λ (s : ActionId × S). IsHeldBy new s.1 (depth + 1)) done step (all_held_grown mid new b.0.grown (depth + 1) done a.held) b.1;
  }

module _ {S M : Type 0} (next : Successors S) (is_done : S → Bool) (start : S) (r : ℕ) where
  -- where nothing is found yet, the start may be added
  pub new_first : (kept : ℕ) (xs : List (Entry S M)) (action : ActionId) → xs ≡ [] → is_done start ≡ false → IsNew next is_done start r kept xs start (record { depth = 0; parent = 0; action = action })
  new_first kept [] action none open_start = record {
    fresh = λ held. none-some held.entry held.at;
    one_more = omega arith;
    not_done = λ near. open_start;
    earlier = omega arith;
    deepest = λ i e got. absurd (none-some e got);
    first = λ empty. (refl, refl);
    later = λ above. absurd (omega (arith, above));
  }
  new_first kept (x ∷ xs) action none open_start = cc

module _ {S M : Type 0} (next : Successors S) (is_done : S → Bool) (level : S → Option ℕ) (shows : S → M → Bound → Type 0) (start : S) (r limit : ℕ) where
  -- nothing is found yet
  pub progress_none : (kept : ℕ) (xs : List (Entry S M)) → xs ≡ [] → kept ≡ 0 → IsProgress next is_done level shows start r limit kept xs
  progress_none zero [] none empty = record {
    each = λ i e got. absurd (none-some e got);
    sorted = λ i j e f below at_i at_j. absurd (none-some e at_i);
    apart = λ i j e f at_i at_j same. absurd (none-some e at_i);
    kept_is = refl;
    few = omega arith;
  }
  progress_none (suc kept) [] none empty = cc
  progress_none kept (x ∷ xs) none empty = cc

  pub head_of : (kept : ℕ) (xs : List (Entry S M)) (place : ℕ) (e : Entry S M) → IsExploring next is_done level shows start r limit kept xs place → slice_get xs place ≡ Some e → e.1.mark ≡ None → IsHead xs place e.1.way.depth
  head_of kept xs place e x got none = record { entry = e; at = got; depth_is = refl; kept = none; deepest = λ i f at_f. x.deepest e f i got at_f }

  -- past an entry with a mark
  pub explore_cut : (kept : ℕ) (xs : List (Entry S M)) (place : ℕ) (e : Entry S M) → IsExploring next is_done level shows start r limit kept xs place → slice_get xs place ≡ Some e → (e.1.mark ≡ None → ⊥) → IsExploring next is_done level shows start r limit kept xs (place + 1)
  explore_cut kept xs place e x got cut = record {
    progress = x.progress;
    some = x.some;
    expanded = λ i f below at_i none. elim (below_cases i place below) [
      | inl lower ↦ x.expanded i f lower at_i none
      | inr here ↦ absurd (cut (ap (λ (g : Entry S M). g.1.mark) (same_Some _ _ (sym got ∙ ap (λ n. slice_get xs n) (sym here) ∙ at_i)) ∙ none))
    ];
    deepest = λ f h i at_f at_h.
        let up : e.1.way.depth ≤ f.1.way.depth = x.progress.sorted place (place + 1) e f (omega arith) got at_f in
        let near : h.1.way.depth ≤ e.1.way.depth + 1 = x.deepest e h i got at_h in omega arith;
  }

  -- past an entry that was expanded
  pub explore_kept : (kept now : ℕ) (mid new : List (Entry S M)) (place : ℕ) (e : Entry S M) → IsExploring next is_done level shows start r limit kept mid place → slice_get mid place ≡ Some e
      → IsStep next is_done level shows start r limit kept now mid new place e.1.way.depth × AreHeldBy new (e.1.way.depth + 1) (next e.0) → IsExploring next is_done level shows start r limit now new (place + 1)
  explore_kept kept now mid new place e x got s = record {
    progress = s.0.progress;
    some = omega (arith, slice_get_within new place e (get_grown mid new s.0.grown place e got));
    expanded = λ i f below at_i none. elim (below_cases i place below) [
      | inl lower ↦
          let before : (g : Entry S M) × (slice_get mid i ≡ Some g) = some_at mid i (omega (arith, slice_get_within mid place e got, lower)) in
          let same : before.0 ≡ f = same_Some _ _ (sym (get_grown mid new s.0.grown i before.0 before.1) ∙ at_i) in
          let P : Entry S M → Type 0 = λ g. AreHeldBy new (g.1.way.depth + 1) (next g.0) in
          subst P same (all_held_grown mid new s.0.grown (before.0.1.way.depth + 1) (next before.0.0)
          (x.expanded i before.0 lower before.1 (ap (λ (g : Entry S M). g.1.mark) same ∙ none)))
      | inr here ↦
          let same : e ≡ f = same_Some _ _ (sym (get_grown mid new s.0.grown place e got) ∙ ap (λ n. slice_get new n) (sym here) ∙ at_i) in
          let P : Entry S M → Type 0 = λ g. AreHeldBy new (g.1.way.depth + 1) (next g.0) in
          subst P same s.1
    ];
    deepest = λ f h i at_f at_h.
        let up : e.1.way.depth ≤ f.1.way.depth = s.0.progress.sorted place (place + 1) e f (omega arith) (get_grown mid new s.0.grown place e got) at_f in
        let near : h.1.way.depth ≤ e.1.way.depth + 1 = s.0.head.deepest i h at_h in omega arith;
  }

  -- so is what holds where a step ended no search
  pub explore_next : {X E : Type 0} (kept now : ℕ) (mid new : List (Entry S M)) (place : ℕ) (e : Entry S M) (steps : List (ActionId × S)) (result : Result (Option X) E)
      → IsExploring next is_done level shows start r limit kept mid place → slice_get mid place ≡ Some e → steps ≡ next e.0
      → IfOk result (λ found. IfNone found (IsStep next is_done level shows start r limit kept now mid new place e.1.way.depth × AreHeldBy new (e.1.way.depth + 1) steps))
      → IfOk result (λ found. IfNone found (IsExploring next is_done level shows start r limit now new (place + 1)))
  explore_next kept now mid new place e steps result x got are =
      none_weaker result (IsStep next is_done level shows start r limit kept now mid new place e.1.way.depth × AreHeldBy new (e.1.way.depth + 1) steps) (IsExploring next is_done level shows start r limit now new (place + 1))
      (λ on. explore_kept kept now mid new place e x got (on.0, subst (AreHeldBy new (e.1.way.depth + 1)) are on.1))
