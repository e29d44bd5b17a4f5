-- A found state is added.
use Rattle.std.proofs.Common.{◌≡◌, ◌≢◌, ℕ, ◌+◌, ◌<◌, ◌≤◌, List, [], ◌∷◌, ◌++◌, length, refl, sym, ap, subst, ◌∙◌, inl, inr, Some, None, Option, Bool, arith}
use Rattle.std.specs.Prelude.{Contains, MatchOption}
use Rattle.std.proofs.lemmas.List.{length_push, length-map}
use Rattle.std.proofs.lemmas.List.Elements.{All-push, All-get_or, All-cons, All-nil, All-contains, Contains-push_cases, Contains-get_or}
use Rattle.std.proofs.lemmas.List.Quantifiers.{all_pairs_push}
use Rattle.std.proofs.lemmas.Option.{slice_get_within, MatchOption-at_none}
use Rattle.grd_base.specs.declared.ids.ActionId.{ActionId}
use Rattle.grd_base.specs.declared.limits.Bound.{Bound}
use Rattle.grd_base.specs.declared.limits.Bound.TheVariants.{Steps, Never}
use Rattle.search_core.specs.declared.ways.Way.{Way}
use Rattle.grd_base.specs.Counts.{AllDistinct, MoreThan}
use Rattle.search_core.specs.Spaces.{Successors, end_of, states_on, actions_of, IsAtLeastLevel, Counts}
use Rattle.search_core.specs.Entries.{IsHeld}
use Rattle.search_core.specs.Progress.{Entry, IsReached, IsKept, IsCutOff, IsChild, IsEntry, IsProgress, IsNew, IsCut, kept_states}
use Rattle.search_core.proofs.PlaceLemmas.{get_push_old, get_push_new, get_push_cases}
use Rattle.search_core.proofs.KeptLemmas.{kept_all, kept_distinct, count_cut, count_kept}
use Rattle.search_core.proofs.WalkLemmas.{IsWalk-push, end_of-push, states_on-push}

IsHeld-grow : {S M : Type 0} (xs : List (Entry S M)) (e : Entry S M) (s : S) → IsHeld xs s → IsHeld (xs ++ e ∷ []) s
IsHeld-grow xs e s h = record { place = h.place; entry = h.entry; at = get_push_old xs e h.place h.entry h.at; state_is = h.state_is }

IsHeld-new : {S M : Type 0} (xs : List (Entry S M)) (e : Entry S M) (s : S) → e.0 ≡ s → IsHeld (xs ++ e ∷ []) s
IsHeld-new xs e s same = record { place = length xs; entry = e; at = get_push_new xs e; state_is = same }

-- what is said of one value holds also where it is weaker
MatchOption-weaker : {A : Type 0} (o : Option A) {P Q : Type 0} {F G : A → Type 0} → (P → Q) → ((x : A) → F x → G x) → MatchOption o P F → MatchOption o Q G
MatchOption-weaker None f g h = f h
MatchOption-weaker (Some x) f g h = g x h

IsReached-grow : {S M : Type 0} (next : Successors S) (start : S) (xs : List (Entry S M)) (e : Entry S M) (s : S) (depth : ℕ) → IsReached next start xs s depth → IsReached next start (xs ++ e ∷ []) s depth
IsReached-grow next start xs e s depth h = record {
  walk = h.walk;
  steps = h.steps;
  ends = h.ends;
  long = h.long;
  no_repeat = h.no_repeat;
  held = λ t c. IsHeld-grow xs e t (h.held t c);
}

IsChild-grow : {S M : Type 0} (next : Successors S) (xs : List (Entry S M)) (e : Entry S M) (s : S) (way : Way) (place : ℕ) → IsChild next xs s way place → IsChild next (xs ++ e ∷ []) s way place
IsChild-grow next xs e s way place h = record {
  before = h.before;
  at = get_push_old xs e way.parent h.before h.at;
  lower = h.lower;
  step = h.step;
  deeper = h.deeper;
}

module _ {S M : Type 0} (next : Successors S) (is_done : S → Bool) (level : S → Option ℕ) (shows : S → M → Bound → Type 0) (start : S) (r limit : ℕ) where
  IsEntry-grow : (kept now : ℕ) → kept ≤ now → (xs : List (Entry S M)) (e f : Entry S M) (i : ℕ) → IsEntry next is_done level shows start r kept xs i f → IsEntry next is_done level shows start r now (xs ++ e ∷ []) i f
  IsEntry-grow kept now more xs e f i h = record {
    reached = IsReached-grow next start xs e f.0 f.1.way.depth h.reached;
    one_more = h.one_more;
    not_done = h.not_done;
    verdict = MatchOption-weaker f.1.mark
        (λ k. record { counts = k.counts; near = k.near; earlier = omega arith })
        (λ m k. record { shown = k.shown; cut = k.cut; earlier = omega arith }) h.verdict;
    first = h.first;
    later = λ above. IsChild-grow next xs e f.0 f.1.way i (h.later above);
  }

  reached_new : (kept : ℕ) (xs : List (Entry S M)) (e : Entry S M) → IsProgress next is_done level shows start r limit kept xs → IsNew next is_done start r kept xs e.0 e.1.way → IsReached next start (xs ++ e ∷ []) e.0 e.1.way.depth
  reached_new kept [] e p new =
      let first = new.first refl in record {
        walk = [];
        steps = tt;
        ends = sym first.0;
        long = sym first.1;
        no_repeat = λ i j d low high. absurd (omega arith);
        held = λ t c. All-contains (λ t. IsHeld ([] ++ e ∷ []) t) (start ∷ []) t (All-cons (λ t. IsHeld ([] ++ e ∷ []) t) start [] (IsHeld-new [] e start first.0) (All-nil (λ t. IsHeld ([] ++ e ∷ []) t))) c;
      }
  reached_new kept (x ∷ xs) e p new =
      let from : IsChild next (x ∷ xs) e.0 e.1.way (length (x ∷ xs)) = new.later (omega arith) in
      let old : IsReached next start (x ∷ xs) from.before.0 from.before.1.way.depth = (p.each e.1.way.parent from.before from.at).reached in
      let step : ActionId × S = (e.1.way.action, e.0) in
      let last : Contains (next (end_of start old.walk)) step = let P : S → Type 0 = λ s. Contains (next s) step in subst P (sym old.ends) from.step in
      record {
        walk = old.walk ++ step ∷ [];
        steps = IsWalk-push next start old.walk step old.steps last;
        ends = end_of-push start old.walk step;
        long = length_push old.walk step ∙ ap (λ n. n + 1) old.long ∙ from.deeper;
        no_repeat = let P : List S → Type 0 = AllDistinct in subst P (sym (states_on-push start old.walk step))
            (all_pairs_push (λ a b. a ≢ b) (states_on start old.walk) e.0 old.no_repeat
            (λ k d within same. let Q : S → Type 0 = λ s. Contains (states_on start old.walk) s in
            new.fresh (old.held e.0 (subst Q same (Contains-get_or (states_on start old.walk) k d within)))));
        held = λ t c. let Q : List S → Type 0 = λ vs. Contains vs t in
            elim (Contains-push_cases (states_on start old.walk) e.0 t (subst Q (states_on-push start old.walk step) c)) [
              | inl before ↦ IsHeld-grow (x ∷ xs) e t (old.held t before)
              | inr here ↦ IsHeld-new (x ∷ xs) e t here
            ];
      }

  -- one more entry
  pub progress_push : (kept now : ℕ) (xs : List (Entry S M)) (e : Entry S M) → IsProgress next is_done level shows start r limit kept xs → IsNew next is_done start r kept xs e.0 e.1.way
      → kept ≤ now → now ≤ limit → length (kept_states (xs ++ e ∷ [])) ≡ now
      → MatchOption e.1.mark (IsKept next level start r now e.0 e.1.way.depth) (IsCutOff shows r now e.0 e.1.way.depth e.1.bound)
      → IsProgress next is_done level shows start r limit now (xs ++ e ∷ [])
  progress_push kept now xs e p new more room count verdict =
      let at_end : IsEntry next is_done level shows start r now (xs ++ e ∷ []) (length xs) e = record {
        reached = reached_new kept xs e p new;
        one_more = new.one_more;
        not_done = new.not_done;
        verdict = verdict;
        first = new.first;
        later = λ above. IsChild-grow next xs e e.0 e.1.way (length xs) (new.later above);
      } in
      record {
        each = λ i f got. elim (get_push_cases xs e i f got) [
          | inl old ↦ IsEntry-grow kept now more xs e f i (p.each i f old)
          | inr here ↦ let P : ℕ → Entry S M → Type 0 = λ n g. IsEntry next is_done level shows start r now (xs ++ e ∷ []) n g in
              subst (λ g. P i g) here.1 (subst (λ n. P n e) (sym here.0) at_end)
        ];
        sorted = λ i j a b below at_i at_j. elim (get_push_cases xs e j b at_j) [
          | inl old_j ↦ elim (get_push_cases xs e i a at_i) [
            | inl old_i ↦ p.sorted i j a b below old_i old_j
            | inr new_i ↦ let within : j < length xs = slice_get_within xs j b old_j in absurd (omega (arith, new_i.0))
          ]
          | inr new_j ↦ elim (get_push_cases xs e i a at_i) [
            | inl old_i ↦ let P : Entry S M → Type 0 = λ g. a.1.way.depth ≤ g.1.way.depth in subst P new_j.1 (new.deepest i a old_i)
            | inr new_i ↦ let same : a.1.way.depth ≡ b.1.way.depth = ap (λ (g : Entry S M). g.1.way.depth) (sym new_i.1 ∙ new_j.1) in omega (arith, same)
          ]
        ];
        apart = λ i j a b at_i at_j same. elim (get_push_cases xs e j b at_j) [
          | inl old_j ↦ elim (get_push_cases xs e i a at_i) [
            | inl old_i ↦ p.apart i j a b old_i old_j same
            | inr new_i ↦ absurd (new.fresh (record { place = j; entry = b; at = old_j; state_is = sym same ∙ ap (λ (g : Entry S M). g.0) (sym new_i.1) }))
          ]
          | inr new_j ↦ elim (get_push_cases xs e i a at_i) [
            | inl old_i ↦ absurd (new.fresh (record { place = i; entry = a; at = old_i; state_is = same ∙ ap (λ (g : Entry S M). g.0) (sym new_j.1) }))
            | inr new_i ↦ new_i.0 ∙ sym new_j.0
          ]
        ];
        kept_is = count;
        few = room;
      }

  -- an entry that the floor cuts off
  pub progress_cut : (kept : ℕ) (xs : List (Entry S M)) (s : S) (way : Way) (bound : Bound) (mark : M)
      → IsProgress next is_done level shows start r limit kept xs → IsNew next is_done start r kept xs s way
      → shows s mark bound → IsCut way.depth bound r
      → IsProgress next is_done level shows start r limit kept (xs ++ (s, record { way = way; bound = bound; mark = Some mark }) ∷ [])
  progress_cut kept xs s way bound mark p new shown cut =
      let e : Entry S M = (s, record { way = way; bound = bound; mark = Some mark }) in
      progress_push kept kept xs e p new (omega arith) p.few (count_cut xs e mark refl ∙ p.kept_is) (record { shown = shown; cut = cut; earlier = new.earlier })

  near_uncut : (depth : ℕ) (bound : Bound) → (IsCut depth bound r → ⊥) → depth ≤ r
  near_uncut depth (Steps n) uncut = omega (arith, uncut)
  near_uncut depth Never uncut = absurd (uncut tt)

  -- a state that the floor does not cut off counts
  counts_new : (xs : List (Entry S M)) (s : S) (depth : ℕ) (bound : Bound) → IsReached next start xs s depth → IsAtLeastLevel bound (level s) → (IsCut depth bound r → ⊥) → Counts next level start r s
  counts_new xs s depth bound reached above uncut = counts_at bound (level s) refl above uncut
    where
      counts_at : (bound : Bound) (o : Option ℕ) → level s ≡ o → IsAtLeastLevel bound o → (IsCut depth bound r → ⊥) → Counts next level start r s
      counts_at (Steps n) None is above uncut = cc
      counts_at Never o is above uncut = absurd (uncut tt)
      counts_at (Steps n) (Some height) is above uncut =
          let long : length (actions_of reached.walk) ≡ depth = length-map reached.walk (λ (step : ActionId × S). step.0) ∙ reached.long in
          let low : depth + n ≤ r = omega (arith, uncut) in
          record {
            path = actions_of reached.walk;
            leads = record { walk = reached.walk; steps = reached.steps; carries = refl; ends = reached.ends };
            height = height;
            level_is = is;
            near = omega (arith, long, low, above);
          }

  -- an entry that is kept
  pub progress_kept : (kept : ℕ) (xs : List (Entry S M)) (s : S) (way : Way) (bound : Bound)
      → IsProgress next is_done level shows start r limit kept xs → IsNew next is_done start r kept xs s way
      → IsAtLeastLevel bound (level s) → (IsCut way.depth bound r → ⊥) → kept < limit
      → IsProgress next is_done level shows start r limit (kept + 1) (xs ++ (s, record { way = way; bound = bound; mark = None }) ∷ [])
  progress_kept kept xs s way bound p new above uncut room =
      let e : Entry S M = (s, record { way = way; bound = bound; mark = None }) in
      let reached : IsReached next start (xs ++ e ∷ []) s way.depth = reached_new kept xs e p new in
      let counted : length (kept_states (xs ++ e ∷ [])) ≡ kept + 1 = count_kept xs e refl ∙ ap (λ n. n + 1) p.kept_is in
      progress_push kept (kept + 1) xs e p new (omega arith) (omega arith) counted
      (record { counts = counts_new (xs ++ e ∷ []) s way.depth bound reached above uncut; near = near_uncut way.depth bound uncut; earlier = omega (arith, new.earlier) })

  -- one state more than the limit allows
  pub crowded_new : (kept : ℕ) (xs : List (Entry S M)) (s : S) (way : Way) (bound : Bound)
      → IsProgress next is_done level shows start r limit kept xs → IsNew next is_done start r kept xs s way
      → IsAtLeastLevel bound (level s) → (IsCut way.depth bound r → ⊥) → limit ≤ kept
      → MoreThan limit (Counts next level start r)
  crowded_new kept xs s way bound p new above uncut full =
      let e : Entry S M = (s, record { way = way; bound = bound; mark = None }) in
      let reached : IsReached next start (xs ++ e ∷ []) s way.depth = reached_new kept xs e p new in
      let counted : length (kept_states xs ++ s ∷ []) ≡ length (kept_states xs) + 1 = length_push (kept_states xs) s in
      record {
        items = kept_states xs ++ s ∷ [];
        differ = all_pairs_push (λ a b. a ≢ b) (kept_states xs) s (kept_distinct xs p.apart)
            (λ k d within. All-get_or (λ t. t ≢ s) (kept_states xs) k d within
            (kept_all (λ t. t ≢ s) xs (λ i f got none same. new.fresh (record { place = i; entry = f; at = got; state_is = same }))));
        have = All-push (Counts next level start r) (kept_states xs) s
            (kept_all (Counts next level start r) xs (λ i f got none. (MatchOption-at_none (IsKept next level start r kept f.0 f.1.way.depth) (IsCutOff shows r kept f.0 f.1.way.depth f.1.bound) none (p.each i f got).verdict).counts))
            (counts_new (xs ++ e ∷ []) s way.depth bound reached above uncut);
        many = omega (arith, counted, p.kept_is);
      }
