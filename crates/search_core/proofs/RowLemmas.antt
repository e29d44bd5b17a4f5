-- The rows of an answer.
use Rattle.std.proofs.Common.{◌≡◌, ℕ, zero, suc, ◌+◌, ◌-◌, ◌<◌, ◌≤◌, List, [], ◌∷◌, length as list_length, get_or, refl, sym, ap, subst, ◌∙◌, ◌⊎◌, inl, inr, Some, None, Option, Bool, true, false, true≢false, cond, arith}
use Rattle.std.specs.Prelude.{Contains, MatchOption, All, nat_lt, slice_get}
use Rattle.std.specs.List.{filter_map, cons_option}
use Rattle.std.specs.Option.{option_map}
use Rattle.std.proofs.lemmas.Bool.{ltb-true, lt-ltb, cases_Bool}
use Rattle.std.proofs.lemmas.List.Elements.{All-contains, Contains-get_or}
use Rattle.std.proofs.lemmas.Option.{same_Some, none-some, cond_some}
use Rattle.grd_base.specs.declared.ids.ActionId.{ActionId}
use Rattle.grd_base.specs.declared.limits.Bound.{Bound}
use Rattle.grd_base.specs.declared.limits.Bound.TheVariants.{Steps, Never}
use Rattle.grd_base.specs.Counts.{AllDistinct}
use Rattle.search_core.specs.declared.queue.Ticket.{Ticket}
use Rattle.search_core.specs.declared.rows.KeptRow.{KeptRow}
use Rattle.search_core.specs.Spaces.{Successors, actions_of, IsDoneWithin, IsReachable, IsAdmissible, IsAtLeast}
use Rattle.search_core.specs.Tables.{HasRow, HasNeverRow, IsRefuted, IsRefutedBySteps, IsRefutedByMark, AreCounted, unmarked}
use Rattle.search_core.specs.LeastAnswers.{CountsForLeast}
use Rattle.search_core.specs.Nodes.{Entry, IsHeldBy, IsNoDeeper, IsTotalAtMost, IsReachedIn, IsPlaced, AreClosed, AreNodes}
use Rattle.search_core.specs.LeastRows.{bound_below, mark_kept, row_of}
use Rattle.search_core.proofs.PlaceLemmas.{any_at, filter_map_all, filter_map_get}
use Rattle.search_core.proofs.PickLemmas.{Picks, picked_all, picked_distinct, picked_few}
use Rattle.search_core.proofs.WaitLemmas.{done_of}
use Rattle.search_core.proofs.MarkLemmas.{path_of, path_long}

all_from_contains : {X : Type 0} (P : X → Type 0) (xs : List X) → ((x : X) → Contains xs x → P x) → All P xs
all_from_contains P xs h k d within = h (get_or xs k d) (Contains-get_or xs k d within)

-- what a result was made of
option_map_from : {X Y : Type 0} (f : X → Y) (o : Option X) (y : Y) → option_map f o ≡ Some y → (x : X) × (o ≡ Some x) × (f x ≡ y)
option_map_from f None y is = absurd (none-some y is)
option_map_from f (Some x) y is = (x, refl, same_Some (f x) y is)

-- n is not below the length
abbrev pub IsBelow : Option ℕ → ℕ → Type 0
IsBelow None n = ⊥
IsBelow (Some length) n = length ≤ n

-- a number below the length has a row
below_some : (length k depth : ℕ) → depth < length → bound_below (Some length) (Steps k) depth ≡ Some (Steps (length - 1 - depth))
below_some length k depth low = ap (λ b. cond b (Some (Steps (length - 1 - depth))) None) (lt-ltb depth length low)

below_from : (length k depth : ℕ) (bound : Bound) → bound_below (Some length) (Steps k) depth ≡ Some bound → (depth < length) × (Steps (length - 1 - depth) ≡ bound)
below_from length k depth bound is = let both = cond_some (nat_lt depth length) (Steps (length - 1 - depth)) bound is in (ltb-true depth length both.0, both.1)

-- which state of an entry has a row without a mark
abbrev pick_of : {S M : Type 0} → Option Bound → Option M → S → Option S
pick_of None mark s = None
pick_of (Some bound) None s = Some s
pick_of (Some bound) (Some mark) s = None

abbrev pick : {S M : Type 0} → Option ℕ → Entry S M → Option S
pick length entry = pick_of (bound_below length entry.1.bound entry.1.way.depth) (mark_kept entry.1.waits entry.1.expanded entry.1.mark) entry.0

unmarked_one : {S M : Type 0} (o : Option Bound) (m : Option M) (s : S) (rs : List (KeptRow S M)) → unmarked (cons_option (option_map (λ (b : Bound). record { state = s; bound = b; mark = m }) o) rs) ≡ cons_option (pick_of o m s) (unmarked rs)
unmarked_one None m s rs = refl
unmarked_one (Some b) None s rs = refl
unmarked_one (Some b) (Some m) s rs = refl

unmarked_rows : {S M : Type 0} (length : Option ℕ) (xs : List (Entry S M)) → unmarked (filter_map (row_of length) xs) ≡ filter_map (pick length) xs
unmarked_rows length [] = refl
unmarked_rows length (x ∷ xs) =
    unmarked_one (bound_below length x.1.bound x.1.way.depth) (mark_kept x.1.waits x.1.expanded x.1.mark) x.0 (filter_map (row_of length) xs)
    ∙ ap (λ ss. cons_option (pick length x) ss) (unmarked_rows length xs)

pick_from : {S M : Type 0} (o : Option Bound) (waits expanded : Bool) (m : M) (s t : S) → pick_of o (mark_kept waits expanded m) s ≡ Some t → (s ≡ t) × (expanded ≡ true)
pick_from None waits expanded m s t is = absurd (none-some t is)
pick_from (Some b) false true m s t is = (same_Some s t is, refl)
pick_from (Some b) false false m s t is = absurd (none-some t is)
pick_from (Some b) true expanded m s t is = absurd (none-some t is)

module _ {S M : Type 0} (next : Successors S) (is_done : S → Bool) (level : S → Option ℕ) (shows : S → M → Bound → Type 0) (law : (s : S) (m : M) (b : Bound) → shows s m b → IsAdmissible next is_done (level s) s b)
    (start : S) (limit kept : ℕ) (xs : List (Entry S M)) (before : List Ticket) (nodes : AreNodes next is_done level shows start limit kept xs before) (closed : AreClosed next xs)
    (length : Option ℕ) (least : (n : ℕ) → IsDoneWithin next is_done start n → IsBelow length n)
    (late : (i : ℕ) (e : Entry S M) (n : ℕ) → slice_get xs i ≡ Some e → e.1.waits ≡ true → IsTotalAtMost e.1.way.depth e.1.bound n → IsBelow length n) where
  rows : List (KeptRow S M)
  rows = filter_map (row_of length) xs

  row_for : Entry S M → Bound → KeptRow S M
  row_for e b = record { state = e.0; bound = b; mark = mark_kept e.1.waits e.1.expanded e.1.mark }

  -- a row of an entry
  has_row : (i : ℕ) (e : Entry S M) (bound : Bound) (n : ℕ) → slice_get xs i ≡ Some e → bound_below length e.1.bound e.1.way.depth ≡ Some bound → IsAtLeast bound n → HasRow rows e.0 n
  unfolding rows row_for
  has_row i e bound n got is least =
      let at = filter_map_get (row_of length) xs i e (row_for e bound) got (ap (option_map (row_for e)) is) in
      any_at (λ (row : KeptRow S M). (row.state ≡ e.0) × IsAtLeast row.bound n) rows at.0 (row_for e bound) at.1 (refl, least)

  has_never : (i : ℕ) (e : Entry S M) → slice_get xs i ≡ Some e → bound_below length e.1.bound e.1.way.depth ≡ Some Never → HasNeverRow rows e.0
  unfolding rows row_for
  has_never i e got is =
      let at = filter_map_get (row_of length) xs i e (row_for e Never) got (ap (option_map (row_for e)) is) in
      any_at (λ (row : KeptRow S M). (row.state ≡ e.0) × (row.bound ≡ Never)) rows at.0 (row_for e Never) at.1 (refl, refl)

  -- a held state has a row for the steps that are left
  row_held : (l : Option ℕ) → length ≡ l → (c depth n : ℕ) → l ≡ Some c → depth + n < c → (s : S) → IsHeldBy xs s depth → HasRow rows s n
  row_held l is c depth n some low s h = let P : S → Type 0 = λ t. HasRow rows t n in subst P h.state_is (by h.entry.1.bound refl h.no_deeper)
    where
      len : length ≡ Some c
      len = is ∙ some

      by : (b : Bound) → h.entry.1.bound ≡ b → IsNoDeeper b h.entry.1.way.depth depth → HasRow rows h.entry.0 n
      by (Steps k) bound near = has_row h.place h.entry (Steps (c - 1 - h.entry.1.way.depth)) n h.at
          (ap (λ l. bound_below l h.entry.1.bound h.entry.1.way.depth) len ∙ ap (λ b. bound_below (Some c) b h.entry.1.way.depth) bound ∙ below_some c k h.entry.1.way.depth (omega (arith, near, low)))
          (omega (arith, near, low))
      by Never bound near = has_row h.place h.entry Never n h.at (ap (λ l. bound_below l h.entry.1.bound h.entry.1.way.depth) len ∙ ap (λ b. bound_below (Some c) b h.entry.1.way.depth) bound) tt

  never_held : length ≡ None → (depth : ℕ) (s : S) → IsHeldBy xs s depth → HasNeverRow rows s
  never_held is depth s h = let P : S → Type 0 = λ t. HasNeverRow rows t in subst P h.state_is (has_never h.place h.entry h.at (ap (λ l. bound_below l h.entry.1.bound h.entry.1.way.depth) is))

  -- no row's state is done
  done_here : (i : ℕ) (e : Entry S M) → slice_get xs i ≡ Some e → is_done e.0 ≡ true → IsBelow length e.1.way.depth
  done_here i e got done =
      let reached : IsReachedIn next start e.0 e.1.way.depth = (nodes.each i e got).reached in
      least e.1.way.depth (record { path = actions_of reached.walk; end = e.0; leads = path_of next start e.0 e.1.way.depth reached; short = omega (arith, path_long next start e.0 e.1.way.depth reached); done = done })

  not_done : (i : ℕ) (e : Entry S M) (bound : Bound) → slice_get xs i ≡ Some e → bound_below length e.1.bound e.1.way.depth ≡ Some bound → is_done e.0 ≡ false
  not_done i e bound got row = elim (cases_Bool (is_done e.0)) [ inl done ↦ absurd (by length refl e.1.bound refl (done_here i e got done) done row) | inr undone ↦ undone ]
    where
      by : (l : Option ℕ) → length ≡ l → (b : Bound) → e.1.bound ≡ b → IsBelow l e.1.way.depth → is_done e.0 ≡ true → bound_below l b e.1.way.depth ≡ Some bound → ⊥
      by None len b is below done row = below
      by (Some c) len (Steps k) is below done row = let low : e.1.way.depth < c = (below_from c k e.1.way.depth bound row).0 in omega (arith, low, below)
      by (Some c) len Never is below done row =
          let P : Bound → Type 0 = λ b. shows e.0 e.1.mark b in
          (law e.0 e.1.mark Never (subst P is (nodes.each i e got).shown)).below_steps 0 (done_of next is_done e.0 [] tt done)

  -- a row without a mark
  by_steps : (i : ℕ) (e : Entry S M) (bound : Bound) → slice_get xs i ≡ Some e → bound_below length e.1.bound e.1.way.depth ≡ Some bound → e.1.expanded ≡ true → e.1.waits ≡ false → IsRefutedBySteps next rows e.0 bound
  by_steps i e bound got row expanded still =
      let P : Bool → Type 0 = λ x. IsPlaced e.1.bound e.1.waits x in
      by length refl e.1.bound (subst P expanded (nodes.each i e got).placed) row
    where
      held : (step : ActionId × S) → Contains (next e.0) step → IsHeldBy xs step.1 (e.1.way.depth + 1)
      held step has = All-contains (λ (s : ActionId × S). IsHeldBy xs s.1 (e.1.way.depth + 1)) (next e.0) step (closed i e got expanded still) has

      count : (c : ℕ) → length ≡ Some c → (n : ℕ) → c - 1 - e.1.way.depth ≡ n → IsRefutedBySteps next rows e.0 (Steps n)
      count c len zero is = tt
      count c len (suc n) is = all_from_contains (λ (step : ActionId × S). HasRow rows step.1 n) (next e.0) (λ step has. row_held (Some c) len c (e.1.way.depth + 1) n refl (omega (arith, is)) step.1 (held step has))

      by : (l : Option ℕ) → length ≡ l → (b : Bound) → IsPlaced b e.1.waits true → bound_below l b e.1.way.depth ≡ Some bound → IsRefutedBySteps next rows e.0 bound
      by None len b placed row =
          let Q : Bound → Type 0 = λ b. IsRefutedBySteps next rows e.0 b in
          subst Q (same_Some Never bound row) (all_from_contains (λ (step : ActionId × S). HasNeverRow rows step.1) (next e.0) (λ step has. never_held len (e.1.way.depth + 1) step.1 (held step has)))
      by (Some c) len (Steps k) placed row =
          let Q : Bound → Type 0 = λ b. IsRefutedBySteps next rows e.0 b in
          subst Q (below_from c k e.1.way.depth bound row).1 (count c len (c - 1 - e.1.way.depth) refl)
      by (Some c) len Never placed row = absurd (true≢false placed.1)

  -- a row with a mark
  by_mark : (i : ℕ) (e : Entry S M) (bound : Bound) → slice_get xs i ≡ Some e → bound_below length e.1.bound e.1.way.depth ≡ Some bound → (e.1.waits ≡ true) ⊎ (e.1.expanded ≡ false) → IsRefutedByMark (shows e.0) e.1.mark bound
  by_mark i e bound got row open_or_new = by length refl e.1.bound refl (nodes.each i e got).placed row
    where
      shown_as : (b : Bound) → e.1.bound ≡ b → shows e.0 e.1.mark b
      shown_as b is = let P : Bound → Type 0 = λ b. shows e.0 e.1.mark b in subst P is (nodes.each i e got).shown

      waits_of : (k : ℕ) → IsPlaced (Steps k) e.1.waits e.1.expanded → e.1.waits ≡ true
      waits_of k placed = elim open_or_new [
        | inl waits ↦ waits
        | inr new ↦ elim placed [ inl waits ↦ waits | inr expanded ↦ absurd (true≢false (sym expanded ∙ new)) ]
      ]

      late_by : (k : ℕ) → e.1.bound ≡ Steps k → e.1.waits ≡ true → IsBelow length (e.1.way.depth + k)
      late_by k is waits = let P : Bound → Type 0 = λ b. IsTotalAtMost e.1.way.depth b (e.1.way.depth + k) in late i e (e.1.way.depth + k) got waits (subst P (sym is) (omega arith))

      by : (l : Option ℕ) → length ≡ l → (b : Bound) → e.1.bound ≡ b → IsPlaced b e.1.waits e.1.expanded → bound_below l b e.1.way.depth ≡ Some bound → IsRefutedByMark (shows e.0) e.1.mark bound
      by None len Never is placed row = let Q : Bound → Type 0 = λ b. IsRefutedByMark (shows e.0) e.1.mark b in subst Q (same_Some Never bound row) (shown_as Never is)
      by (Some c) len Never is placed row = let Q : Bound → Type 0 = λ b. IsRefutedByMark (shows e.0) e.1.mark b in subst Q (same_Some Never bound row) (shown_as Never is)
      by None len (Steps k) is placed row = let L : Option ℕ → Type 0 = λ l. IsBelow l (e.1.way.depth + k) in absurd (subst L len (late_by k is (waits_of k placed)))
      by (Some c) len (Steps k) is placed row =
          let L : Option ℕ → Type 0 = λ l. IsBelow l (e.1.way.depth + k) in
          let over : c ≤ e.1.way.depth + k = subst L len (late_by k is (waits_of k placed)) in
          let from = below_from c k e.1.way.depth bound row in
          let low : e.1.way.depth < c = from.0 in
          let Q : Bound → Type 0 = λ b. IsRefutedByMark (shows e.0) e.1.mark b in
          subst Q from.1 (Steps k, shown_as (Steps k) is, omega (arith, over, low))

  refuted_row : (i : ℕ) (e : Entry S M) (bound : Bound) → slice_get xs i ≡ Some e → bound_below length e.1.bound e.1.way.depth ≡ Some bound → IsRefuted next is_done shows rows (record { state = e.0; bound = bound; mark = mark_kept e.1.waits e.1.expanded e.1.mark })
  refuted_row i e bound got row = record { not_done = not_done i e bound got row; why = why e.1.waits e.1.expanded refl refl }
    where
      why : (w x : Bool) → e.1.waits ≡ w → e.1.expanded ≡ x → MatchOption (mark_kept w x e.1.mark) (IsRefutedBySteps next rows e.0 bound) (λ mark. IsRefutedByMark (shows e.0) mark bound)
      why false true still expanded = by_steps i e bound got row expanded still
      why true x waits expanded = by_mark i e bound got row (inl waits)
      why false false still new = by_mark i e bound got row (inr new)

  pub rows_refuted : All (IsRefuted next is_done shows (filter_map (row_of length) xs)) (filter_map (row_of length) xs)
  unfolding rows
  rows_refuted = filter_map_all (row_of length) (IsRefuted next is_done shows rows) xs
      (λ i e row got is.
      let from = option_map_from (λ (b : Bound). record { state = e.0; bound = b; mark = mark_kept e.1.waits e.1.expanded e.1.mark }) (bound_below length e.1.bound e.1.way.depth) row is in
      let P : KeptRow S M → Type 0 = IsRefuted next is_done shows rows in
      subst P from.2 (refuted_row i e from.0 got from.1))

  pub rows_counted : AreCounted next (CountsForLeast next is_done level start) start limit (filter_map (row_of length) xs)
  rows_counted =
      let same : unmarked (filter_map (row_of length) xs) ≡ filter_map (pick length) xs = unmarked_rows length xs in
      let picks : Picks {S = S} {M = M} (pick length) = λ e s is. pick_from (bound_below length e.1.bound e.1.way.depth) e.1.waits e.1.expanded e.1.mark e.0 s is in
      record {
        reached = filter_map_all (row_of length) (λ (row : KeptRow S M). IsReachable next start row.state) xs
            (λ i e row got is.
            let from = option_map_from (λ (b : Bound). record { state = e.0; bound = b; mark = mark_kept e.1.waits e.1.expanded e.1.mark }) (bound_below length e.1.bound e.1.way.depth) row is in
            let reached : IsReachedIn next start e.0 e.1.way.depth = (nodes.each i e got).reached in
            let P : S → Type 0 = IsReachable next start in
            subst P (ap (λ (r : KeptRow S M). r.state) from.2) (record { path = actions_of reached.walk; leads = path_of next start e.0 e.1.way.depth reached }));
        count = let P : List S → Type 0 = All (CountsForLeast next is_done level start) in
            subst P (sym same) (picked_all (pick length) picks (CountsForLeast next is_done level start) xs (λ i e got expanded. ((nodes.each i e got).expanded expanded).counts));
        distinct = let P : List S → Type 0 = AllDistinct in subst P (sym same) (picked_distinct (pick length) picks xs nodes.apart);
        few =
            let long : list_length (unmarked (filter_map (row_of length) xs)) ≡ list_length (filter_map (pick length) xs) = ap list_length same in
            omega (arith, long, picked_few (pick length) picks xs, nodes.kept_is, nodes.few);
      }

  pub start_row : IsHeldBy xs start 0 → (c : ℕ) → length ≡ Some c → 0 < c → HasRow (filter_map (row_of length) xs) start (c - 1)
  unfolding rows
  start_row root c len some = row_held (Some c) len c 0 (c - 1) refl (omega (arith, some)) start root

  pub start_never : IsHeldBy xs start 0 → length ≡ None → HasNeverRow (filter_map (row_of length) xs) start
  unfolding rows
  start_never root len = never_held len 0 start root
