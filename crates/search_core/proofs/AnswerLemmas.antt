-- The rows of the answers No and Never.
use Rattle.std.proofs.Common.{◌≡◌, ℕ, zero, suc, ◌+◌, ◌-◌, ◌<◌, ◌≤◌, List, [], ◌∷◌, length, map, get_or, refl, sym, ap, subst, ◌∙◌, Some, None, Option, Bool, true, false, cond, arith}
use Rattle.std.specs.Prelude.{Contains, MatchOption, All, nat_le, slice_get, Vec}
use Rattle.std.specs.List.{filter_map, cons_option}
use Rattle.std.specs.Option.{option_map}
use Rattle.std.specs.declared.alloc.Global.{Global}
use Rattle.std.proofs.lemmas.Bool.{leb-true, leb-false, le-leb}
use Rattle.std.proofs.lemmas.List.Elements.{All-cons, All-nil, All-contains, Contains-get_or}
use Rattle.std.proofs.lemmas.Option.{slice_get_within, same_Some, none-some, cond_some, MatchOption-at_some, MatchOption-at_none}
use Rattle.grd_base.specs.declared.ids.ActionId.{ActionId}
use Rattle.grd_base.specs.declared.limits.Bound.{Bound}
use Rattle.grd_base.specs.declared.limits.Bound.TheVariants.{Steps, Never}
use Rattle.search_core.specs.declared.rows.KeptRow.{KeptRow}
use Rattle.search_core.specs.declared.rows.WithinAnswer.TheVariants as answer
use Rattle.grd_base.specs.Counts.{AllDistinct}
use Rattle.search_core.specs.Spaces.{Successors, actions_of, IsDoneWithin, IsReachable, IsAdmissible, IsAbove, IsAtLeast, Counts}
use Rattle.search_core.specs.Tables.{HasRow, HasNeverRow, IsRefuted, IsRefutedBySteps, IsRefutedByMark, AreRefuted, AreCounted, unmarked, with_unmarked}
use Rattle.search_core.specs.Answers.{IsBeyond}
use Rattle.search_core.specs.Progress.{Entry, IsProgress, IsKept, IsCutOff, IsCut, IsHeldBy, kept_states, state_if_kept}
use Rattle.search_core.specs.Visits.{IsWhole, IsAnswer, row_within, row_never, row_for, bound_for}
use Rattle.search_core.proofs.KeptLemmas.{kept_all, kept_distinct}
use Rattle.search_core.proofs.NumberLemmas.{HasNumber, HasNoNumber}
use Rattle.search_core.proofs.PlaceLemmas.{some_at}
use Rattle.search_core.proofs.PlaceLemmas.{any_at, filter_map_get, filter_map_all}
use Rattle.search_core.proofs.TableLemmas.{refutes_all, refutes_ever}

all_from_contains : {X : Type 0} (P : X → Type 0) (xs : List X) → ((x : X) → Contains xs x → P x) → All P xs
all_from_contains P xs h k d within = h (get_or xs k d) (Contains-get_or xs k d within)

-- the row of an entry that is not too deep, and which entry a row is of
row_is : {S M : Type 0} (r : ℕ) (e : Entry S M) → e.1.way.depth ≤ r → row_within r e ≡ Some (record { state = e.0; bound = Steps (r - e.1.way.depth); mark = e.1.mark })
row_is {S} {M} r e low = ap (λ b. cond b (Some (row_at r e)) None) (le-leb e.1.way.depth r low)
  where
    row_at : ℕ → Entry S M → KeptRow S M
    row_at r e = record { state = e.0; bound = Steps (r - e.1.way.depth); mark = e.1.mark }

row_from : {S M : Type 0} (r : ℕ) (e : Entry S M) (row : KeptRow S M) → row_within r e ≡ Some row → (e.1.way.depth ≤ r) × (record { state = e.0; bound = Steps (r - e.1.way.depth); mark = e.1.mark } ≡ row)
row_from r e row is = let both = cond_some (nat_le e.1.way.depth r) _ row is in (leb-true e.1.way.depth r both.0, both.1)

-- the row of an entry is made of the bound that it has
pub row_by_bound : {S M : Type 0} (most : Option ℕ) (e : Entry S M) (b : Option Bound) → b ≡ bound_for most e.1.way.depth → option_map (λ bound. record { state = e.0; bound = bound; mark = e.1.mark }) b ≡ row_for most e
row_by_bound {S} {M} (Some r) e b is = ap (option_map with_bound) is ∙ by (nat_le e.1.way.depth r)
  where
    with_bound : Bound → KeptRow S M
    with_bound bound = record { state = e.0; bound = bound; mark = e.1.mark }

    by : (low : Bool) → option_map with_bound (cond low (Some (Steps (r - e.1.way.depth))) None) ≡ cond low (Some (with_bound (Steps (r - e.1.way.depth)))) None
    by true = refl
    by false = refl
row_by_bound None e b is = ap (option_map (λ bound. record { state = e.0; bound = bound; mark = e.1.mark })) is

-- for any number of steps each entry has a row
rows_never : {S M : Type 0} (xs : List (Entry S M)) → filter_map (row_for None) xs ≡ map row_never xs
rows_never [] = refl
rows_never (x ∷ xs) = ap (λ rows. row_never x ∷ rows) (rows_never xs)

map_all : {X Y : Type 0} (h : X → Y) (P : Y → Type 0) (xs : List X) → ((i : ℕ) (x : X) → slice_get xs i ≡ Some x → P (h x)) → All P (map h xs)
map_all h P [] each = All-nil P
map_all h P (x ∷ xs) each = All-cons P (h x) (map h xs) (each 0 x refl) (map_all h P xs (λ i z got. each (suc i) z got))

map_get : {X Y : Type 0} (h : X → Y) (xs : List X) (i : ℕ) (x : X) → slice_get xs i ≡ Some x → slice_get (map h xs) i ≡ Some (h x)
map_get h [] i x got = absurd (none-some x got)
map_get h (z ∷ xs) zero x got = ap (λ y. Some (h y)) (same_Some z x got)
map_get h (z ∷ xs) (suc i) x got = map_get h xs i x got

unmarked_one : {S M : Type 0} (o : Option M) (s : S) (ss ts : List S) → ss ≡ ts → with_unmarked o s ss ≡ cons_option (state_if_kept o s) ts
unmarked_one None s ss ts same = ap (λ us. s ∷ us) same
unmarked_one (Some m) s ss ts same = same

-- the unmarked rows are those of the kept entries
pub unmarked_never : {S M : Type 0} (xs : List (Entry S M)) → unmarked (map row_never xs) ≡ kept_states xs
unmarked_never [] = refl
unmarked_never (x ∷ xs) = unmarked_one x.1.mark x.0 (unmarked (map row_never xs)) (kept_states xs) (unmarked_never xs)

pub unmarked_within : {S M : Type 0} (r : ℕ) (xs : List (Entry S M)) → ((i : ℕ) (e : Entry S M) → slice_get xs i ≡ Some e → e.1.mark ≡ None → e.1.way.depth ≤ r) → unmarked (filter_map (row_within r) xs) ≡ kept_states xs
unmarked_within r [] near = refl
unmarked_within {S} {M} r (x ∷ xs) near = by_depth (nat_le x.1.way.depth r) refl (unmarked_within r xs (λ i e got none. near (suc i) e got none))
  where
    by_depth : (b : Bool) → nat_le x.1.way.depth r ≡ b → unmarked (filter_map (row_within r) xs) ≡ kept_states xs
        → unmarked (cons_option (cond b (Some (record { state = x.0; bound = Steps (r - x.1.way.depth); mark = x.1.mark })) None) (filter_map (row_within r) xs)) ≡ cons_option (state_if_kept x.1.mark x.0) (kept_states xs)
    by_depth true is rest = unmarked_one x.1.mark x.0 (unmarked (filter_map (row_within r) xs)) (kept_states xs) rest
    by_depth false is rest = past x.1.mark refl
      where
        past : (o : Option M) → x.1.mark ≡ o → unmarked (filter_map (row_within r) xs) ≡ cons_option (state_if_kept o x.0) (kept_states xs)
        past None none = let low : x.1.way.depth ≤ r = near 0 x refl none in absurd (omega (arith, leb-false x.1.way.depth r is))
        past (Some m) mark = rest

module _ {S M : Type 0} (next : Successors S) (is_done : S → Bool) (level : S → Option ℕ) (shows : S → M → Bound → Type 0) (law : (s : S) (m : M) (b : Bound) → shows s m b → IsAdmissible next is_done (level s) s b)
    (start : S) (r limit kept : ℕ) (xs : List (Entry S M)) (whole : IsWhole next is_done level shows start r limit kept xs) where
  p : IsProgress next is_done level shows start r limit kept xs
  p = whole.progress

  near_kept : (i : ℕ) (e : Entry S M) → slice_get xs i ≡ Some e → e.1.mark ≡ None → IsKept next level start r kept e.0 e.1.way.depth
  near_kept i e got none = MatchOption-at_none (IsKept next level start r kept e.0 e.1.way.depth) (IsCutOff shows r kept e.0 e.1.way.depth e.1.bound) none (p.each i e got).verdict

  cut_of : (i : ℕ) (e : Entry S M) (m : M) → slice_get xs i ≡ Some e → e.1.mark ≡ Some m → IsCutOff shows r kept e.0 e.1.way.depth e.1.bound m
  cut_of i e m got mark = MatchOption-at_some (IsKept next level start r kept e.0 e.1.way.depth) (IsCutOff shows r kept e.0 e.1.way.depth e.1.bound) m mark (p.each i e got).verdict

  held_after : (i : ℕ) (e : Entry S M) (step : ActionId × S) → slice_get xs i ≡ Some e → e.1.mark ≡ None → Contains (next e.0) step → IsHeldBy xs step.1 (e.1.way.depth + 1)
  held_after i e step got none has = All-contains (λ (s : ActionId × S). IsHeldBy xs s.1 (e.1.way.depth + 1)) (next e.0) step (whole.expanded i e (slice_get_within xs i e got) got none) has

  -- the path to an entry is the actions of its walk
  reachable : (i : ℕ) (e : Entry S M) → slice_get xs i ≡ Some e → IsReachable next start e.0
  reachable i e got = let reached = (p.each i e got).reached in
      record { path = actions_of reached.walk; leads = record { walk = reached.walk; steps = reached.steps; carries = refl; ends = reached.ends } }

  -- rows of reached states, the unmarked ones of which have the states without a mark
  counted_of : (rows : List (KeptRow S M)) → All (λ row. IsReachable next start row.state) rows → unmarked rows ≡ kept_states xs → AreCounted next (Counts next level start r) start limit rows
  counted_of rows reached same = record {
    reached = reached;
    count = let P : List S → Type 0 = All (Counts next level start r) in subst P (sym same) (kept_all (Counts next level start r) xs (λ i e got none. (near_kept i e got none).counts));
    distinct = let P : List S → Type 0 = AllDistinct in subst P (sym same) (kept_distinct xs p.apart);
    few = let long : length (unmarked rows) ≡ kept = ap length same ∙ p.kept_is in omega (arith, long, p.few);
  }

  -- rows for r steps
  rows : List (KeptRow S M)
  rows = filter_map (row_within r) xs

  has_row : (i : ℕ) (e : Entry S M) (n : ℕ) → slice_get xs i ≡ Some e → e.1.way.depth + n ≤ r → HasRow rows e.0 n
  unfolding rows
  has_row i e n got low =
      let row : KeptRow S M = record { state = e.0; bound = Steps (r - e.1.way.depth); mark = e.1.mark } in
      let at = filter_map_get (row_within r) xs i e row got (row_is r e (omega arith)) in
      any_at (λ (row : KeptRow S M). (row.state ≡ e.0) × IsAtLeast row.bound n) rows at.0 row at.1 (refl, omega arith)

  has_row_held : (s : S) (depth n : ℕ) → IsHeldBy xs s depth → depth + n ≤ r → HasRow rows s n
  has_row_held s depth n h low = let P : S → Type 0 = λ t. HasRow rows t n in subst P h.state_is (has_row h.place h.entry n h.at (omega (arith, h.no_deeper)))

  by_steps : (i : ℕ) (e : Entry S M) → slice_get xs i ≡ Some e → e.1.mark ≡ None → (n : ℕ) → r - e.1.way.depth ≡ n → IsRefutedBySteps next rows e.0 (Steps n)
  by_steps i e got none zero is = tt
  by_steps i e got none (suc n) is = all_from_contains (λ (step : ActionId × S). HasRow rows step.1 n) (next e.0)
      (λ step has. has_row_held step.1 (e.1.way.depth + 1) n (held_after i e step got none has) (omega (arith, is)))

  above_cut : (depth : ℕ) (b : Bound) → depth ≤ r → IsCut depth b r → IsAbove b (r - depth)
  above_cut depth (Steps n) low cut = omega (arith, cut)
  above_cut depth Never low cut = tt

  refuted_row : (i : ℕ) (e : Entry S M) → slice_get xs i ≡ Some e → e.1.way.depth ≤ r → IsRefuted next is_done shows rows (record { state = e.0; bound = Steps (r - e.1.way.depth); mark = e.1.mark })
  refuted_row i e got low = record { not_done = (p.each i e got).not_done low; why = why e.1.mark refl }
    where
      why : (o : Option M) → e.1.mark ≡ o → MatchOption o (IsRefutedBySteps next rows e.0 (Steps (r - e.1.way.depth))) (λ mark. IsRefutedByMark (shows e.0) mark (Steps (r - e.1.way.depth)))
      why None none = by_steps i e got none (r - e.1.way.depth) refl
      why (Some m) mark = let cut = cut_of i e m got mark in (e.1.bound, cut.shown, above_cut e.1.way.depth e.1.bound low cut.cut)

  all_refuted : All (IsRefuted next is_done shows rows) rows
  unfolding rows
  all_refuted = filter_map_all (row_within r) (IsRefuted next is_done shows rows) xs
      (λ i e row got is. let from = row_from r e row is in let P : KeptRow S M → Type 0 = IsRefuted next is_done shows rows in subst P from.1 (refuted_row i e got from.0))

  rows_reached : All (λ (row : KeptRow S M). IsReachable next start row.state) rows
  unfolding rows
  rows_reached = filter_map_all (row_within r) (λ (row : KeptRow S M). IsReachable next start row.state) xs
      (λ i e row got is. let P : S → Type 0 = IsReachable next start in subst P (ap (λ (row : KeptRow S M). row.state) (row_from r e row is).1) (reachable i e got))

  beyond_of : HasNumber xs → IsBeyond {M = M} next shows start r limit
  beyond_of h =
      let e : Entry S M = h.entry in
      let reached = (p.each h.place e h.at).reached in
      let cut : IsCutOff shows r kept e.0 e.1.way.depth e.1.bound h.mark = cut_of h.place e h.mark h.at h.mark_is in
      let P : S → Type 0 = λ s. shows s h.mark (Steps h.number) in
      let Q : Bound → Type 0 = λ b. shows e.0 h.mark b in
      let R : Bound → Type 0 = λ b. IsCut e.1.way.depth b r in
      let over : r < e.1.way.depth + h.number = subst R h.bound_is cut.cut in
      record {
        walk = reached.walk;
        steps = reached.steps;
        no_repeat = reached.no_repeat;
        one_more = omega (arith, reached.long, (p.each h.place e h.at).one_more);
        within_limit = omega (arith, reached.long, cut.earlier, p.few);
        mark = h.mark;
        number = h.number;
        shown = subst P (sym reached.ends) (subst Q h.bound_is cut.shown);
        exceeds = omega (arith, reached.long, over);
      }

  pub no_of : HasNumber xs → (made : Vec (KeptRow S M) Global) → made.items ≡ filter_map (row_for (Some r)) xs → IsAnswer next is_done level shows start r limit (answer.No made)
  unfolding rows
  no_of number made is =
      let first : (e : Entry S M) × (slice_get xs 0 ≡ Some e) = some_at xs 0 whole.some in
      let at_start = (p.each 0 first.0 first.1).first refl in
      let P : S → Type 0 = λ s. HasRow rows s r in
      let start_row : HasRow rows start r = subst P at_start.0 (has_row 0 first.0 r first.1 (omega (arith, at_start.1))) in
      record {
        right = refutes_all next is_done level shows law rows all_refuted start r start_row;
        refuted = let Q : List (KeptRow S M) → Type 0 = λ rs. AreRefuted next is_done shows rs in subst Q (sym is) all_refuted;
        start_row = let Q : List (KeptRow S M) → Type 0 = λ rs. HasRow rs start r in subst Q (sym is) start_row;
        counted = let Q : List (KeptRow S M) → Type 0 = λ rs. AreCounted next (Counts next level start r) start limit rs in
            subst Q (sym is) (counted_of rows rows_reached (unmarked_within r xs (λ i e got none. (near_kept i e got none).near)));
        reason = beyond_of number;
      }

  -- rows for any number of steps
  module _ (never : HasNoNumber xs) where
    nevers : List (KeptRow S M)
    nevers = map row_never xs

    has_never : (s : S) (depth : ℕ) → IsHeldBy xs s depth → HasNeverRow nevers s
    unfolding nevers
    has_never s depth h = any_at (λ (row : KeptRow S M). (row.state ≡ s) × (row.bound ≡ Never)) nevers h.place (row_never h.entry) (map_get row_never xs h.place h.entry h.at) (h.state_is, refl)

    shown_never : (i : ℕ) (e : Entry S M) (m : M) → slice_get xs i ≡ Some e → e.1.mark ≡ Some m → shows e.0 m Never
    shown_never i e m got mark = let P : Bound → Type 0 = λ b. shows e.0 m b in subst P (never i e m got mark) (cut_of i e m got mark).shown

    not_done_at : (i : ℕ) (e : Entry S M) → slice_get xs i ≡ Some e → is_done e.0 ≡ false
    not_done_at i e got = by_mark e.1.mark refl (is_done e.0) refl
      where
        done_here : is_done e.0 ≡ true → IsDoneWithin next is_done e.0 0
        done_here done = record { path = []; end = e.0; leads = record { walk = []; steps = tt; carries = refl; ends = refl }; short = omega arith; done = done }

        by_mark : (o : Option M) → e.1.mark ≡ o → (b : Bool) → is_done e.0 ≡ b → is_done e.0 ≡ false
        by_mark o mark false is = is
        by_mark None mark true is = (p.each i e got).not_done (near_kept i e got mark).near
        by_mark (Some m) mark true is = absurd ((law e.0 m Never (shown_never i e m got mark)).below_steps 0 (done_here is))

    never_refuted : All (IsRefuted next is_done shows nevers) nevers
    unfolding nevers
    never_refuted = map_all row_never (IsRefuted next is_done shows nevers) xs
        (λ i e got. record { not_done = not_done_at i e got; why = why i e got e.1.mark refl })
      where
        why : (i : ℕ) (e : Entry S M) → slice_get xs i ≡ Some e → (o : Option M) → e.1.mark ≡ o → MatchOption o (IsRefutedBySteps next nevers e.0 Never) (λ mark. IsRefutedByMark (shows e.0) mark Never)
        why i e got None none = all_from_contains (λ (step : ActionId × S). HasNeverRow nevers step.1) (next e.0) (λ step has. has_never step.1 (e.1.way.depth + 1) (held_after i e step got none has))
        why i e got (Some m) mark = shown_never i e m got mark

    nevers_reached : All (λ (row : KeptRow S M). IsReachable next start row.state) nevers
    unfolding nevers
    nevers_reached = map_all row_never (λ (row : KeptRow S M). IsReachable next start row.state) xs reachable

    pub never_of : (made : Vec (KeptRow S M) Global) → made.items ≡ filter_map (row_for None) xs → IsAnswer next is_done level shows start r limit (answer.Never made)
    unfolding nevers
    never_of made are =
        let is : made.items ≡ map row_never xs = are ∙ rows_never xs in
        let first : (e : Entry S M) × (slice_get xs 0 ≡ Some e) = some_at xs 0 whole.some in
        let at_start = (p.each 0 first.0 first.1).first refl in
        let start_row : HasNeverRow nevers start = has_never start first.0.1.way.depth (record { place = 0; entry = first.0; at = first.1; state_is = at_start.0; no_deeper = omega arith }) in
        record {
          right = λ n. refutes_ever next is_done level shows law nevers never_refuted start n start_row;
          refuted = let Q : List (KeptRow S M) → Type 0 = λ rs. AreRefuted next is_done shows rs in subst Q (sym is) never_refuted;
          start_row = let Q : List (KeptRow S M) → Type 0 = λ rs. HasNeverRow rs start in subst Q (sym is) start_row;
          counted = let Q : List (KeptRow S M) → Type 0 = λ rs. AreCounted next (Counts next level start r) start limit rs in subst Q (sym is) (counted_of nevers nevers_reached (unmarked_never xs));
          reason = tt;
        }
