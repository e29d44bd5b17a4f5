-- The rows of a search over a task: they make a valid table. A row with a mark has what is reached around its
-- lists, which suffices for each bound below the one that the mark shows; the others are rows by steps.
use Rattle.std.proofs.Common.{◌≡◌, ℕ, zero, suc, ◌+◌, ◌*◌, ◌≤◌, List, [], ◌∷◌, ◌++◌, take, length, map, get_or, ap, sym, refl, ◌∙◌, inl, inr, arith, Option, Some, None}
use mathlib.Core.Path.{subst, ap₂}
use Rattle.std.specs.Prelude.{slice_get, All, Any, Contains, IfSome, MatchOption}
use Rattle.std.specs.Option.{option_and_then}
use Rattle.std.proofs.lemmas.List.{length-map, get_or-map, map-append}
use Rattle.std.proofs.lemmas.Option.{slice_get_within, get_or_from_slice_get}
use Rattle.grd_base.proofs.ListLemmas.{take_next}
use Rattle.cost_certificate.specs.Rows.{PlainRow}
use Rattle.optimal_search.specs.declared.kept.Proved.{Proved}
use Rattle.std.proofs.lemmas.List.Elements.{All-head, All-tail, All-map, All-contains}
use Rattle.grd_base.specs.declared.bits.Bits.{Bits}
use Rattle.grd_base.specs.declared.ids.AtomId.{AtomId}
use Rattle.grd_base.specs.declared.ids.ActionId.{ActionId}
use Rattle.grd_base.specs.declared.ids.GoalId.{GoalId}
use Rattle.grd_base.specs.declared.limits.Bound.{Bound}
use Rattle.grd_base.specs.declared.limits.Bound.TheVariants.{Steps, Never}
use Rattle.grd_base.specs.Bits.{members}
use Rattle.strips_model.specs.Values.{PlainTask, IsTask, AreAtoms}
use Rattle.strips_model.specs.Plans.{State, set_of, after, step_without, goal_holds, IsOver}
use Rattle.strips_model.specs.StateLists.{atoms_in}
use Rattle.strips_model.specs.Cuts.{IsFamily}
use Rattle.strips_model.proofs.StateListLemmas.{atoms_have, are_atoms}
use Rattle.search_core.specs.declared.rows.KeptRow.{KeptRow}
use Rattle.search_core.specs.Spaces.{IsWalk, end_of, actions_of, IsAtLeast}
use Rattle.search_core.specs.Tables.{IsRefuted, IsRefutedBySteps, IsRefutedByMark, AreRefuted, HasRow, HasNeverRow, unmarked, with_unmarked}
use Rattle.cost_certificate.specs.Tables.{IsAtMost, IsSoundRow, SetsHold, RowsHold, StepsHold, CutsSuffice, HasEmptyCut, IsValidTable, IsRowOver, AreSets, HasRow as HasTableRow, with_state, states_by_steps}
use Rattle.cut_bounds.specs.CutMarks.{IsCutMark, sets_around, reached_around}
use Rattle.cut_bounds.proofs.MarkLaws.{mark_family, mark_empty, atoms_around}
use Rattle.optimal_search.specs.Space.{successors_of, holds_in, IsState}
use Rattle.cost_certificate.proofs.OrderLemmas.{at_most_along}
use Rattle.optimal_search.specs.Floors.{ShowsBound}
use Rattle.optimal_search.specs.Kept.{HasBound, row_in, rows_in}
use Rattle.optimal_search.specs.Oracles.{bound_of_row, AreRight, KnownBound, Knows, KnowsAllOf, known_of, known_by}
use Rattle.optimal_search.specs.Rows.{row_of, why_of}
use Rattle.optimal_search.proofs.SpaceLaws.{leads_walk}
use Rattle.optimal_search.proofs.ListLemmas.{any_first, Contains-map, Contains-from_map}

-- what holds of each element of a list that is made of another
all_of_map : {X Y : Type 0} (P : Y → Type 0) (f : X → Y) (xs : List X) → All P (map f xs) → All (λ x. P (f x)) xs
all_of_map P f xs all k d low = subst P (get_or-map f xs k d (f d) low) (all k (f d) (omega (arith, low, length-map xs f)))

-- some element, in a list that is made of another
any_map : {X Y : Type 0} (f : X → Y) (P R : X → Type 0) (Q : Y → Type 0) (xs : List X) → ((x : X) → R x → P x → Q (f x)) → All R xs → Any P xs → Any Q (map f xs)
any_map f P R Q xs each all some = (
  some.0,
  f some.1,
  omega (arith, some.2, length-map xs f),
  get_or-map f xs some.0 some.1 (f some.1) some.2 ∙ ap f some.3,
  each some.1 (All-contains R xs some.1 all (some.0, some.2, some.3)) some.4,
)

at_most : (r : ℕ) (bound : Bound) → IsAtLeast bound r → IsAtMost (Steps r) bound
at_most r (Steps m) least = least
at_most r Never least = tt

at_most_never : (bound : Bound) → bound ≡ Never → IsAtMost Never bound
at_most_never (Steps m) e = cc
at_most_never Never e = tt

module _ {W : ℕ} (t : PlainTask) (g : GoalId) (removed : List ActionId) (is : IsTask t) (s : Bits W) (state : IsState t s) (lists : List (List ActionId)) where
  -- the atoms that are reached around a list
  abbrev around : List ActionId → List AtomId
  around list = atoms_in t (reached_around t removed list (members s))

  around_is : (list : List ActionId) → set_of (around list) ≡ reached_around t removed list (members s)
  around_is list = atoms_around t g removed (members s) is state.over list

  -- what is reached around the lists of a mark is a family
  sets_family : (bound : Bound) → ShowsBound t g removed s lists bound → IsFamily t g removed (members s) (sets_around t removed (members s) lists)
  sets_family bound shown = mark_family t g removed (members s) is lists bound shown.cuts around around_is

  -- where they show `Never`, one set has an empty cut
  has_empty : ShowsBound t g removed s lists Never → HasEmptyCut t removed (sets_around t removed (members s) lists)
  has_empty shown =
      let one : length (sets_around t removed (members s) lists) ≡ 1 = length-map lists around ∙ ap length shown.cuts.many in
      any_first _ (sets_around t removed (members s) lists) (mark_empty t g removed (members s) is lists Never shown.cuts around around_is refl) one

  -- the cuts suffice for each bound that the mark refutes
  marks_suffice : (bound : Bound) → IsRefutedByMark (ShowsBound t g removed s) lists bound → CutsSuffice t removed (sets_around t removed (members s) lists) bound
  marks_suffice (Steps n) (Steps m, shown, above) =
      let long : length (sets_around t removed (members s) lists) ≡ length lists = length-map lists around in
      inr (omega (arith, long, shown.cuts.many.0, above))
  marks_suffice (Steps n) (Never, shown, above) = inl (has_empty shown)
  marks_suffice Never shown = has_empty shown

  -- the bound that the mark of a refuted row shows
  shown_of : (bound : Bound) → IsRefutedByMark (ShowsBound t g removed s) lists bound → (b : Bound) × ShowsBound t g removed s lists b
  shown_of (Steps n) (b, shown, above) = (b, shown)
  shown_of Never shown = (Never, shown)

  -- the family is one for the set of the atoms
  family_of_atoms : (bound : Bound) → IsRefutedByMark (ShowsBound t g removed s) lists bound
      → IsFamily t g removed (set_of (atoms_in t (members s))) (sets_around t removed (members s) lists)
  family_of_atoms bound by =
      let shown = shown_of bound by in
      subst (λ u. IsFamily t g removed u (sets_around t removed (members s) lists)) (sym (atoms_have (members s) t.atoms state.over)) (sets_family shown.0 shown.1)

-- a row that is refuted by its mark has one that shows a bound
pub mark_shows : {W : ℕ} (t : PlainTask) (g : GoalId) (removed : List ActionId) (s : Bits W) (bound : Bound) (steps : Type 0) (mark : Option (List (List ActionId)))
    → MatchOption mark steps (λ lists. IsRefutedByMark (ShowsBound t g removed s) lists bound) → IfSome mark (λ lists. (b : Bound) × IsCutMark t g removed (members s) lists b)
mark_shows t g removed s bound steps None by = tt
mark_shows t g removed s (Steps n) steps (Some lists) (b, shown, above) = (b, shown.cuts)
mark_shows t g removed s Never steps (Some lists) shown = (Never, shown.cuts)

-- the states of rows by steps: those without a mark go before others
states_with : {W : ℕ} (t : PlainTask) (removed : List ActionId) (mark : Option (List (List ActionId))) (s : Bits W) (u : State) (sets : List State) (others : List (Bits W)) → u ≡ members s → sets ≡ map members others
    → with_state (why_of t removed (members s) mark) u sets ≡ map members (with_unmarked mark s others)
states_with t removed None s u sets others here later = ap₂ ◌∷◌ here later
states_with t removed (Some mark) s u sets others here later = later

states_of_rows : {W : ℕ} (t : PlainTask) (removed : List ActionId) (rows : List (KeptRow (Bits W) (List (List ActionId)))) → All (λ row. IsState t row.state) rows
    → states_by_steps (map (row_of t removed) rows) ≡ map members (unmarked rows)
states_of_rows t removed [] states = refl
states_of_rows t removed (row ∷ rest) states =
    states_with t removed row.mark row.state (set_of (atoms_in t (members row.state))) (states_by_steps (map (row_of t removed) rest)) (unmarked rest)
    (atoms_have (members row.state) t.atoms (All-head (λ r. IsState t r.state) row rest states).over) (states_of_rows t removed rest (All-tail (λ r. IsState t r.state) row rest states))

-- the sets of a row name atoms of the task
why_atoms : (t : PlainTask) (removed : List ActionId) (s : State) (mark : Option (List (List ActionId))) → AreSets t.atoms (why_of t removed s mark)
why_atoms t removed s (Some lists) =
    All-map (AreAtoms t.atoms) (λ list. atoms_in t (reached_around t removed list s)) lists (λ k d low. are_atoms (reached_around t removed (get_or lists k d) s) t.atoms)
why_atoms t removed s None = tt

module _ {W : ℕ} (t : PlainTask) (g : GoalId) (removed : List ActionId) (is : IsTask t) (wide : t.atoms ≤ 64 * W) (rows : List (KeptRow (Bits W) (List (List ActionId)))) where
  -- the set of a row is the row's state
  set_is : (row : KeptRow (Bits W) (List (List ActionId))) → IsState t row.state → set_of (row_of t removed row).state ≡ members row.state
  set_is row state = atoms_have (members row.state) t.atoms state.over

  -- a row of the search is one of the table
  pub has_row : (s : Bits W) (r : ℕ) → All (λ row. IsState t row.state) rows → HasRow rows s r → HasTableRow (map (row_of t removed) rows) (members s) (Steps r)
  has_row s r states there =
      any_map (row_of t removed) (λ row. (row.state ≡ s) × IsAtLeast row.bound r) (λ row. IsState t row.state) (λ row. (set_of row.state ≡ members s) × IsAtMost (Steps r) row.bound) rows
      (λ row state has. (set_is row state ∙ ap (λ (x : Bits W). members x) has.0, at_most r row.bound has.1)) states there

  pub has_never : (s : Bits W) → All (λ row. IsState t row.state) rows → HasNeverRow rows s → HasTableRow (map (row_of t removed) rows) (members s) Never
  has_never s states there =
      any_map (row_of t removed) (λ row. (row.state ≡ s) × (row.bound ≡ Never)) (λ row. IsState t row.state) (λ row. (set_of row.state ≡ members s) × IsAtMost Never row.bound) rows
      (λ row state has. (set_is row state ∙ ap (λ (x : Bits W). members x) has.0, at_most_never row.bound has.1)) states there

  -- the rows by steps have the states of the rows without a mark
  pub states_unmarked : All (λ row. IsState t row.state) rows → states_by_steps (map (row_of t removed) rows) ≡ map members (unmarked rows)
  states_unmarked states = states_of_rows t removed rows states

  -- the rows name atoms of the task
  pub rows_in_task : All (IsRowOver t) (map (row_of t removed) rows)
  rows_in_task =
      let each : All (λ (row : KeptRow (Bits W) (List (List ActionId))). IsRowOver t (row_of t removed row)) rows =
      λ k d within. record { state = are_atoms (members (get_or rows k d).state) t.atoms; sets = why_atoms t removed (members (get_or rows k d).state) (get_or rows k d).mark } in
      All-map (IsRowOver t) (row_of t removed) rows each

  -- each step of the task is one of the space
  step_of : (s : Bits W) (a : ActionId) (u : State) → IsState t s → step_without t removed (members s) a ≡ Some u
      → (step : ActionId × Bits W) × Contains (successors_of t removed s) step × (members step.1 ≡ u)
  unfolding after
  step_of s a u state leads =
      let walk = leads_walk t removed is wide s (a ∷ []) u state (ap (λ o. option_and_then (λ v. after t removed v []) o) leads) in
      first walk.0 walk.1 walk.2 walk.3
    where
      last : (step : ActionId × Bits W) (rest : List (ActionId × Bits W)) → Contains (successors_of t removed s) step → actions_of rest ≡ [] → members (end_of step.1 rest) ≡ u
          → (next : ActionId × Bits W) × Contains (successors_of t removed s) next × (members next.1 ≡ u)
      last step [] there none ends = (step, there, ends)
      last step (more ∷ rest) there none ends = cc

      first : (walk : List (ActionId × Bits W)) → IsWalk (successors_of t removed) s walk → actions_of walk ≡ a ∷ [] → members (end_of s walk) ≡ u
          → (next : ActionId × Bits W) × Contains (successors_of t removed s) next × (members next.1 ≡ u)
      first [] steps carries ends = cc
      first (step ∷ rest) steps carries ends = last step rest steps.0 (let none : actions_of rest ≡ [] = cc in none) ends

  -- what refutes a row of the search by steps is what a row by steps needs
  steps_hold : All (λ row. IsState t row.state) rows → (s : Bits W) (bound : Bound) → IsState t s → IsRefutedBySteps (successors_of t removed) rows s bound
      → StepsHold t removed (map (row_of t removed) rows) (members s) bound
  steps_hold states s (Steps zero) state by = tt
  steps_hold states s (Steps (suc n)) state by = λ a u leads.
      let next = step_of s a u state leads in
      subst (λ v. HasTableRow (map (row_of t removed) rows) v (Steps n)) next.2
      (has_row next.0.1 n states (All-contains (λ (step : ActionId × Bits W). HasRow rows step.1 n) (successors_of t removed s) next.0 by next.1))
  steps_hold states s Never state by = λ a u leads.
      let next = step_of s a u state leads in
      subst (λ v. HasTableRow (map (row_of t removed) rows) v Never) next.2
      (has_never next.0.1 states (All-contains (λ (step : ActionId × Bits W). HasNeverRow rows step.1) (successors_of t removed s) next.0 by next.1))

  module _ (row : KeptRow (Bits W) (List (List ActionId))) (state : IsState t row.state) where
    -- the mark refutes the row; without one, its successors do
    abbrev RefutedBy : Option (List (List ActionId)) → Type 0
    RefutedBy mark = MatchOption mark (IsRefutedBySteps (successors_of t removed) rows row.state row.bound) (λ m. IsRefutedByMark (ShowsBound t g removed row.state) m row.bound)

    sets_hold : (mark : Option (List (List ActionId))) → RefutedBy mark → SetsHold t g removed (row_of t removed row) (why_of t removed (members row.state) mark)
    sets_hold None by = tt
    sets_hold (Some lists) by = (family_of_atoms t g removed is row.state state lists row.bound by, marks_suffice t g removed is row.state state lists row.bound by)

    rows_hold : All (λ row. IsState t row.state) rows → (mark : Option (List (List ActionId))) → RefutedBy mark
        → RowsHold t removed (map (row_of t removed) rows) (row_of t removed row) (why_of t removed (members row.state) mark)
    rows_hold states None by = subst (λ s. StepsHold t removed (map (row_of t removed) rows) s row.bound) (sym (set_is row state)) (steps_hold states row.state row.bound state by)
    rows_hold states (Some mark) by = tt

  -- rows that refute a done state make a valid table
  pub rows_valid : All (λ row. IsState t row.state) rows → AreRefuted (successors_of t removed) (holds_in t g) (ShowsBound t g removed) rows
      → IsValidTable t g removed (map (row_of t removed) rows)
  rows_valid states refuted = record {
    sound = All-map (IsSoundRow t g removed) (row_of t removed) rows
        (λ k d low. let row = get_or rows k d in record {
          leaves_open = ap (goal_holds t g) (set_is row (states k d low)) ∙ (refuted k d low).not_done;
          sets = sets_hold row (states k d low) row.mark (refuted k d low).why;
        });
    supported = All-map (λ row. RowsHold t removed (map (row_of t removed) rows) row row.why) (row_of t removed) rows
        (λ k d low. let row = get_or rows k d in rows_hold row (states k d low) states row.mark (refuted k d low).why);
  }

  -- rows that are right make a valid table
  pub right_valid : AreRight t g removed rows → IsValidTable t g removed (map (row_of t removed) rows)
  right_valid right = rows_valid right.states right.refuted

-- what is known by rows, the table of the rows has a row for
pub known_row : {W : ℕ} (t : PlainTask) (removed : List ActionId) (rows : List (KeptRow (Bits W) (List (List ActionId)))) (s : State) (bound : Bound)
    → Knows (known_by t rows) s bound → HasTableRow (map (row_of t removed) rows) s bound
known_row {W} t removed rows s bound (k, one, low, at, (same, high)) =
    let from = Contains-from_map (known_of {W = W} t) rows one (k, low, at) in
    let row = from.1 in
    let P : Bound → Type 0 = λ b. IsAtMost bound b in
    let among = Contains-map (row_of t removed) rows row (from.0, from.2, from.3) in
    (among.0, row_of t removed row, among.1, among.2, (ap (λ (x : KnownBound). set_of x.state) from.4 ∙ same, subst P (sym (ap (λ (x : KnownBound). x.bound) from.4)) high))

-- what rows of a search show of a state of the task is known by them
pub bound_known : {W : ℕ} {M : Type 0} (t : PlainTask) (rows : List (KeptRow (Bits W) M)) (s : Bits W) (bound : Bound) → IsOver t (members s) → HasBound rows s bound → Knows (known_by t rows) (members s) bound
bound_known {W} {M} t rows s bound over (k, row, low, at, (same, high)) =
    let among = Contains-map (known_of {W = W} {M = M} t) rows row (k, low, at) in
    (among.0, known_of t row, among.1, among.2, (ap (λ (x : Bits W). set_of (atoms_in t (members x))) same ∙ atoms_have (members s) t.atoms over, high))

-- what is known by rows of states of the task is shown by a row
pub known_bound : {W : ℕ} {M : Type 0} (t : PlainTask) (rows : List (KeptRow (Bits W) M)) → All (λ row. IsState t row.state) rows → (s : State) (bound : Bound) → Knows (known_by t rows) s bound
    → (x : Bits W) × IsState t x × (members x ≡ s) × HasBound rows x bound
known_bound {W} {M} t rows states s bound (k, one, low, at, (same, high)) =
    let from = Contains-from_map (known_of {W = W} {M = M} t) rows one (k, low, at) in
    let row = from.1 in
    let state = All-contains (λ (r : KeptRow (Bits W) M). IsState t r.state) rows row states (from.0, from.2, from.3) in
    let P : Bound → Type 0 = λ b. IsAtMost bound b in (
      row.state,
      state,
      sym (atoms_have (members row.state) t.atoms state.over) ∙ ap (λ (x : KnownBound). set_of x.state) from.4 ∙ same,
      (from.0, row, from.2, from.3, (refl, subst P (sym (ap (λ (x : KnownBound). x.bound) from.4)) high)),
    )

-- where no bound falls, what was known still is
pub known_grows : {W : ℕ} {M : Type 0} (t : PlainTask) (old new : List (KeptRow (Bits W) M)) → All (λ row. IsState t row.state) old → ((s : Bits W) (bound : Bound) → HasBound old s bound → HasBound new s bound)
    → KnowsAllOf (known_by t old) (known_by t new)
known_grows t old new states grows s bound known =
    let there = known_bound t old states s bound known in
    subst (λ (x : State). Knows (known_by t new) x bound) there.2 (bound_known t new there.0 bound there.1.over (grows there.0 bound there.3))

-- a row of a search shows a bound
pub row_bound : {S M : Type 0} (rows : List (KeptRow S M)) (s : S) (n : ℕ) → HasRow rows s n → HasBound rows s (Steps n)
row_bound rows s n (k, row, low, at, (same, high)) = (k, row, low, at, (same, at_most n row.bound high))

pub never_bound : {S M : Type 0} (rows : List (KeptRow S M)) (s : S) → HasNeverRow rows s → HasBound rows s Never
never_bound rows s (k, row, low, at, (same, never)) = (k, row, low, at, (same, at_most_never row.bound never))

-- where a bound is shown, a lower one is
pub lower_bound : {S M : Type 0} (rows : List (KeptRow S M)) (s : S) (low bound : Bound) → IsAtMost low bound → HasBound rows s bound → HasBound rows s low
lower_bound rows s low bound most (k, row, within, at, (same, high)) = (k, row, within, at, (same, at_most_along low bound row.bound most high))

-- the row of an entry of rows that are right is over the atoms of the task, and its mark shows a bound
pub entry_right : {W : ℕ} (t : PlainTask) (g : GoalId) (removed : List ActionId) (entries : List (Bits W × Proved (List (List ActionId)))) (n : ℕ) (x : Bits W × Proved (List (List ActionId)))
    → slice_get entries n ≡ Some x → AreRight t g removed (rows_in entries) → IsOver t (members x.0) × IfSome x.1.mark (λ lists. (b : Bound) × IsCutMark t g removed (members x.0) lists b)
entry_right {W} t g removed entries n x at right =
    let there : Contains entries x = (n, slice_get_within entries n x at, get_or_from_slice_get entries n x x at) in
    let among : Contains (rows_in entries) (row_in x) = Contains-map (row_in {S = Bits W} {M = List (List ActionId)}) entries x there in
    let state = All-contains (λ (row : KeptRow (Bits W) (List (List ActionId))). IsState t row.state) (rows_in entries) (row_in x) right.states among in
    let refuted = All-contains (IsRefuted (successors_of t removed) (holds_in t g) (ShowsBound t g removed) (rows_in entries)) (rows_in entries) (row_in x) right.refuted among in
    (state.over, mark_shows t g removed x.0 x.1.bound (IsRefutedBySteps (successors_of t removed) (rows_in entries) x.0 x.1.bound) x.1.mark refuted.why)

-- one entry more is one row more of the table
pub entry_more : {W : ℕ} (t : PlainTask) (removed : List ActionId) (entries : List (Bits W × Proved (List (List ActionId)))) (n : ℕ) (x : Bits W × Proved (List (List ActionId))) (old new : List PlainRow) (row : PlainRow)
    → slice_get entries n ≡ Some x → old ≡ map (row_of t removed) (rows_in (take n entries)) → new ≡ old ++ row ∷ [] → row ≡ row_of t removed (row_in x)
    → new ≡ map (row_of t removed) (rows_in (take (n + 1) entries))
entry_more {W} t removed entries n x old new row at before pushed made =
    let made_of : Bits W × Proved (List (List ActionId)) → PlainRow = λ e. row_of t removed (row_in e) in
    let front : List (Bits W × Proved (List (List ActionId))) = take n entries in
    let next : take (n + 1) entries ≡ front ++ x ∷ [] = take_next entries n x (slice_get_within entries n x at) (sym (get_or_from_slice_get entries n x x at)) in
    pushed
    ∙ ap (λ (r : PlainRow). old ++ r ∷ []) made
    ∙ ap (λ (rows : List PlainRow). rows ++ made_of x ∷ []) before
    ∙ sym (ap (map (row_of t removed)) (ap rows_in next ∙ map-append row_in front (x ∷ [])) ∙ map-append (row_of t removed) (rows_in front) (row_in x ∷ []))

-- the table of the rows says what is known by them
pub table_known : {W : ℕ} (t : PlainTask) (removed : List ActionId) (rows : List (KeptRow (Bits W) (List (List ActionId)))) → map bound_of_row (map (row_of t removed) rows) ≡ known_by t rows
table_known t removed [] = refl
table_known t removed (row ∷ rows) = ap (λ known. known_of t row ∷ known) (table_known t removed rows)
