-- Rows that refute a done state.
use Rattle.std.specs.Prelude.{◌≡◌, ℕ, zero, suc, ◌≤◌, List, [], ◌∷◌, length, Option, Some, None, Bool, false, MatchOption, All, Any}
use Rattle.grd_base.specs.declared.limits.Bound.{Bound}
use Rattle.grd_base.specs.declared.limits.Bound.TheVariants.{Steps, Never}
use Rattle.search_core.specs.declared.rows.KeptRow.{KeptRow}
use Rattle.grd_base.specs.Counts.{AllDistinct}
use Rattle.search_core.specs.Spaces.{Successors, IsAtLeast, IsAbove, IsReachable}

-- some row has this state, with a bound of at least n
abbrev pub HasRow : {S M : Type 0} → List (KeptRow S M) → S → ℕ → Type 0
HasRow rows s n = Any (λ row. (row.state ≡ s) × IsAtLeast row.bound n) rows

-- some row has this state, with the bound `Never`
abbrev pub HasNeverRow : {S M : Type 0} → List (KeptRow S M) → S → Type 0
HasNeverRow rows s = Any (λ row. (row.state ≡ s) × (row.bound ≡ Never)) rows

-- a row is refuted by steps where its number is 0, or each successor has a row of at least one less;
-- one with `Never` where each successor has a row with `Never`
abbrev pub IsRefutedBySteps : {S M : Type 0} → Successors S → List (KeptRow S M) → S → Bound → Type 0
IsRefutedBySteps next rows s (Steps zero) = Unit {0}
IsRefutedBySteps next rows s (Steps (suc n)) = All (λ step. HasRow rows step.1 n) (next s)
IsRefutedBySteps next rows s Never = All (λ step. HasNeverRow rows step.1) (next s)

-- a row is refuted by a mark that shows a bound above its number; one with `Never` by a mark that
-- shows `Never`
abbrev pub IsRefutedByMark : {M : Type 0} → (M → Bound → Type 0) → M → Bound → Type 0
IsRefutedByMark shows mark (Steps n) = (shown : Bound) × shows mark shown × IsAbove shown n
IsRefutedByMark shows mark Never = shows mark Never

-- a row's state is not done, and the row is refuted by its mark or, without one, by steps
pub record IsRefuted {S M : Type 0} (next : Successors S) (is_done : S → Bool) (shows : S → M → Bound → Type 0) (rows : List (KeptRow S M)) (row : KeptRow S M) : Type 0 where
  pub not_done : is_done row.state ≡ false
  pub why : MatchOption row.mark (IsRefutedBySteps next rows row.state row.bound) (λ mark. IsRefutedByMark (shows row.state) mark row.bound)

-- each row is refuted
abbrev pub AreRefuted : {S M : Type 0} → Successors S → (S → Bool) → (S → M → Bound → Type 0) → List (KeptRow S M) → Type 0
AreRefuted next is_done shows rows = All (IsRefuted next is_done shows rows) rows

-- a state goes before others where it has no mark
abbrev pub with_unmarked : {S M : Type 0} → Option M → S → List S → List S
with_unmarked None s others = s ∷ others
with_unmarked (Some _) s others = others

-- the states of the rows without a mark
abbrev pub unmarked : {S M : Type 0} → List (KeptRow S M) → List S
unmarked [] = []
unmarked (row ∷ rows) = with_unmarked row.mark row.state (unmarked rows)

-- the rows' states are reached from the start; those without a mark have states that count, whatever
-- that is, no two the same and at most `limit` of them
pub record AreCounted {S M : Type 0} (next : Successors S) (counts : S → Type 0) (start : S) (limit : ℕ) (rows : List (KeptRow S M)) : Type 0 where
  pub reached : All (λ row. IsReachable next start row.state) rows
  pub count : All counts (unmarked rows)
  pub distinct : AllDistinct (unmarked rows)
  pub few : length (unmarked rows) ≤ limit
