-- What the answers of `within` say.
use Rattle.std.specs.Prelude.{◌≡◌, ℕ, ◌+◌, ◌≤◌, ◌<◌, List, [], length, Bool, true}
use Rattle.grd_base.specs.declared.ids.ActionId.{ActionId}
use Rattle.grd_base.specs.declared.limits.Bound.{Bound}
use Rattle.grd_base.specs.declared.limits.Bound.TheVariants.{Steps}
use Rattle.search_core.specs.declared.rows.KeptRow.{KeptRow}
use Rattle.search_core.specs.declared.rows.WithinAnswer.{WithinAnswer}
use Rattle.search_core.specs.declared.rows.WithinAnswer.TheVariants as answer
use Rattle.grd_base.specs.Counts.{AllDistinct}
use Rattle.search_core.specs.Spaces.{Successors, IsWalk, end_of, states_on, IsPath, IsDoneWithin}
use Rattle.search_core.specs.Tables.{HasRow, HasNeverRow}

-- the path leads from the start to a done state, in at most r and at most `limit` steps
pub record IsDonePath {S : Type 0} (next : Successors S) (is_done : S → Bool) (start : S) (r limit : ℕ) (path : List ActionId) : Type 0 where
  pub end : S
  pub leads : IsPath next start path end
  pub done : is_done end ≡ true
  pub short : length path ≤ r
  pub within_limit : length path ≤ limit

-- Yes has such a path; at No no done state lies within r steps of the start, at Never none lies
-- within any number of steps
abbrev pub IsTrueAnswer : {S M : Type 0} → Successors S → (S → Bool) → S → ℕ → ℕ → WithinAnswer S M → Type 0
IsTrueAnswer next is_done start r limit (answer.Yes path) = IsDonePath next is_done start r limit path.items
IsTrueAnswer next is_done start r limit (answer.No rows) = IsDoneWithin next is_done start r → ⊥
IsTrueAnswer next is_done start r limit (answer.Never rows) = (n : ℕ) → IsDoneWithin next is_done start n → ⊥

-- the rows of an answer; Yes has none
abbrev pub rows_of : {S M : Type 0} → WithinAnswer S M → List (KeptRow S M)
rows_of (answer.Yes path) = []
rows_of (answer.No rows) = rows.items
rows_of (answer.Never rows) = rows.items

-- the start has a row of at least r at No, and one with `Never` at Never
abbrev pub HasStartRow : {S M : Type 0} → S → ℕ → WithinAnswer S M → Type 0
HasStartRow start r (answer.Yes path) = Unit {0}
HasStartRow start r (answer.No rows) = HasRow rows.items start r
HasStartRow start r (answer.Never rows) = HasNeverRow rows.items start

-- some path from the start repeats no state, has at most r + 1 and at most `limit` steps, and a mark
-- shows a number for its last state which, added to the path's length, exceeds r
pub record IsBeyond {S M : Type 0} (next : Successors S) (shows : S → M → Bound → Type 0) (start : S) (r limit : ℕ) : Type 0 where
  pub walk : List (ActionId × S)
  pub steps : IsWalk next start walk
  pub no_repeat : AllDistinct (states_on start walk)
  pub one_more : length walk ≤ r + 1
  pub within_limit : length walk ≤ limit
  pub mark : M
  pub number : ℕ
  pub shown : shows (end_of start walk) mark (Steps number)
  pub exceeds : r < length walk + number

-- at No there is such a path
abbrev pub HasReason : {S M : Type 0} → Successors S → (S → M → Bound → Type 0) → S → ℕ → ℕ → WithinAnswer S M → Type 0
HasReason next shows start r limit (answer.Yes path) = Unit {0}
HasReason {S} {M} next shows start r limit (answer.No rows) = IsBeyond {M = M} next shows start r limit
HasReason next shows start r limit (answer.Never rows) = Unit {0}
