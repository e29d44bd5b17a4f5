-- What the answers of `least` say.
use Rattle.std.specs.Prelude.{◌≡◌, ℕ, ◌+◌, ◌-◌, ◌≤◌, ◌<◌, List, length, Option, Some, Bool, true}
use Rattle.grd_base.specs.declared.ids.ActionId.{ActionId}
use Rattle.search_core.specs.declared.rows.KeptRow.{KeptRow}
use Rattle.search_core.specs.declared.rows.LeastAnswer.{LeastAnswer}
use Rattle.search_core.specs.declared.rows.LeastAnswer.TheVariants as answer
use Rattle.search_core.specs.Spaces.{Successors, IsPath, IsDoneWithin}
use Rattle.search_core.specs.Tables.{HasRow, HasNeverRow}

-- a state counts for the least path where its distance from the start plus its level is at most the
-- least number of steps to a done state or, where none is reached, where it is reached and has a
-- level: some path leads to it whose length, plus the level, is at most the length of every path to a
-- done state
pub record CountsForLeast {S : Type 0} (next : Successors S) (is_done : S → Bool) (level : S → Option ℕ) (start s : S) : Type 0 where
  pub path : List ActionId
  pub leads : IsPath next start path s
  pub height : ℕ
  pub level_is : level s ≡ Some height
  pub near : (n : ℕ) → IsDoneWithin next is_done start n → length path + height ≤ n

-- the path leads from the start to a done state, no path to one is shorter, and it has at most `limit`
-- steps
pub record IsLeastPath {S : Type 0} (next : Successors S) (is_done : S → Bool) (start : S) (limit : ℕ) (path : List ActionId) : Type 0 where
  pub end : S
  pub leads : IsPath next start path end
  pub done : is_done end ≡ true
  pub least : (n : ℕ) → IsDoneWithin next is_done start n → length path ≤ n
  pub within_limit : length path ≤ limit

-- Found has such a path; at Never no done state is reached
abbrev pub IsLeastAnswer : {S M : Type 0} → Successors S → (S → Bool) → S → ℕ → LeastAnswer S M → Type 0
IsLeastAnswer next is_done start limit (answer.Found path rows) = IsLeastPath next is_done start limit path.items
IsLeastAnswer next is_done start limit (answer.Never rows) = (n : ℕ) → IsDoneWithin next is_done start n → ⊥

-- the rows of an answer
abbrev pub least_rows : {S M : Type 0} → LeastAnswer S M → List (KeptRow S M)
least_rows (answer.Found path rows) = rows.items
least_rows (answer.Never rows) = rows.items

-- where a path of least length has a step, the start has a row of at least one less than its length;
-- at Never the start has one with `Never`
abbrev pub HasLeastRow : {S M : Type 0} → S → LeastAnswer S M → Type 0
HasLeastRow start (answer.Found path rows) = 0 < length path.items → HasRow rows.items start (length path.items - 1)
HasLeastRow start (answer.Never rows) = HasNeverRow rows.items start
