-- Counts kept as a list of failures.
use Rattle.std.specs.Prelude.{ℕ, List, Bool, not, cond, ◌&&◌, count_by}
use Rattle.std.specs.Str.{bytes_eq}

-- a name that failed, and for which use: `true` for writing it, `false` for reading it
abbrev pub Failure : Type 0
Failure = List ℕ × Bool

-- a failure is of this name and this use
abbrev pub is_failure_of : List ℕ → Bool → Failure → Bool
is_failure_of name writing failure = bytes_eq name failure.0 && cond writing failure.1 (not failure.1)

-- the counts of a shelf that lists its failures: how often a name is listed for a use
abbrev pub count_of : List Failure → List ℕ → Bool → ℕ
count_of failures name writing = count_by (is_failure_of name writing) failures
