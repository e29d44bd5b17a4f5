-- Sets of numbers. A set is given by its test, so that membership computes,
-- and two sets are equal where they have the same members.
use Rattle.std.specs.Prelude.{ℕ, Bool, false, not, ◌||◌, ◌&&◌, ◌==◌, IsTrue}

-- a set of numbers: which numbers are members
abbrev pub Set : Type 0
Set = ℕ → Bool

-- the set without members
abbrev pub nothing : Set
nothing n = false

-- the members of s, and n
abbrev pub with_number : Set → ℕ → Set
with_number s n m = (m == n) || s m

-- the members of s but for n
abbrev pub without_number : Set → ℕ → Set
without_number s n m = not (m == n) && s m

-- the members of s and those of t
abbrev pub union : Set → Set → Set
union s t m = s m || t m

-- the members of s that are not members of t
abbrev pub minus : Set → Set → Set
minus s t m = not (t m) && s m

-- each member of s is one of t
abbrev pub IsSubset : Set → Set → Type 0
IsSubset s t = (n : ℕ) → IsTrue (s n) → IsTrue (t n)
