-- Chains of parents, where each type goes by its number: the parents are a list, with one for each type
-- that has one.
use Rattle.std.specs.Prelude.{◌≡◌, ℕ, zero, suc, ◌<◌, ◌≤◌, ◌^◌, ◌↔◌, IsTrue, Contains, Bool, false, List, length, map, slice_index_or, Option, Some, None}
use Rattle.std.specs.Option.{option_map, option_and_then}
use Rattle.pddl_reader.specs.Forms.{Word}
use Rattle.pddl_reader.specs.Values.{PlainTypedName, PlainDomain}
use Rattle.type_check.specs.Types.{texts, entries, parent_in, type_names, place_in}

abbrev pub parent_at : List (Option ℕ) → ℕ → Option ℕ
parent_at parents k = slice_index_or parents k None

-- the type that stands so many parents above
abbrev pub climb : List (Option ℕ) → ℕ → ℕ → Option ℕ
climb parents zero k = Some k
climb parents (suc n) k = option_and_then (climb parents n) (parent_at parents k)

-- the second is the first, or stands above it
abbrev pub LeadsTo : List (Option ℕ) → ℕ → ℕ → Type 0
LeadsTo parents j k = (n : ℕ) × (climb parents n j ≡ Some k)

-- the chain of parents from the type comes back to it
abbrev pub Circles : List (Option ℕ) → ℕ → Type 0
Circles parents k = (n : ℕ) × (climb parents (suc n) k ≡ Some k)

-- the marks of the types whose chains come back
pub record AreReturning (parents : List (Option ℕ)) (marks : List Bool) : Type 0 where
  pub each : length marks ≡ length parents
  pub marked : (k : ℕ) → IsTrue (slice_index_or marks k false) ↔ Circles parents k

-- where the chains stand after so many steps
pub record AreSteps (parents : List (Option ℕ)) (n : ℕ) (steps : List (Option ℕ)) : Type 0 where
  pub each : length steps ≡ length parents
  pub stand : (k : ℕ) → parent_at steps k ≡ climb parents n k

-- the chain from the type meets one that is marked
abbrev pub MeetsMark : List (Option ℕ) → List Bool → ℕ → Type 0
MeetsMark parents marks j = (k : ℕ) × LeadsTo parents j k × IsTrue (slice_index_or marks k false)

-- each parent is one of the types
abbrev pub AreWithin : List (Option ℕ) → Type 0
AreWithin parents = (j k : ℕ) → parent_at parents j ≡ Some k → k < length parents

-- the parents that entries give to the types of these names
abbrev pub parents_in : List (List ℕ) → List PlainTypedName → List (Option ℕ)
parents_in names list = map (λ t. option_map (place_in names) (parent_in list t)) names

abbrev pub type_parents : PlainDomain → List (Option ℕ)
type_parents d = parents_in (type_names d) (entries d)

-- the names of a domain's types by their numbers, and their parents
pub record AreTypes (d : PlainDomain) (names : List (List ℕ)) (parents : List (Option ℕ)) : Type 0 where
  pub are_names : names ≡ type_names d
  pub are_parents : parents ≡ type_parents d
  pub few : length names ≤ 2 ^ 32

-- the number of one of these words, which is a type
abbrev pub IsNumberAmong : PlainDomain → List Word → ℕ → Type 0
IsNumberAmong d words k = (t : List ℕ) × Contains (texts words) t × Contains (type_names d) t × (k ≡ place_in (type_names d) t)

-- marks at the numbers of these words, and nowhere else
pub record AreMarks (d : PlainDomain) (words : List Word) (marks : List Bool) : Type 0 where
  pub each : length marks ≡ length (type_parents d)
  pub marked : (k : ℕ) → IsTrue (slice_index_or marks k false) ↔ IsNumberAmong d words k
