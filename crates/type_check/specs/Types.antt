-- The types of a domain, and which lies below which.
use Rattle.std.specs.Prelude.{◌≡◌, ℕ, zero, suc, ◌⊎◌, Bool, not, ◌&&◌, List, [], ◌∷◌, ◌++◌, map, filter, codes, All, Any, Option, Some, None, if◌then◌else◌}
use Rattle.std.specs.Option.{option_and_then}
use Rattle.std.specs.Str.{bytes_eq}
use Rattle.pddl_reader.specs.Forms.{Word}
use Rattle.pddl_reader.specs.Values.{PlainTypedName, PlainDomain}

-- the type above all others
unfoldable pub object_type : List ℕ
object_type = codes "object"

abbrev pub texts : List Word → List (List ℕ)
texts words = map (λ w. w.text) words

abbrev pub names_of : List PlainTypedName → List (List ℕ)
names_of names = map (λ n. n.name.text) names

-- the type of a declared type, of a constant or of an object: each has one
abbrev pub first_type : List Word → List ℕ
first_type [] = object_type
first_type (t ∷ types) = t.text

abbrev pub type_of : PlainTypedName → List ℕ
type_of n = first_type n.types

-- `object` declared under `object` declares nothing
abbrev pub is_entry : PlainTypedName → Bool
is_entry n = not (bytes_eq object_type n.name.text && bytes_eq object_type (type_of n))

abbrev pub entries : PlainDomain → List PlainTypedName
entries d = filter is_entry d.types

-- the parent of a type that no entry declares: `object` has none, and each other stands under `object`
abbrev pub undeclared_parent : List ℕ → Option (List ℕ)
undeclared_parent t = if bytes_eq object_type t then None else Some object_type

-- the parent that the first of these entries of the type gives
abbrev pub parent_in : List PlainTypedName → List ℕ → Option (List ℕ)
parent_in [] t = undeclared_parent t
parent_in (n ∷ names) t = if bytes_eq n.name.text t then Some (type_of n) else parent_in names t

abbrev pub parent : PlainDomain → List ℕ → Option (List ℕ)
parent d t = parent_in (entries d) t

-- the type that stands so many parents above
abbrev pub above : PlainDomain → ℕ → List ℕ → Option (List ℕ)
above d zero t = Some t
above d (suc n) t = option_and_then (above d n) (parent d t)

-- the first is the second, or lies below it; every type is `object` or lies below it
abbrev pub LiesUnder : PlainDomain → List ℕ → List ℕ → Type 0
LiesUnder d s t = (t ≡ object_type) ⊎ ((n : ℕ) × (above d n s ≡ Some t))

-- the chain of parents from the type returns to it
abbrev pub Returns : PlainDomain → List ℕ → Type 0
Returns d t = (n : ℕ) × (above d (suc n) t ≡ Some t)

-- each of the types is, or lies below, one of the others
abbrev pub FitsTypes : PlainDomain → List (List ℕ) → List (List ℕ) → Type 0
FitsTypes d types others = All (λ s. Any (LiesUnder d s) others) types

-- each text once, at its first place
abbrev pub firsts : List (List ℕ) → List (List ℕ)
firsts [] = []
firsts (x ∷ xs) = x ∷ filter (λ y. not (bytes_eq x y)) (firsts xs)

-- the types by their numbers: `object`, then the other declared types in text order, then the parents
-- that are not declared
unfoldable pub type_names : PlainDomain → List (List ℕ)
type_names d = firsts (object_type ∷ names_of d.types ++ map type_of d.types)

-- the first place of the text in the list; where it is not there, the list's length
abbrev pub place_in : List (List ℕ) → List ℕ → ℕ
place_in [] text = 0
place_in (x ∷ xs) text = if bytes_eq x text then 0 else suc (place_in xs text)
