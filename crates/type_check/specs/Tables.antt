-- What the tables and steps of the check mean.
use Rattle.std.specs.Prelude.{◌≡◌, ℕ, true, false, Bool, List, [], ◌∷◌, ◌++◌, All, Contains}
use Rattle.pddl_reader.specs.Values.{PlainTypedName, PlainDomain, PlainProblem, PlainSchema}
use Rattle.type_check.specs.declared.faults.CheckTypeFault.{CheckTypeFault}
use Rattle.type_check.specs.declared.faults.CheckTypeFault.TheVariants.{Typing, OutOfMemory}
use Rattle.type_check.specs.Types.{texts, type_names}
use Rattle.type_check.specs.Checks.{Check, IsFirstFault}
use Rattle.type_check.specs.Typing.{typed_literals}
use Rattle.type_check.specs.Values.{PlainTypedLiteral}

-- the name was new and stands behind the others, or it was there
abbrev pub AddsTo : List (List ℕ) → List (List ℕ) → List ℕ → Bool → Type 0
AddsTo old new name true = (Contains old name → ⊥) × (new ≡ old ++ name ∷ [])
AddsTo old new name false = Contains old name × (new ≡ old)

-- why checks are not passed: the first that is not, or want of memory
abbrev pub HasFault : PlainDomain → List Check → CheckTypeFault → Type 0
HasFault d checks (Typing fault) = IsFirstFault d checks fault
HasFault d checks OutOfMemory = Unit {0}

-- the literals of an action by their numbers
pub record PlainLiterals : Type 0 where
  pub pre : List PlainTypedLiteral
  pub effect : List PlainTypedLiteral

unfoldable pub checked_schema : PlainDomain → PlainSchema → PlainLiterals
checked_schema d a = record { pre = typed_literals d a a.pre; effect = typed_literals d a a.effect }

-- a domain and a problem
pub record PlainFiles : Type 0 where
  pub domain : PlainDomain
  pub problem : PlainProblem

-- the types of each of the names are types of the domain
pub record HaveKnownTypes (d : PlainDomain) (names : List PlainTypedName) : Type 0 where
  pub known : All (λ n. All (Contains (type_names d)) (texts n.types)) names
