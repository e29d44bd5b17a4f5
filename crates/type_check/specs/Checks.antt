-- The rules of typing: what a domain and a problem must meet, and what is at fault where they don't.
use Rattle.std.specs.Prelude.{◌≡◌, ◌≢◌, ℕ, ◌≤◌, List, ◌∷◌, ◌++◌, All, Contains}
use Rattle.grd_base.specs.declared.roles.FileRole.{FileRole}
use Rattle.pddl_reader.specs.Values.{PlainDomain}
use Rattle.type_check.specs.declared.faults.TypeKind.{TypeKind}
use Rattle.type_check.specs.declared.faults.TypeFault.{TypeFault}
use Rattle.type_check.specs.Types.{object_type, Returns, FitsTypes}

-- what one rule asks for
pub data Need : Type 0 where
  -- the name is none of these
  NoneOf : List (List ℕ) → List ℕ → Need
  -- the name is one of these
  OneOf : List (List ℕ) → List ℕ → Need
  -- the declared type is not `object`, and its chain of parents doesn't return to it
  Acyclic : List ℕ → Need
  -- the count is at most the limit
  AtMost : ℕ → ℕ → Need
  -- the two counts are the same
  SameCount : ℕ → ℕ → Need
  -- each of the types is, or lies below, one of the others
  Fits : List (List ℕ) → List (List ℕ) → Need

abbrev pub Meets : PlainDomain → Need → Type 0
Meets d (NoneOf names name) = Contains names name → ⊥
Meets d (OneOf names name) = Contains names name
Meets d (Acyclic t) = (t ≢ object_type) × (Returns d t → ⊥)
Meets d (AtMost count limit) = count ≤ limit
Meets d (SameCount count other) = count ≡ other
Meets d (Fits types others) = FitsTypes d types others

-- a rule at a place: what it needs, and what is at fault where that is not met
pub record Check : Type 0 where
  pub need : Need
  pub fault : TypeFault

abbrev pub Passes : PlainDomain → Check → Type 0
Passes d check = Meets d check.need

-- the fault of a kind at a place of a file
abbrev pub fault_at : TypeKind → FileRole → ℕ → TypeFault
fault_at kind file at = record { kind = kind; file = file; at = at }

-- the first of the checks that is not passed has this fault
pub record IsFirstFault (d : PlainDomain) (checks : List Check) (fault : TypeFault) : Type 0 where
  pub before : List Check
  pub check : Check
  pub behind : List Check
  pub whole : checks ≡ before ++ check ∷ behind
  pub passed : All (Passes d) before
  pub failed : Passes d check → ⊥
  pub is : check.fault ≡ fault
