-- What it means that a printed text spells its value again.
use Rattle.std.specs.Prelude.{◌≡◌, ℕ, List}
use Rattle.pddl_reader.specs.Values.{PlainDomain, PlainProblem}
use Rattle.pddl_reader.specs.Spelling.{IsDomainText, IsProblemText}
use Rattle.pddl_reader.specs.Places.{IsSameDomain, IsSameProblem}

-- some text spells the value
pub record IsSpelledDomain (d : PlainDomain) : Type 0 where
  pub text : List ℕ
  pub spells : IsDomainText text d

pub record IsSpelledProblem (p : PlainProblem) : Type 0 where
  pub text : List ℕ
  pub spells : IsProblemText text p

-- the text spells a value that differs from this one in places alone, and it spells no other
pub record SpellsDomain (text : List ℕ) (d : PlainDomain) : Type 0 where
  pub value : PlainDomain
  pub spells : IsDomainText text value
  pub same : IsSameDomain value d
  pub only : (other : PlainDomain) → IsDomainText text other → other ≡ value

pub record SpellsProblem (text : List ℕ) (p : PlainProblem) : Type 0 where
  pub value : PlainProblem
  pub spells : IsProblemText text value
  pub same : IsSameProblem value p
  pub only : (other : PlainProblem) → IsProblemText text other → other ≡ value
