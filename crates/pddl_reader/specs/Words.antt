-- A property of every word of a form, and of every name of a value.
use Rattle.std.specs.Prelude.{ℕ, List, All}
use Rattle.pddl_reader.specs.Forms.{Form, Forms, Leaf, Group, End, Then}
use Rattle.pddl_reader.specs.Values.{PlainTypedName, PlainTerm, PlainLiteral, PlainSchema, PlainPredicate, PlainDomain, PlainProblem}
use Rattle.pddl_reader.specs.Values.PlainTerm.{Variable, Constant}

-- every word of the form has the property
abbrev mutual
  pub AllWords : (List ℕ → Type 0) → Form → Type 0
  AllWords P (Leaf w) = P w.text
  AllWords P (Group at forms) = AllWordsOf P forms

  pub AllWordsOf : (List ℕ → Type 0) → Forms → Type 0
  AllWordsOf P End = Unit {0}
  AllWordsOf P (Then f forms) = AllWords P f × AllWordsOf P forms

-- every name of the value has the property
pub record AllTyped (P : List ℕ → Type 0) (n : PlainTypedName) : Type 0 where
  pub name : P n.name.text
  pub types : All (λ t. P t.text) n.types

abbrev pub AllTerm : (List ℕ → Type 0) → PlainTerm → Type 0
AllTerm P (Variable w) = P w.text
AllTerm P (Constant w) = P w.text

pub record AllLiteral (P : List ℕ → Type 0) (l : PlainLiteral) : Type 0 where
  pub predicate : P l.predicate.text
  pub terms : All (AllTerm P) l.terms

pub record AllSchema (P : List ℕ → Type 0) (a : PlainSchema) : Type 0 where
  pub name : P a.name.text
  pub parameters : All (AllTyped P) a.parameters
  pub pre : All (AllLiteral P) a.pre
  pub effect : All (AllLiteral P) a.effect

pub record AllPredicate (P : List ℕ → Type 0) (p : PlainPredicate) : Type 0 where
  pub name : P p.name.text
  pub parameters : All (AllTyped P) p.parameters

pub record AllDomain (P : List ℕ → Type 0) (d : PlainDomain) : Type 0 where
  pub name : P d.name.text
  pub types : All (AllTyped P) d.types
  pub constants : All (AllTyped P) d.constants
  pub predicates : All (AllPredicate P) d.predicates
  pub actions : All (AllSchema P) d.actions

pub record AllProblem (P : List ℕ → Type 0) (p : PlainProblem) : Type 0 where
  pub name : P p.name.text
  pub domain : P p.domain.text
  pub objects : All (AllTyped P) p.objects
  pub init : All (AllLiteral P) p.init
