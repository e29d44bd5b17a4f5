-- What contracts see of a domain and a problem: their fields, with lists in the place of vectors.
use Rattle.std.specs.Prelude.{Bool, List}
use Rattle.pddl_reader.specs.Forms.{Word}

pub record PlainTypedName : Type 0 where
  pub name : Word
  pub types : List Word

pub data PlainTerm : Type 0 where
  Variable : Word → PlainTerm
  Constant : Word → PlainTerm

pub record PlainLiteral : Type 0 where
  pub positive : Bool
  pub predicate : Word
  pub terms : List PlainTerm

pub record PlainSchema : Type 0 where
  pub name : Word
  pub parameters : List PlainTypedName
  pub pre : List PlainLiteral
  pub effect : List PlainLiteral

pub record PlainPredicate : Type 0 where
  pub name : Word
  pub parameters : List PlainTypedName

pub record PlainDomain : Type 0 where
  pub name : Word
  pub types : List PlainTypedName
  pub constants : List PlainTypedName
  pub predicates : List PlainPredicate
  pub actions : List PlainSchema

pub record PlainProblem : Type 0 where
  pub name : Word
  pub domain : Word
  pub objects : List PlainTypedName
  pub init : List PlainLiteral
