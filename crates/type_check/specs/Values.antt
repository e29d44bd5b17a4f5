-- What contracts see of a domain and a problem that are well typed, and of what is ground in them.
use Rattle.std.specs.Prelude.{ℕ, Bool, ◌==◌, ◌&&◌, List}
use Rattle.std.specs.Str.{bytes_eq}
use Rattle.pddl_reader.specs.Forms.{Word}
use Rattle.type_check.specs.declared.typed.TypedTerm.{TypedTerm}

pub record PlainTypedObject : Type 0 where
  pub name : Word
  pub kind : ℕ

pub record PlainTypedPredicate : Type 0 where
  pub name : Word
  pub places : List (List ℕ)

pub record PlainTypedLiteral : Type 0 where
  pub positive : Bool
  pub predicate : ℕ
  pub terms : List TypedTerm

pub record PlainTypedSchema : Type 0 where
  pub name : Word
  pub places : List (List ℕ)
  pub pre : List PlainTypedLiteral
  pub effect : List PlainTypedLiteral

pub record PlainGroundAtom : Type 0 where
  pub predicate : ℕ
  pub objects : List ℕ

abbrev pub is_same_atom : PlainGroundAtom → PlainGroundAtom → Bool
is_same_atom a b = a.predicate == b.predicate && bytes_eq a.objects b.objects

pub record PlainGroundName : Type 0 where
  pub schema : ℕ
  pub objects : List ℕ

pub record PlainTyped : Type 0 where
  pub objects : List PlainTypedObject
  pub predicates : List PlainTypedPredicate
  pub schemas : List PlainTypedSchema
  pub init : List PlainGroundAtom
