-- What is known of a value that some form spells, by itself: its words are of the classes that may stand
-- there, and each name has a property.
use Rattle.std.proofs.Common.{◌≡◌, ◌⊎◌, ℕ, ◌<◌, true, false, List, [], ◌∷◌, length, None}
use Rattle.std.specs.Prelude.{IsTrue, All}
use Rattle.pddl_reader.specs.Kinds.{Listed, Names, Variables, Part, Precondition, Effect, Start}
use Rattle.pddl_reader.specs.Forms.{Word}
use Rattle.pddl_reader.specs.Values.{PlainTypedName, PlainTerm, PlainLiteral, PlainSchema, PlainPredicate, PlainDomain, PlainProblem}
use Rattle.pddl_reader.specs.Values.PlainTerm.{Variable, Constant}
use Rattle.pddl_reader.specs.Classes.{is_name, is_variable, is_element, takes_negation, is_predicate, head_feature}
use Rattle.pddl_reader.specs.Conditions.{has_enough}
use Rattle.pddl_reader.specs.Typed.{IsNameWord}
use Rattle.pddl_reader.specs.Words.{AllTyped, AllLiteral}

-- a name has one type, a variable at least one
abbrev pub SoundTypes : Listed → List Word → Type 0
SoundTypes Names types = (t : Word) × (types ≡ t ∷ [])
SoundTypes Variables types = 0 < length types

pub record SoundTyped (P : List ℕ → Type 0) (listed : Listed) (n : PlainTypedName) : Type 0 where
  pub name : IsTrue (is_element listed n.name.text)
  pub types : SoundTypes listed n.types
  pub are_names : All IsNameWord n.types
  pub named : AllTyped P n

abbrev pub SoundTerm : Part → PlainTerm → Type 0
SoundTerm part (Constant w) = IsTrue (is_name w.text)
SoundTerm Precondition (Variable w) = IsTrue (is_variable w.text)
SoundTerm Effect (Variable w) = IsTrue (is_variable w.text)
SoundTerm Start (Variable w) = ⊥

-- preconditions and effects may be negative; preconditions alone have equalities
pub record SoundLiteral (P : List ℕ → Type 0) (part : Part) (l : PlainLiteral) : Type 0 where
  pub sign : (l.positive ≡ true) ⊎ (l.positive ≡ false) × (takes_negation part ≡ true)
  pub name : IsTrue (is_predicate part l.predicate.text)
  pub plain : head_feature part l.predicate.text ≡ None
  pub enough : IsTrue (has_enough l.predicate.text l.terms)
  pub terms : All (SoundTerm part) l.terms
  pub named : AllLiteral P l

pub record SoundSchema (P : List ℕ → Type 0) (a : PlainSchema) : Type 0 where
  pub name : IsNameWord a.name
  pub named : P a.name.text
  pub parameters : All (SoundTyped P Variables) a.parameters
  pub pre : All (SoundLiteral P Precondition) a.pre
  pub effect : All (SoundLiteral P Effect) a.effect

pub record SoundPredicate (P : List ℕ → Type 0) (p : PlainPredicate) : Type 0 where
  pub name : IsNameWord p.name
  pub named : P p.name.text
  pub parameters : All (SoundTyped P Variables) p.parameters

-- a name that is of a document or stands alone in a section
abbrev pub SoundName : (List ℕ → Type 0) → Word → Type 0
SoundName P w = IsNameWord w × P w.text

pub record SoundDomain (P : List ℕ → Type 0) (d : PlainDomain) : Type 0 where
  pub name : SoundName P d.name
  pub types : All (SoundTyped P Names) d.types
  pub constants : All (SoundTyped P Names) d.constants
  pub predicates : All (SoundPredicate P) d.predicates
  pub actions : All (SoundSchema P) d.actions

pub record SoundProblem (P : List ℕ → Type 0) (p : PlainProblem) : Type 0 where
  pub name : SoundName P p.name
  pub domain : SoundName P p.domain
  pub objects : All (SoundTyped P Names) p.objects
  pub init : All (SoundLiteral P Start) p.init
