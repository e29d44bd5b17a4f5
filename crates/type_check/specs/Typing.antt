-- What a domain and a problem that are well typed make, with numbers in the place of names.
use Rattle.std.specs.Prelude.{◌≡◌, ℕ, ◌≤◌, ◌^◌, ◌↔◌, List, map, length, Any, Contains, Some, slice_get}
use Rattle.grd_base.specs.Rising.{IsRisingBy}
use Rattle.pddl_reader.specs.Forms.{Word}
use Rattle.pddl_reader.specs.Values.{PlainTypedName, PlainTerm, PlainLiteral, PlainSchema, PlainPredicate, PlainDomain, PlainProblem}
use Rattle.pddl_reader.specs.Values.PlainTerm.{Variable, Constant}
use Rattle.pddl_reader.specs.Sections.{Pairwise}
use Rattle.pddl_reader.specs.Spelling.{IsDomainText, IsProblemText}
use Rattle.type_check.specs.declared.typed.TypedTerm.{TypedTerm}
use Rattle.type_check.specs.declared.typed.TypedTerm.TheVariants.{Parameter, Object}
use Rattle.type_check.specs.Types.{texts, names_of, type_of, type_names, place_in, LiesUnder}
use Rattle.type_check.specs.Rules.{predicate_names, all_objects, IsWellTyped}
use Rattle.type_check.specs.Values.{PlainTypedObject, PlainTypedPredicate, PlainTypedLiteral, PlainTypedSchema, PlainGroundAtom, PlainTyped}

-- some text of at most 2^20 bytes spells the value
pub record IsShortDomain (d : PlainDomain) : Type 0 where
  pub text : List ℕ
  pub short : length text ≤ 2 ^ 20
  pub spells : IsDomainText text d

pub record IsShortProblem (p : PlainProblem) : Type 0 where
  pub text : List ℕ
  pub short : length text ≤ 2 ^ 20
  pub spells : IsProblemText text p

-- an object, with the number of its type
abbrev pub typed_object : PlainDomain → PlainTypedName → PlainTypedObject
typed_object d n = record { name = n.name; kind = place_in (type_names d) (type_of n) }

-- the object with this number fits a place of these types
abbrev pub ObjectFits : PlainDomain → PlainProblem → List Word → ℕ → Type 0
ObjectFits d p types k =
    (o : PlainTypedName) × (slice_get (all_objects d p) k ≡ Some o) × Any (LiesUnder d (type_of o)) (texts types)

-- the rising list of the objects that fit a place of the parameter's types
pub record IsPlace (d : PlainDomain) (p : PlainProblem) (parameter : PlainTypedName) (place : List ℕ) : Type 0 where
  pub rises : IsRisingBy (λ k. k) place
  pub fit : (k : ℕ) → Contains place k ↔ ObjectFits d p parameter.types k

abbrev pub ArePlaces : PlainDomain → PlainProblem → List PlainTypedName → List (List ℕ) → Type 0
ArePlaces d p parameters places = Pairwise (IsPlace d p) parameters places

-- a term by its number among the parameters, or among the objects
abbrev pub typed_term : List (List ℕ) → List (List ℕ) → PlainTerm → TypedTerm
typed_term parameters objects (Variable w) = Parameter (place_in parameters w.text)
typed_term parameters objects (Constant w) = Object (place_in objects w.text)

-- a literal by the number of its predicate; an equality, which is no declared predicate, has the number behind theirs
abbrev pub typed_literal : PlainDomain → List (List ℕ) → List (List ℕ) → PlainLiteral → PlainTypedLiteral
typed_literal d parameters objects l = record {
  positive = l.positive;
  predicate = place_in (predicate_names d.predicates) l.predicate.text;
  terms = map (typed_term parameters objects) l.terms;
}

abbrev pub typed_literals : PlainDomain → PlainSchema → List PlainLiteral → List PlainTypedLiteral
typed_literals d a ls = map (typed_literal d (names_of a.parameters) (names_of d.constants)) ls

pub record IsTypedPredicate (d : PlainDomain) (p : PlainProblem) (q : PlainPredicate) (t : PlainTypedPredicate) : Type 0 where
  pub name : t.name ≡ q.name
  pub places : ArePlaces d p q.parameters t.places

pub record IsTypedSchema (d : PlainDomain) (p : PlainProblem) (a : PlainSchema) (t : PlainTypedSchema) : Type 0 where
  pub name : t.name ≡ a.name
  pub places : ArePlaces d p a.parameters t.places
  pub pre : t.pre ≡ typed_literals d a a.pre
  pub effect : t.effect ≡ typed_literals d a a.effect

-- the name of a term without variables
abbrev pub term_name : PlainTerm → List ℕ
term_name (Variable w) = w.text
term_name (Constant w) = w.text

abbrev pub ground_atom : PlainDomain → PlainProblem → PlainLiteral → PlainGroundAtom
ground_atom d p l = record {
  predicate = place_in (predicate_names d.predicates) l.predicate.text;
  objects = map (λ t. place_in (names_of (all_objects d p)) (term_name t)) l.terms;
}

-- what the domain and the problem make
pub record IsTyped (d : PlainDomain) (p : PlainProblem) (t : PlainTyped) : Type 0 where
  pub objects : t.objects ≡ map (typed_object d) (all_objects d p)
  pub predicates : Pairwise (IsTypedPredicate d p) d.predicates t.predicates
  pub schemas : Pairwise (IsTypedSchema d p) d.actions t.schemas
  pub init : t.init ≡ map (ground_atom d p) p.init

-- some domain and problem that are well typed make this
pub record IsTypedTask (t : PlainTyped) : Type 0 where
  pub domain : PlainDomain
  pub problem : PlainProblem
  pub is_domain : IsShortDomain domain
  pub is_problem : IsShortProblem problem
  pub well_typed : IsWellTyped domain problem
  pub made : IsTyped domain problem t
