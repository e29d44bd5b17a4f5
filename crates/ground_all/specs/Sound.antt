-- What grounding needs of a typed domain and problem.
use Rattle.std.specs.Prelude.{◌≢◌, ℕ, ◌<◌, ◌≤◌, ◌^◌, List, length, All, AllPairs, IsTrue}
use Rattle.grd_base.specs.Rising.{IsRisingBy}
use Rattle.pddl_reader.specs.Classes.{is_name}
use Rattle.type_check.specs.declared.typed.TypedTerm.{TypedTerm}
use Rattle.type_check.specs.declared.typed.TypedTerm.TheVariants.{Parameter, Object}
use Rattle.type_check.specs.Values.{PlainTyped, PlainTypedLiteral}
use Rattle.type_check.specs.Numbered.{predicate_texts, schema_texts, object_texts}
use Rattle.type_check.specs.Ground.{IsTypedAtom}

-- at most 8 places, each with at most 1,024 objects, rising
pub record ArePlaces (places : List (List ℕ)) : Type 0 where
  pub few : length places ≤ 8
  pub rise : All (IsRisingBy (λ k. k)) places
  pub short : All (λ place. length place ≤ 1024) places

-- the places have objects with numbers below this one
abbrev pub AreBelow : ℕ → List (List ℕ) → Type 0
AreBelow count places = All (All (λ k. k < count)) places

-- a parameter's number is one of so many
abbrev pub IsTermOf : ℕ → TypedTerm → Type 0
IsTermOf parameters (Parameter n) = n < parameters
IsTermOf parameters (Object k) = Unit {0}

-- the literal's parameters are some of so many
abbrev pub IsLiteralOf : ℕ → PlainTypedLiteral → Type 0
IsLiteralOf parameters l = All (IsTermOf parameters) l.terms

-- a name of the domain or the problem
pub record IsShortName (text : List ℕ) : Type 0 where
  pub is : IsTrue (is_name text)
  pub short : length text ≤ 2 ^ 20

-- different names, each of a file
pub record AreNames (texts : List (List ℕ)) : Type 0 where
  pub differ : AllPairs (λ a b. a ≢ b) texts
  pub each : All IsShortName texts

-- counts, numbers and names are in their ranges
pub record IsSound (t : PlainTyped) : Type 0 where
  pub few_objects : length t.objects ≤ 1024
  pub few_predicates : length t.predicates ≤ 2 ^ 20
  pub few_schemas : length t.schemas ≤ 2 ^ 20
  pub predicates : All (λ q. ArePlaces q.places) t.predicates
  pub schemas : All (λ s. ArePlaces s.places) t.schemas
  pub predicate_objects : All (λ q. AreBelow (length t.objects) q.places) t.predicates
  pub schema_objects : All (λ s. AreBelow (length t.objects) s.places) t.schemas
  pub pre : All (λ s. All (IsLiteralOf (length s.places)) s.pre) t.schemas
  pub effect : All (λ s. All (IsLiteralOf (length s.places)) s.effect) t.schemas
  pub init : All (IsTypedAtom t) t.init
  pub predicate_names : AreNames (predicate_texts t)
  pub schema_names : AreNames (schema_texts t)
  pub object_names : AreNames (object_texts t)
