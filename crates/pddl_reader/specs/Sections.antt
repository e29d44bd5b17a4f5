-- The sections of domains and problems. They come in any order; each but ':action' at most once.
use Rattle.std.specs.Prelude.{◌≡◌, ◌≢◌, ℕ, IsTrue, List, [], ◌∷◌, codes, All, AllPairs}
use Rattle.pddl_reader.specs.Forms.{Word, Form, Leaf, group}
use Rattle.pddl_reader.specs.Values.{PlainTypedName, PlainLiteral, PlainPredicate, PlainSchema}
use Rattle.pddl_reader.specs.Classes.{is_one_of, accepted}
use Rattle.pddl_reader.specs.Typed.{IsNameWord, IsTypedList}
use Rattle.pddl_reader.specs.Conditions.{IsCondition, IsStartAtom}
use Rattle.std.specs.List.{flat_map}
use Rattle.pddl_reader.specs.declared.kinds.Listed.TheVariants.{Names, Variables}
use Rattle.pddl_reader.specs.declared.kinds.Part.TheVariants.{Precondition, Effect}
use Rattle.pddl_reader.specs.declared.kinds.Document.{Document}
use Rattle.pddl_reader.specs.declared.kinds.Document.TheVariants.{Domain as OfDomain, Problem as OfProblem}
use Rattle.pddl_reader.specs.declared.kinds.SectionKind.{SectionKind}
use Rattle.pddl_reader.specs.declared.kinds.SectionKind.TheVariants.{Requirements, Types, Constants, Predicates, Action, Domain, Objects, Init, Goal}
use Rattle.pddl_reader.specs.declared.kinds.ActionPart.{ActionPart}
use Rattle.pddl_reader.specs.declared.kinds.ActionPart.TheVariants.{Parameters, Precondition as PartPrecondition, Effect as PartEffect}

-- one by one
abbrev pub Pairwise : {X Y : Type 0} → (X → Y → Type 0) → List X → List Y → Type 0
Pairwise R [] [] = Unit {0}
Pairwise R (x ∷ xs) (y ∷ ys) = R x y × Pairwise R xs ys
Pairwise R xs ys = ⊥

-- the keyword of a part of an action
abbrev pub part_keyword : ActionPart → List ℕ
part_keyword Parameters = codes ":parameters"
part_keyword PartPrecondition = codes ":precondition"
part_keyword PartEffect = codes ":effect"

-- a part of an action with its value
pub data PartValue : Type 0 where
  HasParameters : List PlainTypedName → PartValue
  HasPrecondition : List PlainLiteral → PartValue
  HasEffect : List PlainLiteral → PartValue

abbrev pub part_of : PartValue → ActionPart
part_of (HasParameters parameters) = Parameters
part_of (HasPrecondition ls) = PartPrecondition
part_of (HasEffect ls) = PartEffect

-- the form behind the keyword has the value
abbrev pub IsPart : Form → PartValue → Type 0
IsPart f (HasParameters parameters) = (at : ℕ) × (forms : List Form) × (f ≡ group at forms) × IsTypedList Variables forms parameters
IsPart f (HasPrecondition ls) = IsCondition Precondition f ls
IsPart f (HasEffect ls) = IsCondition Effect f ls

-- keywords, each with the form of its part behind it
abbrev pub AreParts : List Form → List PartValue → Type 0
AreParts [] [] = Unit {0}
AreParts (Leaf w ∷ f ∷ forms) (p ∷ parts) = (w.text ≡ part_keyword (part_of p)) × IsPart f p × AreParts forms parts
AreParts forms parts = ⊥

-- what a part gives to the parameters, the precondition and the effect
abbrev pub parameters_in : PartValue → List PlainTypedName
parameters_in (HasParameters parameters) = parameters
parameters_in (HasPrecondition ls) = []
parameters_in (HasEffect ls) = []

abbrev pub preconditions_in : PartValue → List PlainLiteral
preconditions_in (HasParameters parameters) = []
preconditions_in (HasPrecondition ls) = ls
preconditions_in (HasEffect ls) = []

abbrev pub effects_in : PartValue → List PlainLiteral
effects_in (HasParameters parameters) = []
effects_in (HasPrecondition ls) = []
effects_in (HasEffect ls) = ls

-- the forms behind ':action' are the name and the parts, each at most once; a missing part is empty
pub record IsAction (forms : List Form) (a : PlainSchema) : Type 0 where
  pub part_forms : List Form
  pub parts : List PartValue
  pub whole : forms ≡ Leaf a.name ∷ part_forms
  pub name : IsNameWord a.name
  pub are_parts : AreParts part_forms parts
  pub once : AllPairs (λ p q. part_of p ≢ part_of q) parts
  pub parameters : a.parameters ≡ flat_map parameters_in parts
  pub pre : a.pre ≡ flat_map preconditions_in parts
  pub effect : a.effect ≡ flat_map effects_in parts

-- a declared predicate: its name and its typed variables
pub record IsPredicate (f : Form) (p : PlainPredicate) : Type 0 where
  pub at : ℕ
  pub forms : List Form
  pub whole : f ≡ group at (Leaf p.name ∷ forms)
  pub name : IsNameWord p.name
  pub parameters : IsTypedList Variables forms p.parameters

-- the keyword of a kind of sections, and the kinds that each document may have
abbrev pub keyword_of : SectionKind → List ℕ
keyword_of Requirements = codes ":requirements"
keyword_of Types = codes ":types"
keyword_of Constants = codes ":constants"
keyword_of Predicates = codes ":predicates"
keyword_of Action = codes ":action"
keyword_of Domain = codes ":domain"
keyword_of Objects = codes ":objects"
keyword_of Init = codes ":init"
keyword_of Goal = codes ":goal"

abbrev pub kinds_of : Document → List SectionKind
kinds_of OfDomain = Requirements ∷ Types ∷ Constants ∷ Predicates ∷ Action ∷ []
kinds_of OfProblem = Requirements ∷ Domain ∷ Objects ∷ Init ∷ Goal ∷ []

-- a section with its value; requirements and the goal are not kept
pub data SectionValue : Type 0 where
  HasRequirements : SectionValue
  HasTypes : List PlainTypedName → SectionValue
  HasConstants : List PlainTypedName → SectionValue
  HasPredicates : List PlainPredicate → SectionValue
  HasAction : PlainSchema → SectionValue
  HasDomain : Word → SectionValue
  HasObjects : List PlainTypedName → SectionValue
  HasInit : List PlainLiteral → SectionValue
  HasGoal : SectionValue

abbrev pub kind_of : SectionValue → SectionKind
kind_of HasRequirements = Requirements
kind_of (HasTypes names) = Types
kind_of (HasConstants names) = Constants
kind_of (HasPredicates predicates) = Predicates
kind_of (HasAction action) = Action
kind_of (HasDomain name) = Domain
kind_of (HasObjects names) = Objects
kind_of (HasInit atoms) = Init
kind_of HasGoal = Goal

-- a requirement that is accepted
abbrev pub IsAccepted : Form → Type 0
IsAccepted f = (w : Word) × (f ≡ Leaf w) × IsTrue (is_one_of accepted w.text)

-- the forms behind the section's keyword have the value
abbrev pub IsContent : List Form → SectionValue → Type 0
IsContent forms HasRequirements = All IsAccepted forms
IsContent forms (HasTypes names) = IsTypedList Names forms names
IsContent forms (HasConstants names) = IsTypedList Names forms names
IsContent forms (HasPredicates predicates) = Pairwise IsPredicate forms predicates
IsContent forms (HasAction action) = IsAction forms action
IsContent forms (HasDomain name) = (forms ≡ Leaf name ∷ []) × IsNameWord name
IsContent forms (HasObjects names) = IsTypedList Names forms names
IsContent forms (HasInit atoms) = Pairwise IsStartAtom forms atoms
IsContent forms HasGoal = (f : Form) × (forms ≡ f ∷ [])

-- the form is the section: its keyword and its content in brackets
pub record IsSection (f : Form) (s : SectionValue) : Type 0 where
  pub at : ℕ
  pub head : Word
  pub forms : List Form
  pub whole : f ≡ group at (Leaf head ∷ forms)
  pub keyword : head.text ≡ keyword_of (kind_of s)
  pub content : IsContent forms s

-- what a section gives to the types, the constants, and so on
abbrev pub types_in : SectionValue → List PlainTypedName
types_in (HasTypes names) = names
types_in s = []

abbrev pub constants_in : SectionValue → List PlainTypedName
constants_in (HasConstants names) = names
constants_in s = []

abbrev pub section_predicates_in : SectionValue → List PlainPredicate
section_predicates_in (HasPredicates predicates) = predicates
section_predicates_in s = []

abbrev pub actions_in : SectionValue → List PlainSchema
actions_in (HasAction action) = action ∷ []
actions_in s = []

abbrev pub domains_in : SectionValue → List Word
domains_in (HasDomain name) = name ∷ []
domains_in s = []

abbrev pub objects_in : SectionValue → List PlainTypedName
objects_in (HasObjects names) = names
objects_in s = []

abbrev pub init_in : SectionValue → List PlainLiteral
init_in (HasInit atoms) = atoms
init_in s = []
