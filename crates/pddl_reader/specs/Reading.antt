-- The forms of a text as they are read, from left to right.
use Rattle.std.specs.Prelude.{ℕ, Bool, true, false, not, ◌&&◌, List, [], ◌∷◌, ◌++◌, map, codes, Option, Some, None, Result, Ok, Err, if◌then◌else◌}
use Rattle.std.specs.List.{list_any, flat_map}
use Rattle.std.specs.Str.{bytes_eq}
use Rattle.pddl_reader.specs.Forms.{Word, Form, Forms, Leaf, Group, End, Then, forms_in, place_of}
use Rattle.pddl_reader.specs.Values.{PlainTypedName, PlainTerm, PlainLiteral, PlainPredicate, PlainSchema, PlainDomain, PlainProblem}
use Rattle.pddl_reader.specs.Values.PlainTerm.{Variable, Constant}
use Rattle.pddl_reader.specs.Classes.{is_name, is_variable, is_element, is_keyword, is_one_of, accepted, section_feature, head_feature, takes_negation, is_predicate}
use Rattle.pddl_reader.specs.Conditions.{has_enough}
use Rattle.pddl_reader.specs.Typed.{typed_by, untyped}
use Rattle.pddl_reader.specs.Sections.{PartValue, HasParameters, HasPrecondition, HasEffect, part_keyword, parameters_in, preconditions_in, effects_in, SectionValue, HasRequirements, HasTypes, HasConstants, HasPredicates, HasAction, HasDomain, HasObjects, HasInit, HasGoal, kind_of, kinds_of, keyword_of, types_in, constants_in, section_predicates_in, actions_in, domains_in, objects_in, init_in}
use Rattle.pddl_reader.specs.Spelling.{document_word}
use Rattle.pddl_reader.specs.declared.faults.PddlFault.{PddlFault}
use Rattle.pddl_reader.specs.declared.faults.PddlFault.TheVariants.{Shape, Unsupported, DoubledSection}
use Rattle.pddl_reader.specs.declared.faults.Feature.{Feature}
use Rattle.pddl_reader.specs.declared.faults.Feature.TheVariants.{Requirement, EitherOfNames}
use Rattle.pddl_reader.specs.declared.kinds.Listed.{Listed}
use Rattle.pddl_reader.specs.declared.kinds.Listed.TheVariants.{Names, Variables}
use Rattle.pddl_reader.specs.declared.kinds.Part.{Part}
use Rattle.pddl_reader.specs.declared.kinds.Part.TheVariants.{Precondition, Effect, Start}
use Rattle.pddl_reader.specs.declared.kinds.Document.{Document}
use Rattle.pddl_reader.specs.declared.kinds.Document.TheVariants.{Domain as OfDomain, Problem as OfProblem}
use Rattle.pddl_reader.specs.declared.kinds.SectionKind.{SectionKind}
use Rattle.pddl_reader.specs.declared.kinds.SectionKind.TheVariants.{Requirements, Types, Constants, Predicates, Action, Domain, Objects, Init, Goal}
use Rattle.pddl_reader.specs.declared.kinds.ActionPart.{ActionPart}
use Rattle.pddl_reader.specs.declared.kinds.ActionPart.TheVariants.{Parameters, Precondition as PartPrecondition, Effect as PartEffect}

-- what is read, or the first fault
abbrev pub Read : Type 0 → Type 0
Read A = Result A PddlFault

abbrev pub and_then : {A B : Type 0} → Read A → (A → Read B) → Read B
and_then (Ok x) f = f x
and_then (Err fault) f = Err fault

-- each form in turn
abbrev pub each_at : {A : Type 0} → (Form → Read A) → List Form → Read (List A)
each_at read [] = Ok []
each_at read (f ∷ forms) = and_then (read f) (λ x. and_then (each_at read forms) (λ xs. Ok (x ∷ xs)))

abbrev pub name_at : Form → Read Word
name_at (Leaf w) = if is_name w.text then Ok w else Err (Shape w.at)
name_at (Group at forms) = Err (Shape at)

abbrev pub some_names : ℕ → List Form → Read (List Word)
some_names at [] = Err (Shape at)
some_names at (f ∷ forms) = each_at name_at (f ∷ forms)

abbrev pub either_at : ℕ → List Form → Read (List Word)
either_at at [] = Err (Shape at)
either_at at (Group a inner ∷ forms) = Err (Shape a)
either_at at (Leaf head ∷ forms) = if bytes_eq (codes "either") head.text then some_names at forms else Err (Shape head.at)

abbrev pub begins_either : List Form → Bool
begins_either [] = false
begins_either (Group a inner ∷ forms) = false
begins_either (Leaf head ∷ forms) = bytes_eq (codes "either") head.text

abbrev pub type_at : Listed → Form → Read (List Word)
type_at listed (Leaf w) = and_then (name_at (Leaf w)) (λ name. Ok (name ∷ []))
type_at Names (Group at forms) = if begins_either (forms_in forms) then Err (Unsupported at EitherOfNames) else Err (Shape at)
type_at Variables (Group at forms) = either_at at (forms_in forms)

abbrev pub is_some_dash : List Word → List ℕ → Bool
is_some_dash [] text = false
is_some_dash (w ∷ waiting) text = bytes_eq (codes "-") text

-- a typed list, behind elements that wait for their type; the list stands at the place
abbrev pub typed_from : Listed → ℕ → List Word → List Form → Read (List PlainTypedName)
typed_from listed at waiting [] = Ok (map untyped waiting)
typed_from listed at waiting (Group a inner ∷ forms) = Err (Shape a)
typed_from listed at waiting (Leaf w ∷ []) =
    if is_element listed w.text then Ok (map untyped (waiting ++ w ∷ [])) else
    if is_some_dash waiting w.text then Err (Shape at) else Err (Shape w.at)
typed_from listed at waiting (Leaf w ∷ f ∷ forms) =
    if is_element listed w.text then typed_from listed at (waiting ++ w ∷ []) (f ∷ forms) else
    if is_some_dash waiting w.text
    then and_then (type_at listed f) (λ types. and_then (typed_from listed at [] forms) (λ more. Ok (typed_by types waiting ++ more)))
    else Err (Shape w.at)

abbrev pub takes_variables : Part → Bool
takes_variables Precondition = true
takes_variables Effect = true
takes_variables Start = false

abbrev pub term_at : Part → Form → Read PlainTerm
term_at part (Leaf w) =
    if is_name w.text then Ok (Constant w) else
    if takes_variables part && is_variable w.text then Ok (Variable w) else Err (Shape w.at)
term_at part (Group at forms) = Err (Shape at)

abbrev pub atom_by : Option Feature → Part → ℕ → Word → List Form → Read PlainLiteral
atom_by (Some feature) part at w forms = Err (Unsupported at feature)
atom_by None part at w forms =
    if is_predicate part w.text then
    (if has_enough w.text forms
    then and_then (each_at (term_at part) forms) (λ terms. Ok (record { positive = true; predicate = w; terms = terms }))
    else Err (Shape at))
    else Err (Shape w.at)

abbrev pub atom_in : Part → ℕ → List Form → Read PlainLiteral
atom_in part at [] = Err (Shape at)
atom_in part at (Group a inner ∷ forms) = Err (Shape a)
atom_in part at (Leaf w ∷ forms) = atom_by (head_feature part w.text) part at w forms

abbrev pub atom_at : Part → Form → Read PlainLiteral
atom_at part (Leaf w) = Err (Shape w.at)
atom_at part (Group at forms) = atom_in part at (forms_in forms)

abbrev pub negative_of : PlainLiteral → PlainLiteral
negative_of l = record { positive = false; predicate = l.predicate; terms = l.terms }

abbrev pub negation_in : Part → ℕ → List Form → Read PlainLiteral
negation_in part at [] = Err (Shape at)
negation_in part at (f ∷ []) = and_then (atom_at part f) (λ l. Ok (negative_of l))
negation_in part at (f ∷ g ∷ forms) = and_then (atom_at part f) (λ l. Err (Shape (place_of g)))

abbrev pub literal_in : Part → ℕ → Word → List Form → Read (List PlainLiteral)
literal_in part at w forms =
    and_then (if bytes_eq (codes "not") w.text && takes_negation part then negation_in part at forms else atom_in part at (Leaf w ∷ forms)) (λ l. Ok (l ∷ []))

abbrev mutual
  pub condition_at : Part → Form → Read (List PlainLiteral)
  condition_at part (Leaf w) = Err (Shape w.at)
  condition_at part (Group at End) = Ok []
  condition_at part (Group at (Then (Group a inner) rest)) = Err (Shape a)
  condition_at part (Group at (Then (Leaf w) rest)) =
      if bytes_eq (codes "and") w.text then conditions_at part rest else literal_in part at w (forms_in rest)

  pub conditions_at : Part → Forms → Read (List PlainLiteral)
  conditions_at part End = Ok []
  conditions_at part (Then f rest) = and_then (condition_at part f) (λ ls. and_then (conditions_at part rest) (λ more. Ok (ls ++ more)))

abbrev pub predicate_in : ℕ → List Form → Read PlainPredicate
predicate_in at [] = Err (Shape at)
predicate_in at (f ∷ forms) = and_then (name_at f) (λ name. and_then (typed_from Variables at [] forms) (λ parameters. Ok (record { name = name; parameters = parameters })))

abbrev pub predicate_at : Form → Read PlainPredicate
predicate_at (Leaf w) = Err (Shape w.at)
predicate_at (Group at forms) = predicate_in at (forms_in forms)

-- the kind of parts that a keyword names
abbrev pub part_by : List ℕ → Option ActionPart
part_by text =
    if bytes_eq (codes ":parameters") text then Some Parameters else
    if bytes_eq (codes ":precondition") text then Some PartPrecondition else
    if bytes_eq (codes ":effect") text then Some PartEffect else None

abbrev pub same_part : ActionPart → ActionPart → Bool
same_part p q = bytes_eq (part_keyword p) (part_keyword q)

abbrev pub part_at : ActionPart → Form → Read PartValue
part_at Parameters (Leaf w) = Err (Shape w.at)
part_at Parameters (Group at forms) = and_then (typed_from Variables at [] (forms_in forms)) (λ parameters. Ok (HasParameters parameters))
part_at PartPrecondition f = and_then (condition_at Precondition f) (λ ls. Ok (HasPrecondition ls))
part_at PartEffect f = and_then (condition_at Effect f) (λ ls. Ok (HasEffect ls))

-- the keyword of a part that may come behind these
abbrev pub new_part : Option ActionPart → List ActionPart → Word → Read ActionPart
new_part None given w = Err (Shape w.at)
new_part (Some part) given w = if list_any (same_part part) given then Err (DoubledSection w.at) else Ok part

abbrev pub parts_from : ℕ → List ActionPart → List Form → Read (List PartValue)
parts_from at given [] = Ok []
parts_from at given (Group a inner ∷ forms) = Err (Shape a)
parts_from at given (Leaf w ∷ []) = and_then (new_part (part_by w.text) given w) (λ part. Err (Shape at))
parts_from at given (Leaf w ∷ f ∷ forms) =
    and_then (new_part (part_by w.text) given w) (λ part. and_then (part_at part f) (λ value. and_then (parts_from at (given ++ part ∷ []) forms) (λ more. Ok (value ∷ more))))

abbrev pub action_of : Word → List PartValue → PlainSchema
action_of name parts = record {
  name = name;
  parameters = flat_map parameters_in parts;
  pre = flat_map preconditions_in parts;
  effect = flat_map effects_in parts;
}

abbrev pub action_in : ℕ → List Form → Read PlainSchema
action_in at [] = Err (Shape at)
action_in at (f ∷ forms) = and_then (name_at f) (λ name. and_then (parts_from at [] forms) (λ parts. Ok (action_of name parts)))

abbrev pub requirement_at : Form → Read Word
requirement_at (Leaf w) =
    if is_one_of accepted w.text then Ok w else
    if is_keyword w.text then Err (Unsupported w.at Requirement) else Err (Shape w.at)
requirement_at (Group at forms) = Err (Shape at)

abbrev pub one_name : ℕ → List Form → Read Word
one_name at [] = Err (Shape at)
one_name at (f ∷ []) = name_at f
one_name at (f ∷ g ∷ forms) = and_then (name_at f) (λ name. Err (Shape (place_of g)))

abbrev pub one_form : ℕ → List Form → Read Form
one_form at [] = Err (Shape at)
one_form at (f ∷ []) = Ok f
one_form at (f ∷ g ∷ forms) = Err (Shape (place_of g))

-- the content of a section of the kind, behind its keyword
abbrev pub content_in : SectionKind → ℕ → List Form → Read SectionValue
content_in Requirements at forms = and_then (each_at requirement_at forms) (λ words. Ok HasRequirements)
content_in Types at forms = and_then (typed_from Names at [] forms) (λ names. Ok (HasTypes names))
content_in Constants at forms = and_then (typed_from Names at [] forms) (λ names. Ok (HasConstants names))
content_in Predicates at forms = and_then (each_at predicate_at forms) (λ predicates. Ok (HasPredicates predicates))
content_in Action at forms = and_then (action_in at forms) (λ action. Ok (HasAction action))
content_in Domain at forms = and_then (one_name at forms) (λ name. Ok (HasDomain name))
content_in Objects at forms = and_then (typed_from Names at [] forms) (λ names. Ok (HasObjects names))
content_in Init at forms = and_then (each_at (atom_at Start) forms) (λ atoms. Ok (HasInit atoms))
content_in Goal at forms = and_then (one_form at forms) (λ f. Ok HasGoal)

-- the first of the kinds that the keyword names
abbrev pub kind_by : List SectionKind → List ℕ → Option SectionKind
kind_by [] text = None
kind_by (kind ∷ kinds) text = if bytes_eq (keyword_of kind) text then Some kind else kind_by kinds text

abbrev pub same_kind : SectionKind → SectionKind → Bool
same_kind a b = bytes_eq (keyword_of a) (keyword_of b)

abbrev pub is_repeated : SectionKind → List SectionKind → Bool
is_repeated kind given = not (same_kind kind Action) && list_any (same_kind kind) given

-- the kind of a section that may come behind these
abbrev pub new_kind : Option Feature → Option SectionKind → List SectionKind → ℕ → Word → Read SectionKind
new_kind (Some feature) kind given at w = Err (Unsupported at feature)
new_kind None None given at w = Err (Shape w.at)
new_kind None (Some kind) given at w = if is_repeated kind given then Err (DoubledSection at) else Ok kind

abbrev pub section_in : Document → List SectionKind → ℕ → List Form → Read SectionValue
section_in document given at [] = Err (Shape at)
section_in document given at (Group a inner ∷ forms) = Err (Shape a)
section_in document given at (Leaf w ∷ forms) =
    and_then (new_kind (section_feature w.text) (kind_by (kinds_of document) w.text) given at w) (λ kind. content_in kind at forms)

abbrev pub section_at : Document → List SectionKind → Form → Read SectionValue
section_at document given (Leaf w) = Err (Shape w.at)
section_at document given (Group at forms) = section_in document given at (forms_in forms)

abbrev pub sections_from : Document → List SectionKind → List Form → Read (List SectionValue)
sections_from document given [] = Ok []
sections_from document given (f ∷ forms) =
    and_then (section_at document given f) (λ section. and_then (sections_from document (given ++ kind_of section ∷ []) forms) (λ more. Ok (section ∷ more)))

abbrev pub head_in : Document → ℕ → List Form → Read Word
head_in document at [] = Err (Shape at)
head_in document at (Group a inner ∷ forms) = Err (Shape a)
head_in document at (Leaf w ∷ forms) = if bytes_eq (document_word document) w.text then one_name at forms else Err (Shape w.at)

abbrev pub head_at : Document → Form → Read Word
head_at document (Leaf w) = Err (Shape w.at)
head_at document (Group at forms) = head_in document at (forms_in forms)

-- the name and the sections of a document
abbrev pub document_rest : Document → ℕ → List Form → Read (Word × List SectionValue)
document_rest document at [] = Err (Shape at)
document_rest document at (head ∷ forms) =
    and_then (head_at document head) (λ name. and_then (sections_from document [] forms) (λ sections. Ok (name, sections)))

abbrev pub document_in : Document → ℕ → List Form → Read (Word × List SectionValue)
document_in document at [] = Err (Shape at)
document_in document at (Group a inner ∷ forms) = Err (Shape a)
document_in document at (Leaf w ∷ forms) = if bytes_eq (codes "define") w.text then document_rest document at forms else Err (Shape w.at)

abbrev pub domain_of : Word → List SectionValue → PlainDomain
domain_of name sections = record {
  name = name;
  types = flat_map types_in sections;
  constants = flat_map constants_in sections;
  predicates = flat_map section_predicates_in sections;
  actions = flat_map actions_in sections;
}

-- the domain of a form in brackets at the place
abbrev pub domain_in : ℕ → List Form → Read PlainDomain
domain_in at forms = and_then (document_in OfDomain at forms) (λ x. Ok (domain_of x.0 x.1))

-- a problem of these sections, or that one is missing
abbrev pub problem_of : ℕ → Word → List Word → List SectionValue → Read PlainProblem
problem_of at name [] sections = Err (Shape at)
problem_of at name (domain ∷ more) sections =
    if list_any (λ s. same_kind (kind_of s) Init) sections
    then Ok (record { name = name; domain = domain; objects = flat_map objects_in sections; init = flat_map init_in sections })
    else Err (Shape at)

abbrev pub problem_in : ℕ → List Form → Read PlainProblem
problem_in at forms = and_then (document_in OfProblem at forms) (λ x. problem_of at x.0 (flat_map domains_in x.1) x.1)
