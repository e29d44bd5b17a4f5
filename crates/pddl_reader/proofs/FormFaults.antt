-- What is at fault in forms is never a byte or a bracket.
use Rattle.std.proofs.Common.{◌≡◌, ℕ, Bool, true, false, cond, List, [], ◌∷◌, ◌++◌, codes, Option, Some, None, Ok, Err, refl}
use Rattle.std.specs.Prelude.{◌&&◌, if◌then◌else◌}
use Rattle.std.specs.List.{list_any, flat_map}
use Rattle.std.specs.Str.{bytes_eq}
use Rattle.pddl_reader.specs.declared.faults.PddlFault.{PddlFault}
use Rattle.pddl_reader.specs.declared.faults.PddlFault.TheVariants.{Lex, Tree, Shape, Unsupported, DoubledSection, OutOfMemory}
use Rattle.pddl_reader.specs.declared.faults.Feature.{Feature}
use Rattle.pddl_reader.specs.declared.faults.Feature.TheVariants.{Requirement, EitherOfNames}
use Rattle.pddl_reader.specs.declared.kinds.ActionPart.{ActionPart}
use Rattle.pddl_reader.specs.declared.kinds.ActionPart.TheVariants.{Parameters, Precondition as PartPrecondition, Effect as PartEffect}
use Rattle.pddl_reader.specs.declared.kinds.Document.{Document}
use Rattle.pddl_reader.specs.declared.kinds.Document.TheVariants.{Domain as OfDomain, Problem as OfProblem}
use Rattle.pddl_reader.specs.declared.kinds.Listed.{Listed}
use Rattle.pddl_reader.specs.declared.kinds.Listed.TheVariants.{Names, Variables}
use Rattle.pddl_reader.specs.declared.kinds.Part.{Part}
use Rattle.pddl_reader.specs.declared.kinds.Part.TheVariants.{Precondition, Effect, Start}
use Rattle.pddl_reader.specs.declared.kinds.SectionKind.{SectionKind}
use Rattle.pddl_reader.specs.declared.kinds.SectionKind.TheVariants.{Requirements, Types, Constants, Predicates, Action, Domain, Objects, Init, Goal}
use Rattle.pddl_reader.specs.Classes.{is_name, is_variable, is_element, is_keyword, is_one_of, accepted, section_feature, head_feature, takes_negation, is_predicate}
use Rattle.pddl_reader.specs.Conditions.{has_enough}
use Rattle.pddl_reader.specs.Forms.{Word, Form, Forms, Leaf, Group, End, Then, forms_in}
use Rattle.pddl_reader.specs.Reading.{Read, and_then, each_at, name_at, some_names, either_at, begins_either, type_at, is_some_dash, typed_from, takes_variables, term_at, atom_by, atom_in, atom_at, negation_in, literal_in, condition_at, conditions_at, predicate_in, predicate_at, part_by, same_part, part_at, new_part, parts_from, action_in, requirement_at, one_name, one_form, content_in, kind_by, same_kind, is_repeated, new_kind, section_in, section_at, sections_from, head_at, document_rest, document_in, domain_of, domain_in, problem_of, problem_in}
use Rattle.pddl_reader.specs.Sections.{SectionValue, kind_of, kinds_of, domains_in}
use Rattle.pddl_reader.specs.Spelling.{document_word}

abbrev pub is_of_form : PddlFault → Bool
is_of_form (Lex at) = false
is_of_form (Tree fault) = false
is_of_form (Shape at) = true
is_of_form (Unsupported at feature) = true
is_of_form (DoubledSection at) = true
is_of_form OutOfMemory = false

abbrev pub IsOnForms : {A : Type 0} → Read A → Type 0
IsOnForms (Ok x) = Unit {0}
IsOnForms (Err fault) = is_of_form fault ≡ true

on_then : {A B : Type 0} (read : Read A) (next : A → Read B) → IsOnForms read → ((x : A) → IsOnForms (next x)) → IsOnForms (and_then read next)
on_then (Ok x) next h k = k x
on_then (Err fault) next h k = h

on_if : {A : Type 0} (b : Bool) (x y : Read A) → IsOnForms x → IsOnForms y → IsOnForms (cond b x y)
on_if true x y h k = h
on_if false x y h k = k

on_each : {A : Type 0} (read : Form → Read A) → ((f : Form) → IsOnForms (read f)) → (forms : List Form) → IsOnForms (each_at read forms)
on_each read h [] = tt
on_each read h (f ∷ forms) = on_then (read f) _ (h f) (λ x. on_then (each_at read forms) _ (on_each read h forms) (λ xs. tt))

on_name : (f : Form) → IsOnForms (name_at f)
on_name (Leaf w) = on_if (is_name w.text) (Ok w) (Err (Shape w.at)) tt refl
on_name (Group at forms) = refl

on_some_names : (at : ℕ) (forms : List Form) → IsOnForms (some_names at forms)
on_some_names at [] = refl
on_some_names at (f ∷ forms) = on_each name_at on_name (f ∷ forms)

on_either : (at : ℕ) (forms : List Form) → IsOnForms (either_at at forms)
on_either at [] = refl
on_either at (Group a inner ∷ forms) = refl
on_either at (Leaf head ∷ forms) = on_if (bytes_eq (codes "either") head.text) (some_names at forms) (Err (Shape head.at)) (on_some_names at forms) refl

on_type : (listed : Listed) (f : Form) → IsOnForms (type_at listed f)
on_type listed (Leaf w) = on_then (name_at (Leaf w)) _ (on_name (Leaf w)) (λ name. tt)
on_type Names (Group at forms) = on_if (begins_either (forms_in forms)) (Err (Unsupported at EitherOfNames)) (Err (Shape at)) refl refl
on_type Variables (Group at forms) = on_either at (forms_in forms)

on_typed : (listed : Listed) (at : ℕ) (waiting : List Word) (forms : List Form) → IsOnForms (typed_from listed at waiting forms)
on_typed listed at waiting [] = tt
on_typed listed at waiting (Group a inner ∷ forms) = refl
on_typed listed at waiting (Leaf w ∷ []) =
    on_if (is_element listed w.text) _ _ tt (on_if (is_some_dash waiting w.text) (Err (Shape at)) (Err (Shape w.at)) refl refl)
on_typed listed at waiting (Leaf w ∷ f ∷ forms) =
    on_if (is_element listed w.text) _ _ (on_typed listed at (waiting ++ w ∷ []) (f ∷ forms))
    (on_if (is_some_dash waiting w.text) _ (Err (Shape w.at))
    (on_then (type_at listed f) _ (on_type listed f) (λ types. on_then (typed_from listed at [] forms) _ (on_typed listed at [] forms) (λ more. tt)))
    refl)

on_term : (part : Part) (f : Form) → IsOnForms (term_at part f)
on_term part (Leaf w) = on_if (is_name w.text) _ _ tt (on_if (takes_variables part && is_variable w.text) _ (Err (Shape w.at)) tt refl)
on_term part (Group at forms) = refl

on_atom_by : (feature : Option Feature) (part : Part) (at : ℕ) (w : Word) (forms : List Form) → IsOnForms (atom_by feature part at w forms)
on_atom_by (Some feature) part at w forms = refl
on_atom_by None part at w forms =
    on_if (is_predicate part w.text) _ (Err (Shape w.at))
    (on_if (has_enough w.text forms) _ (Err (Shape at)) (on_then (each_at (term_at part) forms) _ (on_each (term_at part) (on_term part) forms) (λ terms. tt)) refl)
    refl

on_atom_in : (part : Part) (at : ℕ) (forms : List Form) → IsOnForms (atom_in part at forms)
on_atom_in part at [] = refl
on_atom_in part at (Group a inner ∷ forms) = refl
on_atom_in part at (Leaf w ∷ forms) = on_atom_by (head_feature part w.text) part at w forms

on_atom : (part : Part) (f : Form) → IsOnForms (atom_at part f)
on_atom part (Leaf w) = refl
on_atom part (Group at forms) = on_atom_in part at (forms_in forms)

on_negation : (part : Part) (at : ℕ) (forms : List Form) → IsOnForms (negation_in part at forms)
on_negation part at [] = refl
on_negation part at (f ∷ []) = on_then (atom_at part f) _ (on_atom part f) (λ l. tt)
on_negation part at (f ∷ g ∷ forms) = on_then (atom_at part f) _ (on_atom part f) (λ l. refl)

on_literal : (part : Part) (at : ℕ) (w : Word) (forms : List Form) → IsOnForms (literal_in part at w forms)
on_literal part at w forms =
    on_then (if bytes_eq (codes "not") w.text && takes_negation part then negation_in part at forms else atom_in part at (Leaf w ∷ forms)) _
    (on_if (bytes_eq (codes "not") w.text && takes_negation part) (negation_in part at forms) (atom_in part at (Leaf w ∷ forms)) (on_negation part at forms) (on_atom_in part at (Leaf w ∷ forms)))
    (λ l. tt)

mutual
  on_condition : (part : Part) (f : Form) → IsOnForms (condition_at part f)
  on_condition part (Leaf w) = refl
  on_condition part (Group at End) = tt
  on_condition part (Group at (Then (Group a inner) rest)) = refl
  on_condition part (Group at (Then (Leaf w) rest)) =
      on_if (bytes_eq (codes "and") w.text) (conditions_at part rest) (literal_in part at w (forms_in rest)) (on_conditions part rest) (on_literal part at w (forms_in rest))

  on_conditions : (part : Part) (forms : Forms) → IsOnForms (conditions_at part forms)
  on_conditions part End = tt
  on_conditions part (Then f rest) = on_then (condition_at part f) _ (on_condition part f) (λ ls. on_then (conditions_at part rest) _ (on_conditions part rest) (λ more. tt))

on_predicate_in : (at : ℕ) (forms : List Form) → IsOnForms (predicate_in at forms)
on_predicate_in at [] = refl
on_predicate_in at (f ∷ forms) = on_then (name_at f) _ (on_name f) (λ name. on_then (typed_from Variables at [] forms) _ (on_typed Variables at [] forms) (λ parameters. tt))

on_predicate : (f : Form) → IsOnForms (predicate_at f)
on_predicate (Leaf w) = refl
on_predicate (Group at forms) = on_predicate_in at (forms_in forms)

on_part : (part : ActionPart) (f : Form) → IsOnForms (part_at part f)
on_part Parameters (Leaf w) = refl
on_part Parameters (Group at forms) = on_then (typed_from Variables at [] (forms_in forms)) _ (on_typed Variables at [] (forms_in forms)) (λ parameters. tt)
on_part PartPrecondition f = on_then (condition_at Precondition f) _ (on_condition Precondition f) (λ ls. tt)
on_part PartEffect f = on_then (condition_at Effect f) _ (on_condition Effect f) (λ ls. tt)

on_new_part : (part : Option ActionPart) (given : List ActionPart) (w : Word) → IsOnForms (new_part part given w)
on_new_part None given w = refl
on_new_part (Some part) given w = on_if (list_any (same_part part) given) (Err (DoubledSection w.at)) (Ok part) refl tt

on_parts : (at : ℕ) (given : List ActionPart) (forms : List Form) → IsOnForms (parts_from at given forms)
on_parts at given [] = tt
on_parts at given (Group a inner ∷ forms) = refl
on_parts at given (Leaf w ∷ []) = on_then (new_part (part_by w.text) given w) _ (on_new_part (part_by w.text) given w) (λ part. refl)
on_parts at given (Leaf w ∷ f ∷ forms) =
    on_then (new_part (part_by w.text) given w) _ (on_new_part (part_by w.text) given w)
    (λ part. on_then (part_at part f) _ (on_part part f) (λ value. on_then (parts_from at (given ++ part ∷ []) forms) _ (on_parts at (given ++ part ∷ []) forms) (λ more. tt)))

on_action : (at : ℕ) (forms : List Form) → IsOnForms (action_in at forms)
on_action at [] = refl
on_action at (f ∷ forms) = on_then (name_at f) _ (on_name f) (λ name. on_then (parts_from at [] forms) _ (on_parts at [] forms) (λ parts. tt))

on_requirement : (f : Form) → IsOnForms (requirement_at f)
on_requirement (Leaf w) = on_if (is_one_of accepted w.text) (Ok w) _ tt (on_if (is_keyword w.text) (Err (Unsupported w.at Requirement)) (Err (Shape w.at)) refl refl)
on_requirement (Group at forms) = refl

on_one_name : (at : ℕ) (forms : List Form) → IsOnForms (one_name at forms)
on_one_name at [] = refl
on_one_name at (f ∷ []) = on_name f
on_one_name at (f ∷ g ∷ forms) = on_then (name_at f) _ (on_name f) (λ name. refl)

on_one_form : (at : ℕ) (forms : List Form) → IsOnForms (one_form at forms)
on_one_form at [] = refl
on_one_form at (f ∷ []) = tt
on_one_form at (f ∷ g ∷ forms) = refl

on_content : (kind : SectionKind) (at : ℕ) (forms : List Form) → IsOnForms (content_in kind at forms)
on_content Requirements at forms = on_then (each_at requirement_at forms) _ (on_each requirement_at on_requirement forms) (λ words. tt)
on_content Types at forms = on_then (typed_from Names at [] forms) _ (on_typed Names at [] forms) (λ names. tt)
on_content Constants at forms = on_then (typed_from Names at [] forms) _ (on_typed Names at [] forms) (λ names. tt)
on_content Predicates at forms = on_then (each_at predicate_at forms) _ (on_each predicate_at on_predicate forms) (λ predicates. tt)
on_content Action at forms = on_then (action_in at forms) _ (on_action at forms) (λ action. tt)
on_content Domain at forms = on_then (one_name at forms) _ (on_one_name at forms) (λ name. tt)
on_content Objects at forms = on_then (typed_from Names at [] forms) _ (on_typed Names at [] forms) (λ names. tt)
on_content Init at forms = on_then (each_at (atom_at Start) forms) _ (on_each (atom_at Start) (on_atom Start) forms) (λ atoms. tt)
on_content Goal at forms = on_then (one_form at forms) _ (on_one_form at forms) (λ f. tt)

on_new_kind : (feature : Option Feature) (kind : Option SectionKind) (given : List SectionKind) (at : ℕ) (w : Word) → IsOnForms (new_kind feature kind given at w)
on_new_kind (Some feature) kind given at w = refl
on_new_kind None None given at w = refl
on_new_kind None (Some kind) given at w = on_if (is_repeated kind given) (Err (DoubledSection at)) (Ok kind) refl tt

on_section_in : (document : Document) (given : List SectionKind) (at : ℕ) (forms : List Form) → IsOnForms (section_in document given at forms)
on_section_in document given at [] = refl
on_section_in document given at (Group a inner ∷ forms) = refl
on_section_in document given at (Leaf w ∷ forms) =
    on_then (new_kind (section_feature w.text) (kind_by (kinds_of document) w.text) given at w) _ (on_new_kind (section_feature w.text) (kind_by (kinds_of document) w.text) given at w)
    (λ kind. on_content kind at forms)

on_section : (document : Document) (given : List SectionKind) (f : Form) → IsOnForms (section_at document given f)
on_section document given (Leaf w) = refl
on_section document given (Group at forms) = on_section_in document given at (forms_in forms)

on_sections : (document : Document) (given : List SectionKind) (forms : List Form) → IsOnForms (sections_from document given forms)
on_sections document given [] = tt
on_sections document given (f ∷ forms) =
    on_then (section_at document given f) _ (on_section document given f)
    (λ s. on_then (sections_from document (given ++ kind_of s ∷ []) forms) _ (on_sections document (given ++ kind_of s ∷ []) forms) (λ more. tt))

on_head : (document : Document) (f : Form) → IsOnForms (head_at document f)
on_head document (Leaf w) = refl
on_head document (Group at End) = refl
on_head document (Group at (Then (Group a inner) forms)) = refl
on_head document (Group at (Then (Leaf w) forms)) =
    on_if (bytes_eq (document_word document) w.text) (one_name at (forms_in forms)) (Err (Shape w.at)) (on_one_name at (forms_in forms)) refl

on_rest : (document : Document) (at : ℕ) (forms : List Form) → IsOnForms (document_rest document at forms)
on_rest document at [] = refl
on_rest document at (head ∷ forms) =
    on_then (head_at document head) _ (on_head document head) (λ name. on_then (sections_from document [] forms) _ (on_sections document [] forms) (λ sections. tt))

on_document : (document : Document) (at : ℕ) (forms : List Form) → IsOnForms (document_in document at forms)
on_document document at [] = refl
on_document document at (Group a inner ∷ forms) = refl
on_document document at (Leaf w ∷ forms) =
    on_if (bytes_eq (codes "define") w.text) (document_rest document at forms) (Err (Shape w.at)) (on_rest document at forms) refl

pub on_domain : (at : ℕ) (forms : List Form) → IsOnForms (domain_in at forms)
on_domain at forms = on_then (document_in OfDomain at forms) (λ x. Ok (domain_of x.0 x.1)) (on_document OfDomain at forms) (λ x. tt)

on_problem_of : (at : ℕ) (name : Word) (domains : List Word) (sections : List SectionValue) → IsOnForms (problem_of at name domains sections)
on_problem_of at name [] sections = refl
on_problem_of at name (domain ∷ more) sections = on_if (list_any (λ s. same_kind (kind_of s) Init) sections) _ (Err (Shape at)) tt refl

pub on_problem : (at : ℕ) (forms : List Form) → IsOnForms (problem_in at forms)
on_problem at forms =
    on_then (document_in OfProblem at forms) (λ x. problem_of at x.0 (flat_map domains_in x.1) x.1) (on_document OfProblem at forms) (λ x. on_problem_of at x.0 (flat_map domains_in x.1) x.1)
