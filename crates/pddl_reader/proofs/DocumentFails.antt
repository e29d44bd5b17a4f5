-- What is at fault in parts, actions, sections and documents is what is read of them.
use Rattle.std.proofs.Common.{◌≡◌, ◌≢◌, ◌⊎◌, ℕ, Bool, true, false, List, [], ◌∷◌, ◌++◌, map, append_assoc, append-nil, refl, sym, ap, ap₂, ◌∙◌, subst, inl, inr, Contains, codes, Option, Some, None, Ok, Err}
use Rattle.std.specs.List.{list_any, list_all, flat_map}
use Rattle.std.specs.Str.{bytes_eq}
use Rattle.std.proofs.lemmas.Bool.{cond-true, cond-false, false_from_ne_true, true_from_ne_false, and_parts, or_cases, or_from, true≢false, false≢true}
use Rattle.pddl_reader.specs.declared.faults.PddlFault.{PddlFault}
use Rattle.pddl_reader.specs.declared.faults.PddlFault.TheVariants.{Shape, Unsupported, DoubledSection}
use Rattle.pddl_reader.specs.declared.faults.Feature.TheVariants.{Requirement}
use Rattle.pddl_reader.specs.declared.kinds.Listed.TheVariants.{Names, Variables}
use Rattle.pddl_reader.specs.declared.kinds.Part.TheVariants.{Precondition, Effect, Start}
use Rattle.pddl_reader.specs.declared.kinds.Document.{Document}
use Rattle.pddl_reader.specs.declared.kinds.Document.TheVariants.{Domain as OfDomain, Problem as OfProblem}
use Rattle.pddl_reader.specs.declared.kinds.ActionPart.{ActionPart}
use Rattle.pddl_reader.specs.declared.kinds.ActionPart.TheVariants.{Parameters, Precondition as PartPrecondition, Effect as PartEffect}
use Rattle.pddl_reader.specs.declared.kinds.SectionKind.{SectionKind}
use Rattle.pddl_reader.specs.declared.kinds.SectionKind.TheVariants.{Requirements, Types, Constants, Predicates, Action, Domain, Objects, Init, Goal}
use Rattle.pddl_reader.specs.Forms.{Word, Form, Leaf, Group, End, Then, forms_in, group, place_of}
use Rattle.pddl_reader.specs.Values.{PlainLiteral, PlainPredicate}
use Rattle.pddl_reader.specs.Classes.{is_keyword, is_one_of, accepted, section_feature}
use Rattle.pddl_reader.specs.Conditions.{IsStartAtom}
use Rattle.pddl_reader.specs.Sections.{PartValue, HasParameters, HasPrecondition, HasEffect, part_of, part_keyword, IsPredicate, IsAccepted, SectionValue, HasRequirements, HasTypes, HasConstants, HasPredicates, HasAction, HasDomain, HasObjects, HasInit, HasGoal, kind_of, kinds_of, keyword_of, domains_in}
use Rattle.pddl_reader.specs.Spelling.{document_word, IsDocument}
use Rattle.pddl_reader.specs.Faults.{IsAtomFault, IsPredicateFault, IsPartFault, IsPartsRestFault, IsActionFault, IsRequirementFault, IsOneNameFault, IsOneFormFault, IsContentFault, IsSectionFault, IsSectionsFault, IsHeadFault, LacksSection, IsDocumentListFault, IsDocumentFault}
use Rattle.pddl_reader.specs.Reading.{and_then, each_at, name_at, typed_from, atom_at, condition_at, predicate_at, part_by, same_part, part_at, new_part, parts_from, action_of, action_in, requirement_at, one_name, one_form, content_in, kind_by, same_kind, is_repeated, new_kind, section_at, sections_from, head_at, document_rest, document_in, domain_of, domain_in, problem_of, problem_in}
use Rattle.pddl_reader.proofs.EachLaws.{and_then-from}
use Rattle.pddl_reader.proofs.NameLaws.{same_bytes, bytes_same, bytes_other}
use Rattle.pddl_reader.proofs.TypedLaws.{forms_there}
use Rattle.pddl_reader.proofs.AtomLaws.{atom_reads}
use Rattle.pddl_reader.proofs.KeywordLaws.{Contains-first, Contains-later, Contains-none, keyword-from_Contains, part_by-from, part_by-Some, parts_differ, kind_by-from, kind_by-Some, no_feature, same_kind-true, not_repeated, repeated}
use Rattle.pddl_reader.proofs.OnceLaws.{new-head}
use Rattle.pddl_reader.proofs.SectionLaws.{refused, requirement_given, with_parameters, predicate_named, predicate_reads, part_reads, new_part-from, Never, ArePartsBehind, parts-tail, behind_keyword, behind_part, action_named}
use Rattle.pddl_reader.proofs.DocumentLaws.{kind_read, AreSectionsBehind, sections-head, sections-tail, behind_section, section_reads, head_reads, Named, sections_named, document_reads, domain_cases, has_init, problem_with}
use Rattle.pddl_reader.proofs.FailLaws.{and_then-fails, each_fails, name_fails, name_given, typed_fails, atom_fails, condition_fails}

only_none : {A : Type 0} (o : Option A) → ((x : A) → o ≡ Some x → ⊥) → o ≡ None
only_none None none = refl
only_none (Some x) none = absurd (none x refl)

-- one of words that all pass a test passes it
one_of_all : (test : List ℕ → Bool) (words : List (List ℕ)) (text : List ℕ)
    → list_all test words ≡ true → is_one_of words text ≡ true → test text ≡ true
one_of_all test [] text all h = absurd (false≢true h)
one_of_all test (w ∷ words) text all h =
    let both = and_parts (test w) (list_all test words) all in
    elim (or_cases (bytes_eq w text) (is_one_of words text) h) [
      | inl e ↦ subst (λ t. test t ≡ true) (sym (same_bytes w text e)) both.0
      | inr later ↦ one_of_all test words text both.1 later
    ]

no_keyword_accepted : (text : List ℕ) → is_keyword text ≡ false → is_one_of accepted text ≡ false
no_keyword_accepted text h = false_from_ne_true (is_one_of accepted text) (λ is. true≢false (sym (one_of_all is_keyword accepted text refl is) ∙ h))

requirement_fails : (f : Form) (fault : PddlFault) → IsRequirementFault f fault → requirement_at f ≡ Err fault
requirement_fails (Leaf w) fault (inl (other, keyword, e)) =
    cond-false (is_one_of accepted w.text) (Ok w) (refused w) other
    ∙ cond-true (is_keyword w.text) (Err (Unsupported w.at Requirement)) (Err (Shape w.at)) keyword ∙ ap Err (sym e)
requirement_fails (Leaf w) fault (inr (bad, e)) =
    cond-false (is_one_of accepted w.text) (Ok w) (refused w) (no_keyword_accepted w.text bad)
    ∙ cond-false (is_keyword w.text) (Err (Unsupported w.at Requirement)) (Err (Shape w.at)) bad ∙ ap Err (sym e)
requirement_fails (Group at forms) fault h = ap Err (sym h)

predicate_fails : (f : Form) (fault : PddlFault) → IsPredicateFault f fault → predicate_at f ≡ Err fault
predicate_fails (Leaf w) fault h = ap Err (sym h)
predicate_fails (Group at End) fault h = ap Err (sym h)
predicate_fails (Group at (Then f rest)) fault (inl unnamed) =
    and_then-fails (name_at f) (predicate_named at (forms_in rest)) fault (name_fails f fault unnamed)
predicate_fails (Group at (Then f rest)) fault (inr (named, bad)) =
    let name = name_given f named in
    and_then-from (name_at f) (predicate_named at (forms_in rest)) name.0 (Err fault) name.1
    (and_then-fails (typed_from Variables at [] (forms_in rest)) (λ parameters. Ok (with_parameters name.0 parameters)) fault
    (typed_fails Variables at (forms_in rest) fault bad))

part_fails : (part : ActionPart) (f : Form) (fault : PddlFault) → IsPartFault part f fault → part_at part f ≡ Err fault
part_fails Parameters (Leaf w) fault h = ap Err (sym h)
part_fails Parameters (Group at forms) fault h =
    and_then-fails (typed_from Variables at [] (forms_in forms)) (λ parameters. Ok (HasParameters parameters)) fault
    (typed_fails Variables at (forms_in forms) fault h)
part_fails PartPrecondition f fault h =
    and_then-fails (condition_at Precondition f) (λ ls. Ok (HasPrecondition ls)) fault (condition_fails Precondition f fault h)
part_fails PartEffect f fault h = and_then-fails (condition_at Effect f) (λ ls. Ok (HasEffect ls)) fault (condition_fails Effect f fault h)

-- a word that begins no part, and one whose part is given before
no_part_fails : (given : List ActionPart) (w : Word) (fault : PddlFault) → ((part : ActionPart) → w.text ≢ part_keyword part) → fault ≡ Shape w.at
    → new_part (part_by w.text) given w ≡ Err fault
no_part_fails given w fault none e =
    ap (λ o. new_part o given w) (only_none (part_by w.text) (λ part is. none part (part_by-Some w.text part is))) ∙ ap Err (sym e)

part_again_fails : (given : List ActionPart) (w : Word) (part : ActionPart) (fault : PddlFault) → w.text ≡ part_keyword part → Contains given part
    → fault ≡ DoubledSection w.at → new_part (part_by w.text) given w ≡ Err fault
part_again_fails given w part fault is has e =
    ap (λ o. new_part o given w) (part_by-from w.text part is)
    ∙ cond-true (list_any (same_part part) given) (Err (DoubledSection w.at)) (Ok part) (keyword-from_Contains part_keyword parts_differ part given has)
    ∙ ap Err (sym e)

keyword_fails : (at : ℕ) (given : List ActionPart) (w : Word) (forms : List Form) (fault : PddlFault) → new_part (part_by w.text) given w ≡ Err fault
    → parts_from at given (Leaf w ∷ forms) ≡ Err fault
keyword_fails at given w [] fault h = and_then-fails (new_part (part_by w.text) given w) (λ part. Err (Shape at)) fault h
keyword_fails at given w (f ∷ forms) fault h = and_then-fails (new_part (part_by w.text) given w) (behind_keyword at given f forms) fault h

parts_rest_fails : (at : ℕ) (given : List ActionPart) (forms : List Form) (fault : PddlFault)
    → IsPartsRestFault at given forms fault → parts_from at given forms ≡ Err fault
parts_rest_fails at given [] fault h = absurd h
parts_rest_fails at given (Group a inner ∷ forms) fault h = ap Err (sym h)
parts_rest_fails at given (Leaf w ∷ forms) fault (inl (none, e)) = keyword_fails at given w forms fault (no_part_fails given w fault none e)
parts_rest_fails at given (Leaf w ∷ forms) fault (inr (part, is, inl (has, e))) =
    keyword_fails at given w forms fault (part_again_fails given w part fault is has e)
parts_rest_fails at given (Leaf w ∷ forms) fault (inr (part, is, inr (inl (new, none, e)))) =
    ap (λ fs. parts_from at given (Leaf w ∷ fs)) none
    ∙ and_then-from (new_part (part_by w.text) given w) (λ part. Err (Shape at)) part (Err fault) (new_part-from w.text given w part is new) (ap Err (sym e))
parts_rest_fails at given (Leaf w ∷ forms) fault (inr (part, is, inr (inr (new, f, more, whole, bad)))) =
    ap (λ fs. parts_from at given (Leaf w ∷ fs)) whole
    ∙ and_then-from (new_part (part_by w.text) given w) (behind_keyword at given f more) part (Err fault) (new_part-from w.text given w part is new)
    (and_then-fails (part_at part f) (behind_part at given more part) fault (part_fails part f fault bad))

parts_fail : (at : ℕ) (given : List ActionPart) (before : List Form) (parts : List PartValue) (rest : List Form) (fault : PddlFault)
    → ArePartsBehind given before parts
    → IsPartsRestFault at (given ++ map part_of parts) rest fault → parts_from at given (before ++ rest) ≡ Err fault
parts_fail at given [] [] rest fault h fails =
    parts_rest_fails at given rest fault (subst (λ g. IsPartsRestFault at g rest fault) (append-nil given) fails)
parts_fail at given [] (p ∷ parts) rest fault h fails = absurd h.are_parts
parts_fail at given (Group a inner ∷ before) parts rest fault h fails = absurd h.are_parts
parts_fail at given (Leaf w ∷ []) parts rest fault h fails = absurd h.are_parts
parts_fail at given (Leaf w ∷ f ∷ before) [] rest fault h fails = absurd h.are_parts
parts_fail at given (Leaf w ∷ f ∷ before) (p ∷ parts) rest fault h fails =
    and_then-from (new_part (part_by w.text) given w) (behind_keyword at given f (before ++ rest)) (part_of p) (Err fault)
    (new_part-from w.text given w (part_of p) h.are_parts.0 (new-head part_of Never given p parts h.new))
    (and_then-from (part_at (part_of p) f) (behind_part at given (before ++ rest) (part_of p)) p (Err fault) (part_reads f p h.are_parts.1)
    (and_then-fails (parts_from at (given ++ part_of p ∷ []) (before ++ rest)) (λ more. Ok (p ∷ more)) fault
    (parts_fail at (given ++ part_of p ∷ []) before parts rest fault (parts-tail given w f before p parts h)
    (subst (λ g. IsPartsRestFault at g rest fault) (sym (append_assoc given (part_of p ∷ []) (map part_of parts))) fails))))

action_fails : (at : ℕ) (forms : List Form) (fault : PddlFault) → IsActionFault at forms fault → action_in at forms ≡ Err fault
action_fails at [] fault h = ap Err (sym h)
action_fails at (f ∷ forms) fault (inl unnamed) = and_then-fails (name_at f) (action_named at forms) fault (name_fails f fault unnamed)
action_fails at (f ∷ forms) fault (inr (named, bad)) =
    let name = name_given f named in
    let good : ArePartsBehind [] bad.before bad.parts = record { are_parts = bad.good; new = λ k d within has. Contains-none _ has; once = bad.once } in
    and_then-from (name_at f) (action_named at forms) name.0 (Err fault) name.1
    (and_then-fails (parts_from at [] forms) (λ parts. Ok (action_of name.0 parts)) fault
    (ap (parts_from at []) bad.whole ∙ parts_fail at [] bad.before bad.parts bad.rest fault good bad.fails))

one_name_fails : (at : ℕ) (forms : List Form) (fault : PddlFault) → IsOneNameFault at forms fault → one_name at forms ≡ Err fault
one_name_fails at [] fault h = ap Err (sym h)
one_name_fails at (f ∷ []) fault h = name_fails f fault h
one_name_fails at (f ∷ g ∷ forms) fault (inl unnamed) =
    and_then-fails (name_at f) (λ name. Err (Shape (place_of g))) fault (name_fails f fault unnamed)
one_name_fails at (f ∷ g ∷ forms) fault (inr (named, e)) =
    let name = name_given f named in
    and_then-from (name_at f) (λ name. Err (Shape (place_of g))) name.0 (Err fault) name.1 (ap Err (sym e))

one_form_fails : (at : ℕ) (forms : List Form) (fault : PddlFault) → IsOneFormFault at forms fault → one_form at forms ≡ Err fault
one_form_fails at [] fault h = ap Err (sym h)
one_form_fails at (f ∷ []) fault h = absurd h
one_form_fails at (f ∷ g ∷ forms) fault h = ap Err (sym h)

pub content_fails : (kind : SectionKind) (at : ℕ) (forms : List Form) (fault : PddlFault)
    → IsContentFault kind at forms fault → content_in kind at forms ≡ Err fault
content_fails Requirements at forms fault h =
    and_then-fails (each_at requirement_at forms) (λ words. Ok HasRequirements) fault
    (each_fails requirement_at IsAccepted IsRequirementFault requirement_given requirement_fails forms fault h)
content_fails Types at forms fault h =
    and_then-fails (typed_from Names at [] forms) (λ names. Ok (HasTypes names)) fault (typed_fails Names at forms fault h)
content_fails Constants at forms fault h =
    and_then-fails (typed_from Names at [] forms) (λ names. Ok (HasConstants names)) fault (typed_fails Names at forms fault h)
content_fails Predicates at forms fault h =
    and_then-fails (each_at predicate_at forms) (λ predicates. Ok (HasPredicates predicates)) fault
    (each_fails predicate_at (λ f. (p : PlainPredicate) × IsPredicate f p) IsPredicateFault
    (λ f good. (good.0, predicate_reads f good.0 good.1)) predicate_fails forms fault h)
content_fails Action at forms fault h = and_then-fails (action_in at forms) (λ action. Ok (HasAction action)) fault (action_fails at forms fault h)
content_fails Domain at forms fault h = and_then-fails (one_name at forms) (λ name. Ok (HasDomain name)) fault (one_name_fails at forms fault h)
content_fails Objects at forms fault h =
    and_then-fails (typed_from Names at [] forms) (λ names. Ok (HasObjects names)) fault (typed_fails Names at forms fault h)
content_fails Init at forms fault h =
    and_then-fails (each_at (atom_at Start) forms) (λ atoms. Ok (HasInit atoms)) fault
    (each_fails (atom_at Start) (λ f. (l : PlainLiteral) × IsStartAtom f l) (IsAtomFault Start)
    (λ f good. (good.0, atom_reads Start f good.0 good.1.0 good.1.1)) (atom_fails Start) forms fault h)
content_fails Goal at forms fault h = and_then-fails (one_form at forms) (λ f. Ok HasGoal) fault (one_form_fails at forms fault h)

-- a keyword that names a kind of sections, and no feature
kind_named : (kinds given : List SectionKind) (at : ℕ) (w : Word) (kind : SectionKind) → Contains kinds kind → w.text ≡ keyword_of kind
    → kind_read kinds given at w ≡ new_kind None (Some kind) given at w
kind_named kinds given at w kind has is =
    ap₂ (λ o k. new_kind o k given at w) (ap section_feature is ∙ no_feature kind) (kind_by-from kinds w.text kind has is)

section_fails : (document : Document) (given : List SectionKind) (f : Form) (fault : PddlFault)
    → IsSectionFault document given f fault → section_at document given f ≡ Err fault
section_fails document given (Leaf w) fault h = ap Err (sym h)
section_fails document given (Group at End) fault h = ap Err (sym h)
section_fails document given (Group at (Then (Group a inner) rest)) fault h = ap Err (sym h)
section_fails document given (Group at (Then (Leaf w) rest)) fault (inl (feature, is, e)) =
    and_then-fails (kind_read (kinds_of document) given at w) (λ kind. content_in kind at (forms_in rest)) fault
    (ap (λ o. new_kind o (kind_by (kinds_of document) w.text) given at w) is ∙ ap Err (sym e))
section_fails document given (Group at (Then (Leaf w) rest)) fault (inr (inl (plain, none, e))) =
    and_then-fails (kind_read (kinds_of document) given at w) (λ kind. content_in kind at (forms_in rest)) fault
    (ap₂ (λ o k. new_kind o k given at w) plain
    (only_none (kind_by (kinds_of document) w.text) (λ kind is. none kind (kind_by-Some (kinds_of document) w.text kind is)))
    ∙ ap Err (sym e))
section_fails document given (Group at (Then (Leaf w) rest)) fault (inr (inr (kind, key, inl (other, has, e)))) =
    and_then-fails (kind_read (kinds_of document) given at w) (λ kind. content_in kind at (forms_in rest)) fault
    (kind_named (kinds_of document) given at w kind key.0 key.1
    ∙ cond-true (is_repeated kind given) (Err (DoubledSection at)) (Ok kind)
    (true_from_ne_false (is_repeated kind given) (λ e. other (not_repeated kind given e has)))
    ∙ ap Err (sym e))
section_fails document given (Group at (Then (Leaf w) rest)) fault (inr (inr (kind, key, inr (new, bad)))) =
    and_then-from (kind_read (kinds_of document) given at w) (λ kind. content_in kind at (forms_in rest)) kind (Err fault)
    (kind_named (kinds_of document) given at w kind key.0 key.1
    ∙ cond-false (is_repeated kind given) (Err (DoubledSection at)) (Ok kind)
    (false_from_ne_true (is_repeated kind given) (λ e. let both = repeated kind given e in new both.0 both.1)))
    (content_fails kind at (forms_in rest) fault bad)

sections_fail : (document : Document) (given : List SectionKind) (before : List Form) (sections : List SectionValue) (form : Form)
    (behind : List Form) (fault : PddlFault) → AreSectionsBehind document given before sections → IsSectionFault document (given ++ map kind_of sections) form fault
    → sections_from document given (before ++ form ∷ behind) ≡ Err fault
sections_fail document given [] [] form behind fault h fails =
    and_then-fails (section_at document given form) (behind_section document given behind) fault
    (section_fails document given form fault (subst (λ g. IsSectionFault document g form fault) (append-nil given) fails))
sections_fail document given [] (s ∷ sections) form behind fault h fails = absurd h.are_sections
sections_fail document given (f ∷ before) [] form behind fault h fails = absurd h.are_sections
sections_fail document given (f ∷ before) (s ∷ sections) form behind fault h fails =
    and_then-from (section_at document given f) (behind_section document given (before ++ form ∷ behind)) s (Err fault)
    (section_reads document given f s (sections-head document given f before s sections h))
    (and_then-fails (sections_from document (given ++ kind_of s ∷ []) (before ++ form ∷ behind)) (λ more. Ok (s ∷ more)) fault
    (sections_fail document (given ++ kind_of s ∷ []) before sections form behind fault (sections-tail document given f before s sections h)
    (subst (λ g. IsSectionFault document g form fault) (sym (append_assoc given (kind_of s ∷ []) (map kind_of sections))) fails)))

sections_fault : (document : Document) (forms : List Form) (fault : PddlFault)
    → IsSectionsFault document forms fault → sections_from document [] forms ≡ Err fault
sections_fault document forms fault r =
    let good : AreSectionsBehind document [] r.before r.sections =
    record { are_sections = r.good; belong = r.belong; new = λ k d within has. absurd (Contains-none _ has); once = r.once } in
    ap (sections_from document []) r.whole ∙ sections_fail document [] r.before r.sections r.form r.behind fault good r.fails

head_fails : (document : Document) (f : Form) (fault : PddlFault) → IsHeadFault document f fault → head_at document f ≡ Err fault
head_fails document (Leaf w) fault h = ap Err (sym h)
head_fails document (Group at End) fault h = ap Err (sym h)
head_fails document (Group at (Then (Group a inner) rest)) fault h = ap Err (sym h)
head_fails document (Group at (Then (Leaf w) rest)) fault (inl (other, e)) =
    cond-false (bytes_eq (document_word document) w.text) (one_name at (forms_in rest)) (Err (Shape w.at)) (bytes_other (document_word document) w.text other)
    ∙ ap Err (sym e)
head_fails document (Group at (Then (Leaf w) rest)) fault (inr (is, bad)) =
    cond-true (bytes_eq (document_word document) w.text) (one_name at (forms_in rest)) (Err (Shape w.at)) (bytes_same (document_word document) w.text is)
    ∙ one_name_fails at (forms_in rest) fault bad

-- the document lacks a section, and that is what is at fault
abbrev Lacks : Document → ℕ → List Form → PddlFault → Type 0
Lacks document at forms fault =
    (name : Word) × (sections : List SectionValue) × IsDocument document (group at forms) name sections × LacksSection document sections × (fault ≡ Shape at)

-- 'define' is read with what follows
not_defined : (document : Document) (at : ℕ) (w : Word) (forms : List Form) (fault : PddlFault) → w.text ≢ codes "define" → fault ≡ Shape w.at
    → document_in document at (Leaf w ∷ forms) ≡ Err fault
not_defined document at w forms fault other e =
    cond-false (bytes_eq (codes "define") w.text) (document_rest document at forms) (Err (Shape w.at)) (bytes_other (codes "define") w.text other)
    ∙ ap Err (sym e)

defined : (document : Document) (at : ℕ) (w : Word) (forms : List Form) → w.text ≡ codes "define"
    → document_in document at (Leaf w ∷ forms) ≡ document_rest document at forms
defined document at w forms is =
    cond-true (bytes_eq (codes "define") w.text) (document_rest document at forms) (Err (Shape w.at)) (bytes_same (codes "define") w.text is)

document_fails : (document : Document) (at : ℕ) (forms : List Form) (fault : PddlFault) → IsDocumentListFault document at forms fault
    → (document_in document at forms ≡ Err fault) ⊎ Lacks document at forms fault
document_fails document at [] fault h = inl (ap Err (sym h))
document_fails document at (Group a inner ∷ forms) fault h = inl (ap Err (sym h))
document_fails document at (Leaf w ∷ []) fault (inl (other, e)) = inl (not_defined document at w [] fault other e)
document_fails document at (Leaf w ∷ []) fault (inr (is, e)) = inl (defined document at w [] is ∙ ap Err (sym e))
document_fails document at (Leaf w ∷ head ∷ forms) fault (inl (other, e)) = inl (not_defined document at w (head ∷ forms) fault other e)
document_fails document at (Leaf w ∷ head ∷ forms) fault (inr (inl (is, bad))) =
    inl (defined document at w (head ∷ forms) is
    ∙ and_then-fails (head_at document head) (sections_named document forms) fault (head_fails document head fault bad))
document_fails document at (Leaf w ∷ head ∷ forms) fault (inr (inr (inl (is, (a, first, name, whole, named, is_name), bad)))) =
    inl (defined document at w (head ∷ forms) is
    ∙ and_then-from (head_at document head) (sections_named document forms) name (Err fault) (head_reads document head name (a, first, whole, named, is_name))
    (ap (λ r. and_then r (λ sections. let named : Named = (name, sections) in Ok named)) (sections_fault document forms fault bad)))
document_fails document at (Leaf w ∷ head ∷ forms) fault (inr (inr (inr lacks))) = inr lacks

document_list : (document : Document) (at : ℕ) (forms : List Form) (fault : PddlFault)
    → IsDocumentFault document (group at forms) fault → IsDocumentListFault document at forms fault
document_list document at forms fault h = subst (λ fs. IsDocumentListFault document at fs fault) (forms_there forms) h

pub domain_fails : (at : ℕ) (forms : List Form) (fault : PddlFault) → IsDocumentFault OfDomain (group at forms) fault → domain_in at forms ≡ Err fault
domain_fails at forms fault h =
    elim (document_fails OfDomain at forms fault (document_list OfDomain at forms fault h)) [
      | inl e ↦ and_then-fails (document_in OfDomain at forms) (λ (x : Named). Ok (domain_of x.0 x.1)) fault e
      | inr (name, sections, is, lacks, e) ↦ absurd lacks
    ]

-- sections of which none is ':domain' name no domain, and such of which none is ':init' have no start
no_domains_in : (sections : List SectionValue) → (Contains (map kind_of sections) Domain → ⊥) → flat_map domains_in sections ≡ []
no_domains_in [] lacks = refl
no_domains_in (s ∷ sections) lacks =
    elim (domain_cases s) [
      | inl (is, named) ↦ absurd (lacks (subst (λ k. Contains (k ∷ map kind_of sections) Domain) (sym is) (Contains-first Domain (map kind_of sections))))
      | inr (other, none) ↦
          ap (λ l. l ++ flat_map domains_in sections) none
          ∙ no_domains_in sections (λ has. lacks (Contains-later (kind_of s) (map kind_of sections) Domain has))
    ]

no_init : (sections : List SectionValue) → (Contains (map kind_of sections) Init → ⊥) → has_init sections ≡ false
no_init [] lacks = refl
no_init (s ∷ sections) lacks =
    or_from (same_kind (kind_of s) Init) (has_init sections)
    (false_from_ne_true (same_kind (kind_of s) Init) (λ e.
    lacks (subst (λ k. Contains (k ∷ map kind_of sections) Init) (sym (same_kind-true (kind_of s) Init e)) (Contains-first Init (map kind_of sections)))))
    (no_init sections (λ has. lacks (Contains-later (kind_of s) (map kind_of sections) Init has)))

problem_of_fails : (at : ℕ) (name : Word) (sections : List SectionValue) (domains : List Word)
    → flat_map domains_in sections ≡ domains → LacksSection OfProblem sections
    → problem_of at name domains sections ≡ Err (Shape at)
problem_of_fails at name sections [] are lacks = refl
problem_of_fails at name sections (domain ∷ more) are (inl lacks) = let none = no_domains_in sections lacks in absurd (cc)
problem_of_fails at name sections (domain ∷ more) are (inr lacks) =
    cond-false (has_init sections) (Ok (problem_with name domain sections)) (Err (Shape at)) (no_init sections lacks)

pub problem_fails : (at : ℕ) (forms : List Form) (fault : PddlFault)
    → IsDocumentFault OfProblem (group at forms) fault → problem_in at forms ≡ Err fault
problem_fails at forms fault h =
    elim (document_fails OfProblem at forms fault (document_list OfProblem at forms fault h)) [
      | inl e ↦ and_then-fails (document_in OfProblem at forms) (λ (x : Named). problem_of at x.0 (flat_map domains_in x.1) x.1) fault e
      | inr (name, sections, is, lacks, e) ↦
          and_then-from (document_in OfProblem at forms) (λ (x : Named). problem_of at x.0 (flat_map domains_in x.1) x.1) (name, sections) (Err fault)
          (document_reads OfProblem at forms name sections is)
          (problem_of_fails at name sections (flat_map domains_in sections) refl lacks ∙ ap Err (sym e))
    ]
