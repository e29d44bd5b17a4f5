-- The promise: what the clauses of public calls cite of this crate, in the order in which to read it.
-- What is left out serves private contracts alone.

-- A text as a tree of words.
pub use Rattle.pddl_reader.specs.Forms.{Word, forms_in, forms_of, group, place_of, word_of, form_of_item}
pub use Rattle.pddl_reader.specs.Forms.{form_of_list, form_of}
-- What contracts see of a domain and a problem.
pub use Rattle.pddl_reader.specs.Values.{PlainTypedName, PlainTerm, PlainLiteral, PlainSchema}
pub use Rattle.pddl_reader.specs.Values.{PlainPredicate, PlainDomain, PlainProblem}
-- The plain value of a term.
pub use Rattle.pddl_reader.specs.Terms.{plain_term}
-- The classes of words, and the words that have a meaning of their own.
pub use Rattle.pddl_reader.specs.Classes.{is_name_byte, is_name, is_variable, is_keyword, is_element}
pub use Rattle.pddl_reader.specs.Classes.{is_one_of, accepted, section_feature, takes_equality, takes_negation}
pub use Rattle.pddl_reader.specs.Classes.{is_equality, equality_feature, not_feature, head_feature}
pub use Rattle.pddl_reader.specs.Classes.{is_predicate_name, is_predicate}
-- Typed lists.
pub use Rattle.pddl_reader.specs.Typed.{IsNameWord, IsEither, IsType, TypedGroup, AreElements, IsTypedGroup}
pub use Rattle.pddl_reader.specs.Typed.{group_forms, typed_by, group_value, untyped, IsTypedList}
-- Atoms, literals and conditions.
pub use Rattle.pddl_reader.specs.Conditions.{IsTerm, AreTerms, has_enough, IsAtom, IsStartAtom}
-- The sections of domains and problems.
pub use Rattle.pddl_reader.specs.Sections.{Pairwise, part_keyword, PartValue, part_of, IsPart, AreParts}
pub use Rattle.pddl_reader.specs.Sections.{parameters_in, preconditions_in, effects_in, IsAction}
pub use Rattle.pddl_reader.specs.Sections.{IsPredicate, keyword_of, kinds_of, SectionValue, kind_of}
pub use Rattle.pddl_reader.specs.Sections.{IsAccepted, IsContent, IsSection, types_in, constants_in}
pub use Rattle.pddl_reader.specs.Sections.{section_predicates_in, actions_in, domains_in, objects_in}
pub use Rattle.pddl_reader.specs.Sections.{init_in}
-- When a text spells a domain or a problem.
pub use Rattle.pddl_reader.specs.Spelling.{document_word, IsDocument, IsDomain, IsProblem, IsFormOf}
pub use Rattle.pddl_reader.specs.Spelling.{IsDomainText, IsProblemText}
-- Values that differ in places alone are the same.
pub use Rattle.pddl_reader.specs.Places.{unplaced, unplaced_typed, unplaced_term, unplaced_literal}
pub use Rattle.pddl_reader.specs.Places.{unplaced_schema, unplaced_predicate, unplaced_domain}
pub use Rattle.pddl_reader.specs.Places.{unplaced_problem, IsSameDomain, IsSameProblem}
-- What is at fault in a text that spells no domain or problem.
pub use Rattle.pddl_reader.specs.Faults.{fault_of_lex, fault_of_tree, IsFirstFaulty, IsNameForm, IsNoName}
pub use Rattle.pddl_reader.specs.Faults.{HasHead, IsEitherFault, IsTypeFault, HasNoPlace, IsTypedRestFault}
pub use Rattle.pddl_reader.specs.Faults.{IsTypedFault, IsTermForm, IsNoTerm, IsAtomListFault, IsAtomFault}
pub use Rattle.pddl_reader.specs.Faults.{IsPredicateListFault, IsPredicateFault, IsPartFault}
pub use Rattle.pddl_reader.specs.Faults.{IsPartsRestFault, IsPartsFault, IsActionFault, IsRequirementFault}
pub use Rattle.pddl_reader.specs.Faults.{IsOneNameFault, IsOneFormFault, IsContentFault, IsKeywordOf}
pub use Rattle.pddl_reader.specs.Faults.{IsSectionListFault, IsSectionFault, IsSectionsFault, IsHeadForm}
pub use Rattle.pddl_reader.specs.Faults.{IsHeadListFault, IsHeadFault, LacksSection, IsDocumentListFault}
pub use Rattle.pddl_reader.specs.Faults.{IsDocumentFault, IsFormFault, IsTextFault, IsDomainFault}
pub use Rattle.pddl_reader.specs.Faults.{IsProblemFault}
