-- The promise: what the clauses of public calls cite of this crate, in the order in which to read it.
-- What is left out serves private contracts alone.

-- The types of a domain, and which lies below which.
pub use Rattle.type_check.specs.Types.{object_type, texts, names_of, first_type, type_of, is_entry, entries}
pub use Rattle.type_check.specs.Types.{undeclared_parent, parent_in, parent, above, LiesUnder, Returns}
pub use Rattle.type_check.specs.Types.{FitsTypes, firsts, type_names, place_in}
-- What contracts see of a domain and a problem that are well typed, and of what is ground in them.
pub use Rattle.type_check.specs.Values.{PlainTypedObject, PlainTypedPredicate, PlainTypedLiteral}
pub use Rattle.type_check.specs.Values.{PlainTypedSchema, PlainGroundAtom, is_same_atom, PlainGroundName}
pub use Rattle.type_check.specs.Values.{PlainTyped}
-- The names of what is typed, by which numbers are found.
pub use Rattle.type_check.specs.Numbered.{predicate_texts, schema_texts, object_texts}
-- What is ground over a typed domain and problem.
pub use Rattle.type_check.specs.Ground.{FitPlaces, IsTypedAtom, IsTypedName, text_at, bracketed, atom_text}
pub use Rattle.type_check.specs.Ground.{action_text}
-- The rules of typing.
pub use Rattle.type_check.specs.Checks.{Need, Meets, Check, Passes, fault_at, IsFirstFault}
-- The checks of a domain and a problem, in the order in which faults are found.
pub use Rattle.type_check.specs.Rules.{checks_behind, checks_of_each, is_new, are_types, few_parameters}
pub use Rattle.type_check.specs.Rules.{type_checks, typed_checks, names_checks, predicate_names}
pub use Rattle.type_check.specs.Rules.{predicate_checks, find_predicate, find_name, fit_checks, term_checks}
pub use Rattle.type_check.specs.Rules.{any_object, equality, known_predicates}
pub use Rattle.type_check.specs.Rules.{terms_checks, fitting_checks, literal_checks, literals_of}
pub use Rattle.type_check.specs.Rules.{schema_names, few_literals, action_checks, domain_checks}
pub use Rattle.type_check.specs.Rules.{all_objects, objects_in_files, count_checks, is_for_domain}
pub use Rattle.type_check.specs.Rules.{problem_checks, checks_of, IsWellTyped, IsTypeFault}
-- What a domain and a problem that are well typed make, with numbers in the place of names.
pub use Rattle.type_check.specs.Typing.{IsShortDomain, IsShortProblem, typed_object, ObjectFits, IsPlace}
pub use Rattle.type_check.specs.Typing.{ArePlaces, typed_term, typed_literal, typed_literals}
pub use Rattle.type_check.specs.Typing.{IsTypedPredicate, IsTypedSchema, term_name, ground_atom, IsTyped}
pub use Rattle.type_check.specs.Typing.{IsTypedTask}
