-- The promise: what the clauses of public calls cite of this crate, in the order in which to read it.
-- What is left out serves private contracts alone.

-- The canonical text of a domain and of a problem.
pub use Rattle.pddl_print.specs.Canonical.{spaced, separated, name_text, type_text, typed_text, term_text}
pub use Rattle.pddl_print.specs.Canonical.{atom_text, literal_text, condition_text, predicate_text}
pub use Rattle.pddl_print.specs.Canonical.{action_text, section_text, is_of_equality, is_negated_atom, has_precondition, requirements}
pub use Rattle.pddl_print.specs.Canonical.{domain_text, problem_text}
-- What it means that a printed text spells its value again.
pub use Rattle.pddl_print.specs.Spells.{IsSpelledDomain, IsSpelledProblem, SpellsDomain, SpellsProblem}
