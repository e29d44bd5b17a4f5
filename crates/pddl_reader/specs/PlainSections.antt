-- The plain value of a section.
use Rattle.pddl_reader.specs.Sections.{SectionValue, HasRequirements, HasTypes, HasConstants, HasPredicates, HasAction, HasDomain, HasObjects, HasInit, HasGoal}
use Rattle.pddl_reader.specs.declared.sections.Section.{Section}
use Rattle.pddl_reader.specs.declared.sections.Section.TheVariants.{Requirements, Types, Constants, Predicates, Action, Domain, Objects, Init, Goal}

abbrev pub plain_section : Section → SectionValue
plain_section Requirements = HasRequirements
plain_section (Types names) = HasTypes names.items
plain_section (Constants names) = HasConstants names.items
plain_section (Predicates predicates) = HasPredicates predicates.items
plain_section (Action action) = HasAction action
plain_section (Domain name) = HasDomain name
plain_section (Objects names) = HasObjects names.items
plain_section (Init atoms) = HasInit atoms.items
plain_section Goal = HasGoal
