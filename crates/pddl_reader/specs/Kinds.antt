-- The kinds that the definitions speak of, by names that the crates above can write too.
use Rattle.pddl_reader.specs.declared.kinds.Listed.{Listed as TheListed}
use Rattle.pddl_reader.specs.declared.kinds.Listed.TheVariants.{Names as TheNames, Variables as TheVariables}
use Rattle.pddl_reader.specs.declared.kinds.Part.{Part as ThePart}
use Rattle.pddl_reader.specs.declared.kinds.Part.TheVariants.{Precondition as ThePrecondition, Effect as TheEffect, Start as TheStart}
use Rattle.pddl_reader.specs.declared.kinds.Document.{Document as TheDocument}
use Rattle.pddl_reader.specs.declared.kinds.Document.TheVariants.{Domain as TheOfDomain, Problem as TheOfProblem}
use Rattle.pddl_reader.specs.declared.kinds.SectionKind.{SectionKind as TheSectionKind}
use Rattle.pddl_reader.specs.declared.kinds.SectionKind.TheVariants.{Requirements as TheRequirements, Types as TheTypes, Constants as TheConstants, Predicates as ThePredicates, Action as TheAction, Domain as TheDomain, Objects as TheObjects, Init as TheInit, Goal as TheGoal}
use Rattle.pddl_reader.specs.declared.kinds.ActionPart.{ActionPart as TheActionPart}
use Rattle.pddl_reader.specs.declared.kinds.ActionPart.TheVariants.{Parameters as TheParameters, Precondition as ThePartPrecondition, Effect as ThePartEffect}

-- what a typed list has
abbrev pub Listed : Type 0
Listed = TheListed

pattern abbrev pub Names : Listed
Names = TheNames

pattern abbrev pub Variables : Listed
Variables = TheVariables

-- where a condition or an atom may stand
abbrev pub Part : Type 0
Part = ThePart

pattern abbrev pub Precondition : Part
Precondition = ThePrecondition

pattern abbrev pub Effect : Part
Effect = TheEffect

pattern abbrev pub Start : Part
Start = TheStart

-- what a text is read as
abbrev pub Document : Type 0
Document = TheDocument

pattern abbrev pub OfDomain : Document
OfDomain = TheOfDomain

pattern abbrev pub OfProblem : Document
OfProblem = TheOfProblem

-- the kinds of sections
abbrev pub SectionKind : Type 0
SectionKind = TheSectionKind

pattern abbrev pub Requirements : SectionKind
Requirements = TheRequirements

pattern abbrev pub Types : SectionKind
Types = TheTypes

pattern abbrev pub Constants : SectionKind
Constants = TheConstants

pattern abbrev pub Predicates : SectionKind
Predicates = ThePredicates

pattern abbrev pub Action : SectionKind
Action = TheAction

pattern abbrev pub Domain : SectionKind
Domain = TheDomain

pattern abbrev pub Objects : SectionKind
Objects = TheObjects

pattern abbrev pub Init : SectionKind
Init = TheInit

pattern abbrev pub Goal : SectionKind
Goal = TheGoal

-- the parts of an action
abbrev pub ActionPart : Type 0
ActionPart = TheActionPart

pattern abbrev pub Parameters : ActionPart
Parameters = TheParameters

pattern abbrev pub PartPrecondition : ActionPart
PartPrecondition = ThePartPrecondition

pattern abbrev pub PartEffect : ActionPart
PartEffect = ThePartEffect
