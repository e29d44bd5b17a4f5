-- The line that each status but Done writes to the error stream.
use Rattle.std.specs.Prelude.{ℕ, ◌+◌, List, [], ◌++◌, codes}
use Rattle.std.specs.Fmt.{decimal}
use Rattle.grd_base.specs.declared.roles.FileRole.{FileRole}
use Rattle.grd_base.specs.declared.roles.FileRole.TheVariants.{Domain, Problem, Goals, Observations, Certificate, Steps}
use Rattle.goal_files.specs.declared.faults.GoalFault.{GoalFault}
use Rattle.goal_files.specs.declared.faults.GoalFault.TheVariants.{Shape, UnknownAtom, NoGoal, TooManyGoals, OutOfMemory as GoalsOutOfMemory}
use Rattle.pddl_lexer.specs.declared.faults.TreeFault.{TreeFault}
use Rattle.pddl_lexer.specs.declared.faults.TreeFault.TheVariants.{Nothing, TooDeep, Unopened, Trailing, Unclosed, OutOfMemory as TreeOutOfMemory}
use Rattle.pddl_reader.specs.declared.faults.Feature.{Feature}
use Rattle.pddl_reader.specs.declared.faults.Feature.TheVariants.{Requirement, Functions, Derived, Durative, Constraints, Metric, EitherOfNames, Disjunction, Implication, Quantifier, Conditional, Preference, NumericEffect, NumericCondition, Equality, NegativeInit}
use Rattle.pddl_reader.specs.declared.faults.PddlFault.{PddlFault}
use Rattle.pddl_reader.specs.declared.faults.PddlFault.TheVariants.{Lex, Tree, Shape as PddlShape, Unsupported, DoubledSection, OutOfMemory as PddlOutOfMemory}
use Rattle.type_check.specs.declared.faults.TypeFault.{TypeFault}
use Rattle.type_check.specs.declared.faults.TypeKind.{TypeKind}
use Rattle.type_check.specs.declared.faults.TypeKind.TheVariants.{UnknownType, TypeCycle, Doubled, UnknownPredicate, WrongCount, WrongType, UnknownName, UnboundVariable, OtherDomain, TooManyObjects, TooManyParameters, TooManyLiterals}
use Rattle.ground_all.specs.declared.faults.GroundFault.{GroundFault}
use Rattle.ground_all.specs.declared.faults.GroundFault.TheVariants.{TooManyAtoms, TooManyActions, OutOfMemory as CountOutOfMemory}
use Rattle.grd_program.specs.declared.status.Status.{Status}
use Rattle.grd_program.specs.declared.status.Status.TheVariants.{Done, Refused, Usage, Limit, ReadFailed, WriteFailed, OutOfMemory}
use Rattle.grd_program.specs.declared.status.Refusal.{Refusal}
use Rattle.grd_program.specs.declared.status.Refusal.TheVariants.{TooLong, Pddl, Typing, Goals as OfGoals, Count}
use Rattle.command_words.specs.declared.faults.UsageFault.{UsageFault}
use Rattle.command_words.specs.declared.faults.UsageFault.TheVariants.{NoCommand, UnknownCommand, BadItem, Repeated, Missing, BadNumber}
use Rattle.grd_program.specs.declared.status.LimitFault.TheVariants.{States}
use Rattle.grd_program.specs.declared.status.Target.TheVariants.{Output, Certificate as ToCertificate}
use Rattle.command_words.specs.Commands.{flag_of}

-- the word of a file
abbrev pub role_text : FileRole → List ℕ
role_text Domain = codes "domain"
role_text Problem = codes "problem"
role_text Goals = codes "goals"
role_text Observations = codes "observations"
role_text Certificate = codes "certificate"
role_text Steps = codes "steps"

-- what is said of the words; a word is named by its place behind the program's name, from 1
abbrev pub usage_text : UsageFault → List ℕ
usage_text NoCommand = codes "no command"
usage_text UnknownCommand = codes "unknown command"
usage_text (BadItem place) = codes "word " ++ decimal place
usage_text (Repeated place) = codes "repeated word " ++ decimal place
usage_text (Missing name) = codes "missing " ++ flag_of name
usage_text (BadNumber name) = codes "number " ++ flag_of name

-- what is said of a goals file; lines are counted from 1
abbrev pub goals_text : GoalFault → List ℕ
goals_text (Shape line) = codes "line " ++ decimal line ++ codes ": shape"
goals_text (UnknownAtom line) = codes "line " ++ decimal line ++ codes ": unknown atom"
goals_text NoGoal = codes "no goal"
goals_text (TooManyGoals goals) = decimal goals ++ codes " goals, limit 32"
goals_text GoalsOutOfMemory = []

-- what a part of PDDL that is refused is called
abbrev pub feature_text : Feature → List ℕ
feature_text Requirement = codes "requirement"
feature_text Functions = codes "functions"
feature_text Derived = codes "derived predicate"
feature_text Durative = codes "durative action"
feature_text Constraints = codes "constraints"
feature_text Metric = codes "metric"
feature_text EitherOfNames = codes "either"
feature_text Disjunction = codes "disjunction"
feature_text Implication = codes "implication"
feature_text Quantifier = codes "quantifier"
feature_text Conditional = codes "conditional effect"
feature_text Preference = codes "preference"
feature_text NumericEffect = codes "numeric effect"
feature_text NumericCondition = codes "numeric condition"
feature_text Equality = codes "equality"
feature_text NegativeInit = codes "negative initial atom"

-- what is said of a place in a file
abbrev pub place_text : ℕ → List ℕ → List ℕ
place_text at what = codes "byte " ++ decimal at ++ codes ": " ++ what

-- what is said of the brackets of a text
abbrev pub tree_text : TreeFault → List ℕ
tree_text Nothing = codes "empty"
tree_text (TooDeep at) = place_text at (codes "too deep")
tree_text (Unopened at) = place_text at (codes "unopened")
tree_text (Trailing at) = place_text at (codes "trailing")
tree_text (Unclosed at) = place_text at (codes "unclosed")
tree_text TreeOutOfMemory = []

-- what is said of a domain or a problem; a place is a byte number, from 0
abbrev pub pddl_text : PddlFault → List ℕ
pddl_text (Lex at) = place_text at (codes "bad byte")
pddl_text (Tree fault) = tree_text fault
pddl_text (PddlShape at) = place_text at (codes "shape")
pddl_text (Unsupported at feature) = place_text at (codes "unsupported " ++ feature_text feature)
pddl_text (DoubledSection at) = place_text at (codes "doubled section")
pddl_text PddlOutOfMemory = []

-- what a broken rule of typing is called
abbrev pub kind_text : TypeKind → List ℕ
kind_text UnknownType = codes "unknown type"
kind_text TypeCycle = codes "type cycle"
kind_text Doubled = codes "doubled"
kind_text UnknownPredicate = codes "unknown predicate"
kind_text WrongCount = codes "wrong count"
kind_text WrongType = codes "wrong type"
kind_text UnknownName = codes "unknown name"
kind_text UnboundVariable = codes "unbound variable"
kind_text OtherDomain = codes "other domain"
kind_text TooManyObjects = codes "too many objects"
kind_text TooManyParameters = codes "too many parameters"
kind_text TooManyLiterals = codes "too many literals"

-- what is said of a domain and a problem that are not well typed
abbrev pub typing_text : TypeFault → List ℕ
typing_text fault = role_text fault.file ++ codes ": " ++ place_text fault.at (kind_text fault.kind)

-- what is said of a world that is too large
abbrev pub count_text : GroundFault → List ℕ
count_text (TooManyAtoms count) = decimal count ++ codes " atoms, limit 3072"
count_text (TooManyActions count) = decimal count ++ codes " actions, limit 1048576"
count_text CountOutOfMemory = []

-- what is said of a file that is refused
abbrev pub refusal_text : Refusal → List ℕ
refusal_text (TooLong role limit) = role_text role ++ codes ": longer than " ++ decimal limit ++ codes " bytes"
refusal_text (Pddl role fault) = role_text role ++ codes ": " ++ pddl_text fault
refusal_text (Typing fault) = typing_text fault
refusal_text (OfGoals fault) = codes "goals: " ++ goals_text fault
refusal_text (Count fault) = count_text fault

-- goals are counted from 1 in the text
abbrev pub error_text : Status → List ℕ
error_text Done = []
error_text (Refused refusal) = codes "grd: " ++ refusal_text refusal ++ codes "\n"
error_text (Usage fault) = codes "grd: usage: " ++ usage_text fault ++ codes "\n"
error_text (Limit (States goal states)) =
    codes "grd: limit: more than " ++ decimal states ++ codes " states near goal " ++ decimal (goal.0 + 1) ++ codes "\n"
error_text (ReadFailed role) = codes "grd: " ++ role_text role ++ codes ": read failed\n"
error_text (WriteFailed Output) = codes "grd: output: write failed\n"
error_text (WriteFailed ToCertificate) = codes "grd: certificate: write failed\n"
error_text OutOfMemory = codes "grd: out of memory\n"
