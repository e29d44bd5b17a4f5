-- The rules of the parts of a domain and a problem, by words that don't unfold: the contracts of the steps of the
-- check name them, and the laws of the parts see through them.
use Rattle.std.specs.Prelude.{ℕ, List, [], ◌++◌}
use Rattle.std.specs.List.{flat_map}
use Rattle.grd_base.specs.declared.roles.FileRole.{FileRole}
use Rattle.grd_base.specs.declared.roles.FileRole.TheVariants.{Domain}
use Rattle.pddl_reader.specs.Values.{PlainTypedName, PlainLiteral, PlainSchema, PlainPredicate, PlainDomain}
use Rattle.type_check.specs.Types.{entries}
use Rattle.type_check.specs.Checks.{Check}
use Rattle.type_check.specs.Rules.{checks_of_each, type_checks, names_checks, predicate_checks, action_checks}
use Rattle.type_check.specs.Scopes.{PlainScope, literal_in}

-- the declared types
unfoldable pub types_rules : PlainDomain → List Check
types_rules d = checks_of_each type_checks (entries d)

-- typed names behind names that are declared already
unfoldable pub names_rules : FileRole → PlainDomain → List (List ℕ) → List PlainTypedName → List Check
names_rules file d names list = names_checks file d names list

-- a predicate behind others, and all predicates
unfoldable pub predicate_rules : PlainDomain → List PlainPredicate → PlainPredicate → List Check
predicate_rules d before q = predicate_checks d before q

unfoldable pub predicates_rules : PlainDomain → List PlainPredicate → List Check
predicates_rules d predicates = checks_of_each (predicate_checks d) predicates

-- an action behind others, and all actions
unfoldable pub action_rules : PlainDomain → List PlainSchema → PlainSchema → List Check
action_rules d before a = action_checks d before a

unfoldable pub actions_rules : PlainDomain → List PlainSchema → List Check
actions_rules d actions = checks_of_each (action_checks d) actions

-- what a domain declares in front of its actions
unfoldable pub front_rules : PlainDomain → List Check
front_rules d = types_rules d ++ names_rules Domain d [] d.constants ++ predicates_rules d d.predicates

-- literals in a scope
unfoldable pub literals_rules : PlainScope → List PlainLiteral → List Check
literals_rules s literals = flat_map (literal_in s) literals
