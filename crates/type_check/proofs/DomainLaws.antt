-- The rules of a domain and a problem, in their order.
use Rattle.std.proofs.Common.{List, [], ◌++◌}
use Rattle.std.specs.Prelude.{All}
use Rattle.std.proofs.lemmas.List.Elements.{All-append}
use Rattle.grd_base.specs.declared.roles.FileRole.TheVariants.{Domain}
use Rattle.pddl_reader.specs.Values.{PlainDomain, PlainProblem}
use Rattle.type_check.specs.declared.faults.CheckTypeFault.{CheckTypeFault}
use Rattle.type_check.specs.Checks.{Check, Passes}
use Rattle.type_check.specs.Rules.{domain_checks, problem_checks, checks_of, IsWellTyped}
use Rattle.type_check.specs.Parts.{types_rules, names_rules, predicates_rules, actions_rules, front_rules}
use Rattle.type_check.specs.Tables.{HasFault}
use Rattle.type_check.proofs.FirstFaults.{fault_front, fault_behind}

module _ (d : PlainDomain) where
  abbrev types : List Check
  types = types_rules d

  abbrev constants : List Check
  constants = names_rules Domain d [] d.constants

  abbrev predicates : List Check
  predicates = predicates_rules d d.predicates

  abbrev actions : List Check
  actions = actions_rules d d.actions

  pub types_fault : (fault : CheckTypeFault) → HasFault d types fault → HasFault d (front_rules d) fault
  unfolding front_rules
  types_fault fault h = fault_front d (types ++ constants) predicates fault (fault_front d types constants fault h)

  module _ (types_pass : All (Passes d) types) where
    pub constants_fault : (fault : CheckTypeFault) → HasFault d constants fault → HasFault d (front_rules d) fault
    unfolding front_rules
    constants_fault fault h = fault_front d (types ++ constants) predicates fault (fault_behind d types constants fault types_pass h)

    module _ (constants_pass : All (Passes d) constants) where
      pub predicates_fault : (fault : CheckTypeFault) → HasFault d predicates fault → HasFault d (front_rules d) fault
      unfolding front_rules
      predicates_fault fault h = fault_behind d (types ++ constants) predicates fault (All-append (Passes d) types constants types_pass constants_pass) h

      pub front_passes : All (Passes d) predicates → All (Passes d) (front_rules d)
      unfolding front_rules
      front_passes h = All-append (Passes d) (types ++ constants) predicates (All-append (Passes d) types constants types_pass constants_pass) h

  -- the actions stand behind
  pub front_fault : (fault : CheckTypeFault) → HasFault d (front_rules d) fault → HasFault d (domain_checks d) fault
  unfolding domain_checks front_rules types_rules names_rules predicates_rules actions_rules
  front_fault fault h = fault_front d (front_rules d) actions fault h

  pub actions_fault : All (Passes d) (front_rules d) → (fault : CheckTypeFault) → HasFault d actions fault → HasFault d (domain_checks d) fault
  unfolding domain_checks front_rules types_rules names_rules predicates_rules actions_rules
  actions_fault passed fault h = fault_behind d (front_rules d) actions fault passed h

  pub domain_passes : All (Passes d) (front_rules d) → All (Passes d) actions → All (Passes d) (domain_checks d)
  unfolding domain_checks front_rules types_rules names_rules predicates_rules actions_rules
  domain_passes passed h = All-append (Passes d) (front_rules d) actions passed h

  module _ (p : PlainProblem) where
    pub domain_fault : (fault : CheckTypeFault) → HasFault d (domain_checks d) fault → HasFault d (checks_of d p) fault
    unfolding checks_of
    domain_fault fault h = fault_front d (domain_checks d) (problem_checks d p) fault h

    pub problem_fault : All (Passes d) (domain_checks d) → (fault : CheckTypeFault) → HasFault d (problem_checks d p) fault → HasFault d (checks_of d p) fault
    unfolding checks_of
    problem_fault passed fault h = fault_behind d (domain_checks d) (problem_checks d p) fault passed h

    pub files_pass : All (Passes d) (domain_checks d) → All (Passes d) (problem_checks d p) → IsWellTyped d p
    unfolding checks_of
    files_pass passed h = All-append (Passes d) (domain_checks d) (problem_checks d p) passed h
