-- The rules of an action, in their order.
use Rattle.std.proofs.Common.{List, [], ◌∷◌, ◌++◌}
use Rattle.std.specs.Prelude.{All}
use Rattle.std.proofs.lemmas.List.Elements.{All-cons, All-append}
use Rattle.grd_base.specs.declared.roles.FileRole.TheVariants.{Domain}
use Rattle.pddl_reader.specs.Values.{PlainSchema, PlainDomain}
use Rattle.type_check.specs.declared.faults.CheckTypeFault.{CheckTypeFault}
use Rattle.type_check.specs.Checks.{Check, Passes}
use Rattle.type_check.specs.Rules.{is_new, few_parameters, few_literals, literals_of, schema_names}
use Rattle.type_check.specs.Scopes.{PlainScope, literal_in}
use Rattle.type_check.specs.Parts.{names_rules, action_rules, literals_rules}
use Rattle.type_check.specs.Tables.{HasFault}
use Rattle.type_check.proofs.FirstFaults.{fault_front, fault_behind, fault_later, fault_second, fault_third, passed_third}

module _ (d : PlainDomain) (before : List PlainSchema) (a : PlainSchema) where
  abbrev new : Check
  new = is_new Domain (schema_names before) a.name

  abbrev few : Check
  few = few_parameters a.parameters a.name

  abbrev parameters : List Check
  parameters = names_rules Domain d [] a.parameters

  abbrev pub scope_of : PlainScope
  scope_of = record { file = Domain; domain = d; parameters = a.parameters; objects = d.constants }

  abbrev literals : List Check
  literals = literals_rules scope_of (literals_of a)

  abbrev rest : List Check
  rest = parameters ++ few_literals a ∷ literals

  pub name_fault : (fault : CheckTypeFault) → HasFault d (new ∷ []) fault → HasFault d (action_rules d before a) fault
  unfolding action_rules names_rules literals_rules literal_in
  name_fault fault h = fault_front d (new ∷ []) (few ∷ rest) fault h

  module _ (is_first : Passes d new) where
    pub few_fault : (fault : CheckTypeFault) → HasFault d (few ∷ []) fault → HasFault d (action_rules d before a) fault
    unfolding action_rules names_rules literals_rules literal_in
    few_fault fault h = fault_second d new few rest fault is_first h

    module _ (are_few : Passes d few) where
      pub parameters_fault : (fault : CheckTypeFault) → HasFault d parameters fault → HasFault d (action_rules d before a) fault
      unfolding action_rules names_rules literals_rules literal_in
      parameters_fault fault h = fault_third d new few rest fault is_first are_few (fault_front d parameters (few_literals a ∷ literals) fault h)

      module _ (are_typed : All (Passes d) parameters) where
        pub few_literals_fault : (fault : CheckTypeFault) → HasFault d (few_literals a ∷ []) fault → HasFault d (action_rules d before a) fault
        unfolding action_rules names_rules literals_rules literal_in
        few_literals_fault fault h =
            fault_third d new few rest fault is_first are_few
            (fault_behind d parameters (few_literals a ∷ literals) fault are_typed (fault_front d (few_literals a ∷ []) literals fault h))

        module _ (few_of_them : Passes d (few_literals a)) where
          pub literals_fault : (fault : CheckTypeFault) → HasFault d literals fault → HasFault d (action_rules d before a) fault
          unfolding action_rules names_rules literals_rules literal_in
          literals_fault fault h =
              fault_third d new few rest fault is_first are_few
              (fault_behind d parameters (few_literals a ∷ literals) fault are_typed (fault_later d (few_literals a) literals fault few_of_them h))

          pub action_passes : All (Passes d) literals → All (Passes d) (action_rules d before a)
          unfolding action_rules names_rules literals_rules literal_in
          action_passes h =
              passed_third d new few rest is_first are_few
              (All-append (Passes d) parameters (few_literals a ∷ literals) are_typed (All-cons (Passes d) (few_literals a) literals few_of_them h))
