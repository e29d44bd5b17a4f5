-- The rules of a problem, in their order.
use Rattle.std.proofs.Common.{List, [], ◌∷◌, ◌++◌}
use Rattle.std.specs.Prelude.{All}
use Rattle.std.proofs.lemmas.List.Elements.{All-cons, All-append}
use Rattle.grd_base.specs.declared.roles.FileRole.TheVariants.{Problem}
use Rattle.pddl_reader.specs.Values.{PlainDomain, PlainProblem}
use Rattle.type_check.specs.declared.faults.CheckTypeFault.{CheckTypeFault}
use Rattle.type_check.specs.Types.{names_of}
use Rattle.type_check.specs.Checks.{Check, Passes}
use Rattle.type_check.specs.Rules.{all_objects, count_checks, is_for_domain, problem_checks}
use Rattle.type_check.specs.Scopes.{PlainScope, literal_in}
use Rattle.type_check.specs.Parts.{names_rules, literals_rules}
use Rattle.type_check.specs.Tables.{HasFault}
use Rattle.type_check.proofs.FirstFaults.{fault_front, fault_behind, fault_later}

module _ (d : PlainDomain) (p : PlainProblem) where
  abbrev objects : List Check
  objects = names_rules Problem d (names_of d.constants) p.objects

  abbrev pub scope_of : PlainScope
  scope_of = record { file = Problem; domain = d; parameters = []; objects = all_objects d p }

  abbrev atoms : List Check
  atoms = literals_rules scope_of p.init

  pub domain_fault : (fault : CheckTypeFault) → HasFault d (is_for_domain d p ∷ []) fault → HasFault d (problem_checks d p) fault
  unfolding problem_checks names_rules literals_rules literal_in
  domain_fault fault h = fault_front d (is_for_domain d p ∷ []) (objects ++ count_checks d p ++ atoms) fault h

  module _ (is_for : Passes d (is_for_domain d p)) where
    pub objects_fault : (fault : CheckTypeFault) → HasFault d objects fault → HasFault d (problem_checks d p) fault
    unfolding problem_checks names_rules literals_rules literal_in
    objects_fault fault h =
        fault_later d (is_for_domain d p) (objects ++ count_checks d p ++ atoms) fault is_for
        (fault_front d (objects ++ count_checks d p) atoms fault (fault_front d objects (count_checks d p) fault h))

    module _ (are_typed : All (Passes d) objects) where
      pub count_fault : (fault : CheckTypeFault) → HasFault d (count_checks d p) fault → HasFault d (problem_checks d p) fault
      unfolding problem_checks names_rules literals_rules literal_in
      count_fault fault h =
          fault_later d (is_for_domain d p) (objects ++ count_checks d p ++ atoms) fault is_for
          (fault_front d (objects ++ count_checks d p) atoms fault (fault_behind d objects (count_checks d p) fault are_typed h))

      module _ (are_few : All (Passes d) (count_checks d p)) where
        pub atoms_fault : (fault : CheckTypeFault) → HasFault d atoms fault → HasFault d (problem_checks d p) fault
        unfolding problem_checks names_rules literals_rules literal_in
        atoms_fault fault h =
            fault_later d (is_for_domain d p) (objects ++ count_checks d p ++ atoms) fault is_for
            (fault_behind d (objects ++ count_checks d p) atoms fault (All-append (Passes d) objects (count_checks d p) are_typed are_few) h)

        pub problem_passes : All (Passes d) atoms → All (Passes d) (problem_checks d p)
        unfolding problem_checks names_rules literals_rules literal_in
        problem_passes h =
            All-cons (Passes d) (is_for_domain d p) (objects ++ count_checks d p ++ atoms) is_for
            (All-append (Passes d) (objects ++ count_checks d p) atoms (All-append (Passes d) objects (count_checks d p) are_typed are_few) h)
