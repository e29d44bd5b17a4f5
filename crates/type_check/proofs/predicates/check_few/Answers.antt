use Rattle.std.proofs.Common.{[], ◌∷◌, sym, subst, arith}
use Rattle.type_check.specs.Rules.{few_parameters}
use Rattle.type_check.specs.Tables.{HasFault}
use Rattle.type_check.proofs.FirstFaults.{fault_here}
use Rattle.type_check.proofs.predicates.check_few.Goals as goal

pub returns-then-parameters-gt-MOST_PARAMETERS-clause-fault : goal.returns-then-parameters-gt-MOST_PARAMETERS-clause-fault
returns-then-parameters-gt-MOST_PARAMETERS-clause-fault c d =
    let check = few_parameters c.args.parameters.now c.args.name.now in
    subst (HasFault d (check ∷ [])) (sym c.fault.ensures) (fault_here d check [] (λ few. omega (arith, few)))
