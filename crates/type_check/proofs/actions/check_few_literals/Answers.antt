use Rattle.std.proofs.Common.{[], ◌∷◌, sym, subst, arith, length-append}
use Rattle.pddl_reader.specs.Values.{PlainSchema}
use Rattle.type_check.specs.Rules.{few_literals}
use Rattle.type_check.specs.Tables.{HasFault}
use Rattle.type_check.proofs.FirstFaults.{fault_here}
use Rattle.type_check.proofs.actions.check_few_literals.Goals as goal

pub returns-then-len-gt-MOST_LITERALS-clause-fault : goal.returns-then-len-gt-MOST_LITERALS-clause-fault
returns-then-len-gt-MOST_LITERALS-clause-fault c d =
    let a : PlainSchema = record { name = c.action.inside.name; parameters = c.action.inside.parameters.items; pre = c.action.inside.pre.items; effect = c.action.inside.effect.items } in
    subst (λ (b : PlainSchema). HasFault d (few_literals b ∷ []) c.fault.result) c.action.view_is
    (subst (HasFault d (few_literals a ∷ [])) (sym c.fault.ensures)
    (fault_here d (few_literals a) [] (λ few. omega (arith, few, c.len.ensures, c.len-2.ensures, c.action.inside.pre.ok.0, c.action.inside.effect.ok.0, length-append c.action.inside.pre.items c.action.inside.effect.items))))
