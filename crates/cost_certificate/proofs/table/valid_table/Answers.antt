use Rattle.cost_certificate.proofs.OneFault.{valid_told, fault_told}
use Rattle.cost_certificate.proofs.table.valid_table.Goals as goal

pub returns-clause-valid_exactly : goal.returns-clause-valid_exactly
returns-clause-valid_exactly c =
    valid_told c.args.task.now c.args.goal c.args.removed.now c.args.table.now c.fault_of_table.result c.fault_of_table.ensures.fault

pub returns-clause-fault_exactly : goal.returns-clause-fault_exactly
returns-clause-fault_exactly c =
    fault_told c.args.task.now c.args.goal c.args.removed.now c.args.table.now c.fault_of_table.result
    c.fault_of_table.ensures.valid c.fault_of_table.ensures.fault
