use Rattle.cost_certificate.specs.declared.kinds.CheckKind.{CheckKind}
use Rattle.design_certificate.specs.Nodes.{plain_node}
use Rattle.design_certificate.specs.Trees.{IsValidTree}
use Rattle.design_certificate.specs.TreeFaults.{IsTreeFault}
use Rattle.design_certificate.proofs.ExactLemmas.{valid_told, fault_told}
use Rattle.design_certificate.proofs.FaultLemmas.{tree_passes, tree_once}
use Rattle.design_certificate.proofs.tree.valid_tree.Goals as goal

pub returns-clause-valid_exactly : goal.returns-clause-valid_exactly
returns-clause-valid_exactly c =
    let law = c.tables_fail_once.ensures in
    let Fault : CheckKind → Type 0 = λ kind. IsTreeFault c.args.task.now c.args.costs.now c.args.named.now c.args.members c.args.least kind (plain_node c.args.node.now) in
    valid_told (IsValidTree c.args.task.now c.args.costs.now c.args.named.now c.args.members c.args.least (plain_node c.args.node.now)) Fault
    (tree_passes law.valid law.once c.args.task.now c.args.costs.now c.args.named.now c.args.members c.args.least (plain_node c.args.node.now)) c.fault_of_tree.result c.fault_of_tree.ensures.fault

pub returns-clause-fault_exactly : goal.returns-clause-fault_exactly
returns-clause-fault_exactly c =
    let law = c.tables_fail_once.ensures in
    let Fault : CheckKind → Type 0 = λ kind. IsTreeFault c.args.task.now c.args.costs.now c.args.named.now c.args.members c.args.least kind (plain_node c.args.node.now) in
    fault_told (IsValidTree c.args.task.now c.args.costs.now c.args.named.now c.args.members c.args.least (plain_node c.args.node.now)) Fault
    (tree_passes law.valid law.once c.args.task.now c.args.costs.now c.args.named.now c.args.members c.args.least (plain_node c.args.node.now))
    (tree_once law.valid law.once c.args.task.now c.args.costs.now c.args.named.now c.args.members c.args.least (plain_node c.args.node.now)) c.fault_of_tree.result c.fault_of_tree.ensures.valid
    c.fault_of_tree.ensures.fault
