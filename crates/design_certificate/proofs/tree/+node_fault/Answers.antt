use Rattle.std.proofs.Common.{◌<◌, length, take, arith, inl, inr}
use Rattle.std.proofs.lemmas.Bool.{cases_lt}
use Rattle.design_certificate.specs.Trees.{IsValidNode}
use Rattle.design_certificate.specs.Nodes.{plain_node}
use Rattle.design_certificate.specs.TreeFaults.{FailsNode}
use Rattle.design_certificate.proofs.ChildLemmas.{one_too_many, one_too_few, some_told, none_told, node_fails, node_valid}
use Rattle.design_certificate.proofs.tree.+node_fault.Goals as goal

pub fault_of_children-returns-then-at-seen-clause-fault :
    goal.fault_of_children-returns-then-at-seen-clause-fault
fault_of_children-returns-then-at-seen-clause-fault t c =
    one_too_many c.args.task.now c.args.costs.now c.args.named.now c.args.members c.args.least c.args.removed.now c.args.seen.now c.args.from c.args.children.now
    c.loop-child.at c.loop-child.child-index (record { 0 = 0 }) c.loop-child.invariant c.child-item.result c.loop-child-test.true c.if-at-seen.true

pub fault_of_children-returns-in-Some-clause-fault :
    goal.fault_of_children-returns-in-Some-clause-fault
fault_of_children-returns-in-Some-clause-fault t c =
    node_fails c.args.task.now c.args.costs.now c.args.named.now c.args.members c.args.least c.args.removed.now c.args.seen.now c.args.from c.args.children.now
    c.loop-child.at c.loop-child.child-index c.child-item.result (record { 0 = 0 }) c.loop-child.invariant c.loop-child-test.true c.if-at-seen.false c.child-item.is
    c.in_ok-more.more c.in_ok-more.ensures c.in-Some.kind
    (some_told (λ kind. FailsNode c.args.task.now c.args.costs.now c.args.named.now c.args.members c.args.least kind c.in_ok-more.more (take c.loop-child.at c.args.seen.now) (plain_node c.child-item.result))
    c.in_ok-kind.field-0 c.in-Some.kind c.in-Some.is c.in_ok-kind.ensures.fault)

pub fault_of_children-loop-child-preserved : goal.fault_of_children-loop-child-preserved
fault_of_children-loop-child-preserved t c =
    node_valid c.args.task.now c.args.costs.now c.args.named.now c.args.members c.args.least c.args.removed.now c.args.seen.now c.args.from c.args.children.now
    c.loop-child.at c.loop-child.child-index c.child-item.result (record { 0 = 0 }) c.loop-child.invariant c.loop-child-test.true c.if-at-seen.false c.child-item.is
    c.in_ok-more.more c.in_ok-more.ensures
    (none_told (IsValidNode c.args.task.now c.args.costs.now c.args.named.now c.args.members c.args.least c.in_ok-more.more (take c.loop-child.at c.args.seen.now) (plain_node c.child-item.result))
    c.in_ok-kind.field-0 c.in_default.is c.in_ok-kind.ensures.valid)

pub fault_of_children-returns-clause-fault : goal.fault_of_children-returns-clause-fault
fault_of_children-returns-clause-fault t c =
    let more : c.loop-child.at < length c.args.seen.now = elim (cases_lt c.loop-child.at (length c.args.seen.now)) [
      | inl low ↦ low
      | inr past ↦ absurd (c.if-at-seen-2.false (omega (arith, past, c.loop-child.invariant.low)))
    ] in
    one_too_few c.args.task.now c.args.costs.now c.args.named.now c.args.members c.args.least c.args.removed.now c.args.seen.now c.args.from c.args.children.now
    c.loop-child.at c.loop-child.child-index (record { 0 = 0 }) c.loop-child.invariant c.loop-child-test.false more
