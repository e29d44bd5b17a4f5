use Rattle.std.proofs.Common.{drop}
use Rattle.design_certificate.proofs.ChildLemmas.{AreGoing}
use Rattle.design_certificate.proofs.tree.+node_fault.Given as goal

abbrev pub invariant-fault_of_children-loop-child : goal.invariant-fault_of_children-loop-child
invariant-fault_of_children-loop-child l =
    AreGoing l.fn.task l.fn.costs l.fn.named l.fn.members l.fn.least l.fn.removed l.fn.seen l.fn.from l.fn.children l.at (drop l.child-index l.fn.children)
