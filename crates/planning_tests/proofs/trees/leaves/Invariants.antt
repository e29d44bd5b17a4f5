use Rattle.std.specs.Prelude.{map}
use Rattle.design_certificate.specs.Nodes.{plain_node, children_of}
use Rattle.design_certificate.specs.Ranges.{AreNodesOver}
use Rattle.planning_tests.proofs.trees.leaves.Given as goal

abbrev pub invariant-loop-one : goal.invariant-loop-one
invariant-loop-one l = AreNodesOver l.fn.task (children_of (map plain_node l.nodes.items))
