-- Nodes over a task, with one more behind them.
use Rattle.std.proofs.Common.{List, [], ◌∷◌, ◌++◌}
use Rattle.strips_model.specs.Values.{PlainTask}
use Rattle.design_certificate.specs.Trees.{PlainNode}
use Rattle.design_certificate.specs.Nodes.{children_of}
use Rattle.design_certificate.specs.Ranges.{IsNodeOver, AreNodesOver}

pub over_push : (t : PlainTask) (xs : List PlainNode) (y : PlainNode) → AreNodesOver t (children_of xs) → IsNodeOver t y → AreNodesOver t (children_of (xs ++ y ∷ []))
over_push t [] y over one = (one, tt)
over_push t (x ∷ xs) y over one = (over.0, over_push t xs y over.1 one)
