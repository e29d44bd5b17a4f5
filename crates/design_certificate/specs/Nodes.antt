-- The plain tree that a node stands for.
use Rattle.std.specs.Prelude.{List, [], ◌∷◌}
use Rattle.design_certificate.specs.declared.node.Node.{Node}
use Rattle.design_certificate.specs.declared.node.Node.TheOpen.{Node-F}
use Rattle.design_certificate.specs.declared.node.Node.TheFolds.{fold-Node}
use Rattle.design_certificate.specs.declared.node.LeafTable.{LeafTable}
use Rattle.design_certificate.specs.declared.node.LeafTable.TheVariants.{Own, Named}
use Rattle.design_certificate.specs.Trees.{PlainLeafTable, own, use_named, PlainNode, PlainNodes, leaf, branch, no_nodes, nodes}

abbrev pub plain_table : LeafTable → PlainLeafTable
plain_table (Own rows) = own rows
plain_table (Named n) = use_named n

-- a list of nodes as the children of a branch
abbrev pub children_of : List PlainNode → PlainNodes
children_of [] = no_nodes
children_of (n ∷ ns) = nodes n (children_of ns)

-- one layer of the tree
abbrev pub plain_layer : Node-F PlainNode → PlainNode
plain_layer (Node-F.Leaf g table) = leaf g (plain_table table)
plain_layer (Node-F.Branch w ns) = branch w (children_of ns.items)

abbrev pub plain_node : Node → PlainNode
plain_node = fold-Node PlainNode plain_layer
