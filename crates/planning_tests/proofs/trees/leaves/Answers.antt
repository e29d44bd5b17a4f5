use Rattle.std.proofs.Common.{[], ◌∷◌, map, sym, subst}
use Rattle.std.proofs.lemmas.List.{map-append}
use Rattle.design_certificate.specs.Nodes.{plain_node, children_of}
use Rattle.design_certificate.specs.Ranges.{AreNodesOver}
use Rattle.planning_tests.proofs.NodeRows.{over_push}
use Rattle.planning_tests.proofs.trees.leaves.Goals as goal

pub loop-one-preserved : goal.loop-one-preserved
loop-one-preserved c =
    let t = c.args.task.now in
    let old = c.loop-one.nodes.items in
    let one = c.in_ok-leaf.field-0 in
    subst (λ nodes. AreNodesOver t (children_of (map plain_node nodes))) (sym c.in_ok-push.ensures.items)
    (subst (λ nodes. AreNodesOver t (children_of nodes)) (sym (map-append plain_node old (one ∷ [])))
    (over_push t (map plain_node old) (plain_node one) c.loop-one.invariant c.in_ok-leaf.ensures))
