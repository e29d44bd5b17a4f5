use Rattle.design_certificate.proofs.TreeLemmas.{node_means, tree_means}
use Rattle.design_certificate.proofs.laws.trees_hide.Goals as goal

pub returns : goal.returns
returns c = record {
  tree = λ t costs named m len tree are are_named. tree_means c.rows_refute.ensures t costs are named are_named m len tree;
  node = λ t costs named m len removed kept node are are_named. node_means c.rows_refute.ensures t costs are named are_named m len removed kept node;
}
