use Rattle.design_certificate.proofs.BestLemmas.{best_of}
use Rattle.design_certificate.proofs.TreeLemmas.{tree_means}
use Rattle.std.proofs.Common.{◌+◌}
use Rattle.design_certificate.proofs.laws.design_is_best.Goals as goal

pub returns : goal.returns
returns c = λ t costs named budget w removed are are_named few keeps wcd first second.
    best_of t budget removed w few keeps wcd
    (λ some. let tree = first some in tree_means c.rows_refute.ensures t costs are named are_named budget w tree.0 tree.1)
    (λ n is. let tree = second n is in tree_means c.rows_refute.ensures t costs are named are_named n (w + 1) tree.0 tree.1)
