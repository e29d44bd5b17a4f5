use Rattle.plain_search.specs.Walks.{visits}
use Rattle.plain_search.proofs.CommonLemmas.{few_plans}
use Rattle.plain_search.proofs.common.wcd_in.Goals as goal

pub returns-in_default : goal.returns-in_default
returns-in_default g c = few_plans c.args.moves.now (visits c.args.layers.now.visited) c.args.layers.now.depths.items c.requires.deep c.args.costs.now c.requires.costs c.in_default.ensures.none
