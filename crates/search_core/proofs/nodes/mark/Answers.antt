use Rattle.std.proofs.Common.{refl}
use Rattle.search_core.proofs.PlaceLemmas.{value_at}
use Rattle.search_core.proofs.nodes.mark.Goals as goal

pub returns-clause-marked : goal.returns-clause-marked
returns-clause-marked g c =
    let here = value_at c.args.reach.now.found.entries c.args.place c.index_mut-node.result.now c.index_mut-node.ensures.value in
    record { entry = (here.0, c.index_mut-node.result.now); at = here.1; depth_is = refl; changed = refl }
