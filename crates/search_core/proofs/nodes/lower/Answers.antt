use Rattle.std.proofs.Common.{refl, inl, inr}
use Rattle.std.proofs.lemmas.Bool.{false≢true}
use Rattle.search_core.proofs.PlaceLemmas.{value_at, set_same}
use Rattle.search_core.proofs.nodes.lower.Goals as goal

pub returns-then-is_no_deeper-clause-lowered : goal.returns-then-is_no_deeper-clause-lowered
returns-then-is_no_deeper-clause-lowered g c =
    let here = value_at c.args.reach.now.found.entries c.args.place c.index_mut-node.result.now c.index_mut-node.ensures.value in
    record {
      entry = (here.0, c.index_mut-node.result.now);
      at = here.1;
      by = inl (record {
        no_deeper = c.if-is_no_deeper.ensures.0 refl;
        same = set_same c.args.reach.now.found.entries c.args.place (here.0, c.index_mut-node.result.now) here.1;
        queue = refl;
      });
    }

pub returns-clause-lowered : goal.returns-clause-lowered
returns-clause-lowered g c =
    let here = value_at c.args.reach.now.found.entries c.args.place c.index_mut-node.result.now c.index_mut-node.ensures.value in
    record {
      entry = (here.0, c.index_mut-node.result.now);
      at = here.1;
      by = inr (record {
        deeper = λ near. false≢true (c.if-is_no_deeper.ensures.1 near);
        changed = refl;
        queued = c.in_ok-wait.ensures;
      });
    }
