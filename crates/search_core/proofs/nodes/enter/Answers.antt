use Rattle.std.proofs.Common.{refl, ◌∙◌}
use Rattle.indexmap.proofs.CallerLemmas.{insert_entry-new}
use Rattle.search_core.proofs.LookupLemmas.{lookup_fresh}
use Rattle.search_core.proofs.nodes.enter.Goals as goal

pub returns-clause-entered : goal.returns-clause-entered
returns-clause-entered g c = record {
  entry = (c.args.state, record { way = c.args.way; bound = c.in_ok-bound.bound; mark = c.in_ok-bound.mark; waits = c.is_number.result; expanded = _ });
  pushed = c.in_ok-insert.ensures.entries ∙ insert_entry-new _ c.args.reach.now.found c.args.state _
      (lookup_fresh _ _ g.met.S.State.Ord.total g.met.S.State.Ord.matches_eq g.met.S.Space.same _ _ c.requires);
  state_is = refl;
  way_is = refl;
  shown = c.in_ok-bound.ensures;
  waits = c.is_number.ensures;
  expanded = refl;
  queued = rw c.len-place.ensures.len at c.in_ok-wait.ensures;
}
