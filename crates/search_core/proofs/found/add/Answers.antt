use Rattle.std.proofs.Common.{◌∙◌}
use Rattle.indexmap.proofs.CallerLemmas.{insert_entry-new}
use Rattle.search_core.proofs.LookupLemmas.{lookup_fresh}
use Rattle.search_core.proofs.found.add.Goals as goal

pub returns-clause-added : goal.returns-clause-added
returns-clause-added g c =
    c.in_ok-insert.ensures.entries ∙ insert_entry-new _ c.args.progress.now.found c.args.state c.args.found
    (lookup_fresh _ _ g.met.S.State.Ord.total g.met.S.State.Ord.matches_eq g.met.S.Space.same _ _ c.requires)
