use Rattle.std.proofs.Common.{◌≡◌, ◌<◌, ◌++◌, ◌∷◌, [], length, map, List, sym, ◌∙◌, ap, arith}
use Rattle.std.proofs.lemmas.List.{length-map}
use Rattle.grd_base.specs.declared.ids.ActionId.{ActionId}
use Rattle.strips_model.specs.Index.{listed}
use Rattle.strips_model.proofs.IndexLemmas.{listed_new, listed_kept, listed_at}
use Rattle.strips_model.proofs.index.AtomIndex.add.Goals as goal

pub returns-clause-last : goal.returns-clause-last
returns-clause-last c =
    let rows = c.self.inside.rows.items in
    let long = length-map rows (λ row. row.items) in
    let longer : length (map (λ row. row.items) rows) ≡ length c.args.self.now = ap length c.self.view_is in
    let within : c.args.atom.0 < length rows = omega (arith, c.requires, long, longer) in
    let before = ap (λ (row : _). row.items) c.index_mut.ensures.value in
    listed_new (λ row. row.items) rows c.args.atom.0 c.push.new.self within ∙ c.in_ok-push.ensures.items
    ∙ ap (λ (row : List ActionId). row ++ c.args.a ∷ []) (before ∙ sym (listed_at (λ row. row.items) rows c.args.atom.0 _ within) ∙ ap (λ lists. listed lists c.args.atom.0) c.self.view_is)

pub returns-clause-others : goal.returns-clause-others
returns-clause-others c n other = listed_kept (λ row. row.items) c.self.inside.rows.items c.args.atom.0 n c.push.new.self other ∙ ap (λ lists. listed lists n) c.self.view_is
