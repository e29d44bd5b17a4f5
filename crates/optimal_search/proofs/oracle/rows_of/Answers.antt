-- One place more adds the row of its state.
use Rattle.std.proofs.Common.{◌≡◌, List, rules, sym, ◌∙◌, ap, Some}
use Rattle.std.specs.Prelude.{slice_get}
use Rattle.std.specs.Option.{option_map}
use Rattle.grd_base.specs.declared.bits.Bits.{Bits}
use Rattle.grd_base.specs.declared.ids.ActionId.{ActionId}
use Rattle.optimal_search.specs.declared.kept.Proved.{Proved}
use Rattle.optimal_search.proofs.RowLaws.{entry_right, entry_more}
use Rattle.optimal_search.proofs.oracle.rows_of.Goals as goal

pub row_at-requires : goal.row_at-requires
row_at-requires g c =
    let space = c.args.space.now in
    let x : Bits g.row.W × Proved (List (List ActionId)) = (c.unwrap.result.0.now, c.unwrap.result.1.now) in
    let at : slice_get c.args.kept.now.proved.entries c.loop-n.n ≡ Some x = sym c.get_index.ensures.entry ∙ ap (option_map (λ p. (p.0.now, p.1.now))) c.unwrap.ensures in
    (search rules, (search rules, entry_right space.task space.goal space.removed c.args.kept.now.proved.entries c.loop-n.n x at c.requires.right))

pub loop-n-preserved : goal.loop-n-preserved
loop-n-preserved g c =
    let space = c.args.space.now in
    let x : Bits g.row.W × Proved (List (List ActionId)) = (c.unwrap.result.0.now, c.unwrap.result.1.now) in
    let at : slice_get c.args.kept.now.proved.entries c.loop-n.n ≡ Some x = sym c.get_index.ensures.entry ∙ ap (option_map (λ p. (p.0.now, p.1.now))) c.unwrap.ensures in
    entry_more space.task space.removed c.args.kept.now.proved.entries c.loop-n.n x c.loop-n.rows.items c.push.new.self.items c.in_ok-row_at.field-0 at c.loop-n.invariant c.in_ok-push.ensures.items c.in_ok-row_at.ensures
