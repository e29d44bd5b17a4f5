use Rattle.std.proofs.Common.{sym, subst, arith}
use Rattle.std.specs.Prelude.{All}
use Rattle.std.proofs.lemmas.List.{take_all}
use Rattle.grd_base.specs.declared.limits.Bound.TheVariants.{Steps}
use Rattle.grd_base.proofs.ListLemmas.{take_next}
use Rattle.optimal_search.specs.Kept.{rows_in, HasBound}
use Rattle.optimal_search.proofs.KeptLemmas.{entered_made, entered_more}
use Rattle.optimal_search.proofs.kept.Kept.enter_all.Goals as goal

pub returns-in_err-enter-clause-made : goal.returns-in_err-enter-clause-made
returns-in_err-enter-clause-made g c =
    entered_made _ _ _ c.args.rows.now c.row-item.result c.loop-row.invariant.made c.enter.ensures.made (c.loop-row.row-index, c.loop-row-test.true, sym c.row-item.is)

pub loop-row-preserved : goal.loop-row-preserved
loop-row-preserved g c =
    rw (take_next c.args.rows.now c.loop-row.row-index c.row-item.result c.loop-row-test.true c.row-item.is)
    (entered_more _ _ _ c.args.rows.now _ c.row-item.result c.loop-row.invariant c.enter.ensures.made c.enter.ensures.grows c.in_ok-enter.ensures.entered (c.loop-row.row-index, c.loop-row-test.true, sym c.row-item.is))

pub returns-clause-entered : goal.returns-clause-entered
returns-clause-entered g c =
    subst (λ rows. All (λ row. HasBound (rows_in c.loop-row.self.proved.entries) row.state (Steps 0)) rows) (take_all c.loop-row.row-index c.args.rows.now (omega (arith, c.loop-row-test.false))) c.loop-row.invariant.entered
