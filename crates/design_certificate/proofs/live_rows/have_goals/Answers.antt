use Rattle.std.proofs.Common.{◌+◌, ap, sym, subst, refl}
use Rattle.std.proofs.lemmas.Bool.{false≢true}
use Rattle.std.proofs.Common.{◌∙◌}
use Rattle.grd_base.specs.declared.ids.GoalId.{GoalId}
use Rattle.design_certificate.proofs.GivenLemmas.{AreListed, listed_skip, listed_more, listed_none, listed_other, listed_end, differ_told, same_told, below}
use Rattle.design_certificate.proofs.live_rows.have_goals.Goals as goal
use Rattle.design_certificate.proofs.live_rows.have_goals.Goals.{then-has_number+else-at-tables+else-ne, else-has_number}

pub returns-then-at-tables : goal.returns-then-at-tables
returns-then-at-tables c =
    listed_none c.args.costs.now c.args.tables.now c.loop-k.at c.loop-k.k c.loop-k.invariant c.loop-k-test.true (c.has_number.ensures.0 c.if-has_number.true) c.if-at-tables.true

pub returns-then-ne : goal.returns-then-ne
returns-then-ne c =
    listed_other c.args.costs.now c.args.tables.now c.loop-k.at c.loop-k.k c.loop-k.invariant c.index-tables-at.result c.loop-k-test.true (c.has_number.ensures.0 c.if-has_number.true)
    (below _ _ c.loop-k.invariant.low c.if-at-tables.false)
    (λ e. differ_told _ c.loop-k.k c.ne.result c.ne.ensures c.if-ne.true (ap (λ (g : GoalId). g.0) e))

pub loop-k-preserved : goal.loop-k-preserved
loop-k-preserved c = elim c.if-has_number.branch [
  | then-has_number+else-at-tables+else-ne w ↦
      subst (λ n. AreListed c.args.costs.now c.args.tables.now n (c.loop-k.k + 1)) (sym w.at-is)
      (listed_more c.args.costs.now c.args.tables.now c.loop-k.at c.loop-k.k c.loop-k.invariant w.index-tables-at.result c.loop-k-test.true (c.has_number.ensures.0 w.if-has_number.true)
      (below _ _ c.loop-k.invariant.low w.if-at-tables.false)
      (ap (λ n. record { 0 = n }) (same_told _ c.loop-k.k w.ne.result w.ne.ensures w.if-ne.false)))
  | else-has_number w ↦
      subst (λ n. AreListed c.args.costs.now c.args.tables.now n (c.loop-k.k + 1)) (sym w.at-is)
      (listed_skip c.args.costs.now c.args.tables.now c.loop-k.at c.loop-k.k c.loop-k.invariant c.loop-k-test.true (λ has. false≢true (sym w.if-has_number.false ∙ c.has_number.ensures.1 has)))
]

pub returns : goal.returns
returns c = listed_end c.args.costs.now c.args.tables.now c.loop-k.at c.loop-k.k c.loop-k.invariant c.loop-k-test.false _ refl
