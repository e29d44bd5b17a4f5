use Rattle.std.proofs.Common.{take, arith}
use Rattle.grd_base.proofs.ListLemmas.{take_next}
use Rattle.cost_certificate.proofs.BoundLemmas.{best_none}
use Rattle.cost_certificate.proofs.bounds.best_bounds.Goals as goal

pub loop-row-init : goal.loop-row-init
loop-row-init g c = best_none c.new-bounds.result.entries c.new-bounds.ensures.empty

pub loop-row-preserved : goal.loop-row-preserved
loop-row-preserved g c =
    rw (take_next c.args.rows.now c.loop-row.row-index c.row-item.result (omega arith) c.row-item.is)
    (c.in_ok-note_row.ensures (take c.loop-row.row-index c.args.rows.now) c.loop-row.invariant)
