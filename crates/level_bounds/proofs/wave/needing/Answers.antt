use Rattle.std.proofs.Common.{arith}
use Rattle.level_bounds.proofs.FilingLemmas.{needing_more, needing_all}
use Rattle.level_bounds.proofs.wave.needing.Goals as goal

pub loop-p-preserved : goal.loop-p-preserved
loop-p-preserved c =
    needing_more c.args.needed_by.now c.args.atoms.now c.loop-p.p-index (record { 0 = 0 }) (omega arith) c.loop-p.found.items c.at.result.now c.extend_from_slice.new.self.items
    c.at.ensures c.in_ok-extend_from_slice.ensures.items c.loop-p.invariant

pub returns : goal.returns
returns c = needing_all c.args.needed_by.now c.args.atoms.now c.loop-p.p-index (omega arith) c.loop-p.found.items c.loop-p.invariant
