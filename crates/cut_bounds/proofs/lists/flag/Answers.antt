use Rattle.std.proofs.Common.{arith}
use Rattle.cut_bounds.proofs.ZoneCuts.{flag_more}
use Rattle.cut_bounds.proofs.lists.flag.Goals as goal

pub loop-a-preserved : goal.loop-a-preserved
loop-a-preserved c =
    flag_more c.args.used.now c.loop-a.used c.args.list.now c.loop-a.a-index (record { 0 = 0 }) c.loop-a-test.true
    (omega (arith, c.loop-a.invariant.sized, c.requires c.loop-a.a-index (record { 0 = 0 }) c.loop-a-test.true)) c.loop-a.invariant
