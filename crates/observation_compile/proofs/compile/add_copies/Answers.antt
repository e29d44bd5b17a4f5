use Rattle.std.proofs.Common.{arith}
use Rattle.observation_compile.proofs.CompileLemmas.{copies_next}
use Rattle.observation_compile.proofs.compile.add_copies.Goals as goal

pub loop-k-preserved : goal.loop-k-preserved
loop-k-preserved c = copies_next c.args.task.now c.args.observations.now c.loop-k.k (record { 0 = 0 }) c.args.actions.now.items c.loop-k.actions.items c.push.new.self.items c.in_ok-copy_for.field-0
    (omega arith) c.in_ok-copy_for.ensures c.loop-k.invariant c.in_ok-push.ensures.items
