use Rattle.std.proofs.Common.{take}
use Rattle.grd_base.specs.Bits.{members}
use Rattle.level_bounds.specs.Waves.{IsGrowth}
use Rattle.level_bounds.proofs.wave.grow.Given as goal

abbrev pub invariant-loop-a : goal.invariant-loop-a
invariant-loop-a g l = IsGrowth l.task (members l.wave.reached) (take l.a-index l.a-items) (members l.growth.reached) l.growth.fresh.items
