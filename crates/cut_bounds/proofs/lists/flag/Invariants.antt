use Rattle.std.proofs.Common.{take}
use Rattle.cut_bounds.specs.Zones.{AreFlags}
use Rattle.cut_bounds.proofs.lists.flag.Given as goal

abbrev pub invariant-loop-a : goal.invariant-loop-a
invariant-loop-a l = AreFlags l.fn.used (take l.a-index l.list) l.used
