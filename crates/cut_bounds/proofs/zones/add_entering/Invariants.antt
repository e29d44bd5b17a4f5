use Rattle.std.proofs.Common.{◌≡◌, ◌++◌, take}
use Rattle.std.specs.Prelude.{filter}
use Rattle.grd_base.specs.Bits.{members}
use Rattle.cut_bounds.specs.Zones.{comes_from_outside}
use Rattle.cut_bounds.proofs.zones.add_entering.Given as goal

abbrev pub invariant-loop-a : goal.invariant-loop-a
invariant-loop-a g l = l.found.items ≡ l.fn.found.items ++ filter (comes_from_outside l.task (members l.zone)) (take l.a-index l.actions)
