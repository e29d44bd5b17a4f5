use Rattle.std.proofs.Common.{◌≡◌, ◌++◌, take, filter}
use Rattle.grd_base.specs.Bits.{members}
use Rattle.succ_table.specs.Applicable.{is_open}
use Rattle.succ_table.proofs.table.add_open.Given as goal

abbrev pub invariant-loop-a : goal.invariant-loop-a
invariant-loop-a g l = l.found.items ≡ l.initial.found.items ++ filter (is_open l.task l.removed (members l.s)) (take l.a-index l.actions)
