use Rattle.succ_table.specs.Filed.{AreFiled}
use Rattle.succ_table.proofs.table.SuccTable.build.Given as goal

abbrev pub invariant-loop-i : goal.invariant-loop-i
invariant-loop-i l = AreFiled l.task l.i l.free.items l.by_atom
