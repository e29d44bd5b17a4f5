use Rattle.grd_base.specs.Bits.{members}
use Rattle.succ_table.specs.Applicable.{is_open}
use Rattle.succ_table.proofs.TableLemmas.{AreGathered}
use Rattle.succ_table.proofs.table.SuccTable.applicable.Given as goal

abbrev pub invariant-loop-n : goal.invariant-loop-n
invariant-loop-n g l = AreGathered (is_open l.task l.removed (members l.s)) (members l.s) l.self-inside.free.items l.self-inside.by_atom l.n l.found.items
