use Rattle.std.proofs.Common.{take}
use Rattle.optimal_search.specs.Kept.{rows_in}
use Rattle.optimal_search.proofs.KeptLemmas.{AreEntered}
use Rattle.optimal_search.proofs.kept.Kept.enter_all.Given as goal

abbrev pub invariant-loop-row : goal.invariant-loop-row
invariant-loop-row g l = AreEntered (rows_in l.fn.self.proved.entries) (rows_in l.self.proved.entries) l.rows (take l.row-index l.rows)
