use Rattle.std.proofs.Common.{◌≡◌, map, take}
use Rattle.optimal_search.specs.Rows.{row_of}
use Rattle.optimal_search.specs.Kept.{rows_in}
use Rattle.optimal_search.proofs.oracle.rows_of.Given as goal

abbrev pub invariant-loop-n : goal.invariant-loop-n
invariant-loop-n g l = l.rows.items ≡ map (row_of l.space.task l.space.removed) (rows_in (take l.n l.kept.proved.entries))
