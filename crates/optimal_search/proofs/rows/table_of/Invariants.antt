use Rattle.std.proofs.Common.{◌≡◌, map, take}
use Rattle.optimal_search.specs.Rows.{row_of}
use Rattle.optimal_search.proofs.rows.table_of.Given as goal

abbrev pub invariant-loop-row : goal.invariant-loop-row
invariant-loop-row g l = l.table.items ≡ map (row_of l.space.task l.space.removed) (take l.row-index l.rows)
