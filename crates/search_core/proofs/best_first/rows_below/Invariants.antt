use Rattle.std.proofs.Common.{◌≡◌, ◌++◌}
use Rattle.std.specs.List.{filter_map}
use Rattle.search_core.specs.LeastRows.{row_of}
use Rattle.search_core.proofs.best_first.rows_below.Given as goal

abbrev pub invariant-loop-entry : goal.invariant-loop-entry
invariant-loop-entry g l = l.rows.items ++ filter_map (row_of l.fn.length) l.entry-iterator ≡ filter_map (row_of l.fn.length) l.fn.found.entries
