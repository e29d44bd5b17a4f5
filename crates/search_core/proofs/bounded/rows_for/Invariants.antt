use Rattle.std.proofs.Common.{◌≡◌, ◌++◌}
use Rattle.std.specs.List.{filter_map}
use Rattle.search_core.specs.Visits.{row_for}
use Rattle.search_core.proofs.bounded.rows_for.Given as goal

abbrev pub invariant-loop-entry : goal.invariant-loop-entry
invariant-loop-entry g l = l.rows.items ++ filter_map (row_for l.fn.most) l.entry-iterator ≡ filter_map (row_for l.fn.most) l.fn.found.entries
