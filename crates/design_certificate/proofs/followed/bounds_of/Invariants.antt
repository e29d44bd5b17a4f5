use Rattle.std.proofs.Common.{◌≡◌, take}
use Rattle.design_certificate.proofs.followed.bounds_of.Given as goal

abbrev pub invariant-loop-table : goal.invariant-loop-table
invariant-loop-table g l = l.bounds.items ≡ take l.table-index l.fn.tables
