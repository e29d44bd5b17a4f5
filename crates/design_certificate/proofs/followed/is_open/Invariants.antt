use Rattle.std.proofs.Common.{◌≡◌, take}
use Rattle.std.specs.Prelude.{All}
use Rattle.grd_base.specs.Bits.{members}
use Rattle.grd_base.specs.declared.limits.Bound.TheVariants.{Steps}
use Rattle.cost_certificate.specs.Tables.{HasRow}
use Rattle.design_certificate.proofs.followed.is_open.Given as goal

abbrev pub invariant-loop-table : goal.invariant-loop-table
invariant-loop-table g l = All (λ x. x.0 ≡ l.fn.goal → HasRow x.1 (members l.fn.s) (Steps l.fn.left) → ⊥) (take l.table-index l.fn.tables)
