-- What contracts see of a row of a table.
use Rattle.std.specs.Prelude.{List}
use Rattle.grd_base.specs.declared.ids.AtomId.{AtomId}
use Rattle.grd_base.specs.declared.limits.Bound.{Bound}
use Rattle.cost_certificate.specs.declared.rows.Why.{Why}

-- a row: its state, its bound and why it holds
pub record PlainRow : Type 0 where
  pub state : List AtomId
  pub bound : Bound
  pub why : Why
