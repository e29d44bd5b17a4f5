-- An oracle that keeps no rows knows nothing.
use Rattle.std.proofs.Common.{◌≡◌, ℕ, List, [], ap}
use Rattle.grd_base.specs.declared.bits.Bits.{Bits}
use Rattle.search_core.specs.declared.rows.KeptRow.{KeptRow}
use Rattle.optimal_search.specs.Kept.{rows_in}
use Rattle.optimal_search.specs.Oracles.{KnownBound, PlainOracle, known_by}
use Rattle.optimal_search.specs.Space.{PlainSpace}
use Rattle.optimal_search.proofs.oracle.Oracle.over.Goals as goal

nothing_known : {W : ℕ} {M : Type 0} (x : PlainSpace) (limit : ℕ) (rows : List (KeptRow (Bits W) M)) → rows ≡ []
    → ◌≡◌ {A = PlainOracle} (record { task = x.task; goal = x.goal; removed = x.removed; limit = limit; known = known_by x.task rows })
    (record { task = x.task; goal = x.goal; removed = x.removed; limit = limit; known = [] })
nothing_known x limit rows none =
    ap (λ (known : List KnownBound). record { task = x.task; goal = x.goal; removed = x.removed; limit = limit; known = known }) (ap (known_by x.task) none)

pub returns : goal.returns
returns g c = nothing_known c.args.space c.args.limit (rows_in c.new.result.proved.entries) c.new.ensures
