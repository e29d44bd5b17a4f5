-- States with bounds as rows. Only private contracts speak of it.
use Rattle.std.specs.Prelude.{◌≡◌, ◌⊎◌, List, None, map, Any, Contains}
use Rattle.grd_base.specs.declared.limits.Bound.{Bound}
use Rattle.grd_base.specs.declared.limits.Bound.TheVariants.{Steps}
use Rattle.search_core.specs.declared.rows.KeptRow.{KeptRow}
use Rattle.cost_certificate.specs.Tables.{IsAtMost}
use Rattle.optimal_search.specs.declared.kept.Proved.{Proved}

-- a state with its bound as a row of a search
abbrev pub row_in : {S M : Type 0} → (S × Proved M) → KeptRow S M
row_in entry = record { state = entry.0; bound = entry.1.bound; mark = entry.1.mark }

-- the rows of all of them
abbrev pub rows_in : {S M : Type 0} → List (S × Proved M) → List (KeptRow S M)
rows_in entries = map row_in entries

-- the row of a state of which no more is known than that it is not done
abbrev pub bare_row : {S M : Type 0} → S → KeptRow S M
bare_row s = record { state = s; bound = Steps 0; mark = None }

-- some row has this state, with a bound that is at least so high
abbrev pub HasBound : {S M : Type 0} → List (KeptRow S M) → S → Bound → Type 0
HasBound rows s bound = Any (λ row. (row.state ≡ s) × IsAtMost bound row.bound) rows

-- each bound that the first rows have the others have too
abbrev pub HasAll : {S M : Type 0} → List (KeptRow S M) → List (KeptRow S M) → Type 0
HasAll {S} {M} rows others = (s : S) (bound : Bound) → HasBound rows s bound → HasBound others s bound

-- each new row is an old one, or says no more of the state of one of these than that it is not done, or
-- is one of these, whose bounds are then all had
abbrev pub AreFrom : {S M : Type 0} → List (KeptRow S M) → List (KeptRow S M) → List (KeptRow S M) → Type 0
AreFrom {S} {M} old rows new = (row : KeptRow S M) → Contains new row
    → Contains old row ⊎ (Any (λ kept. bare_row kept.state ≡ row) rows ⊎ (Contains rows row × HasAll rows new))
