-- What the rows of `least` are made of. Only private contracts speak of it.
use Rattle.std.specs.Prelude.{ℕ, ◌-◌, Option, Some, None, Bool, true, false, nat_lt, if◌then◌else◌}
use Rattle.std.specs.Option.{option_map}
use Rattle.grd_base.specs.declared.limits.Bound.{Bound}
use Rattle.grd_base.specs.declared.limits.Bound.TheVariants.{Steps, Never}
use Rattle.search_core.specs.declared.rows.KeptRow.{KeptRow}
use Rattle.search_core.specs.Nodes.{Entry}

-- the bound of the row of a state at this depth, where no done state lies nearer to the start than
-- `length`, or none is reached: the steps that are left of one less; a state that the floor shows
-- `Never` for keeps that bound, and a state too deep has no row
abbrev pub bound_below : Option ℕ → Bound → ℕ → Option Bound
bound_below None bound depth = Some Never
bound_below (Some length) Never depth = Some Never
bound_below (Some length) (Steps number) depth = if nat_lt depth length then Some (Steps (length - 1 - depth)) else None

-- the mark of a state's row: a state that was expanded and does not wait has none
abbrev pub mark_kept : {M : Type 0} → Bool → Bool → M → Option M
mark_kept false true mark = None
mark_kept true expanded mark = Some mark
mark_kept false false mark = Some mark

-- the row of an entry
abbrev pub row_of : {S M : Type 0} → Option ℕ → Entry S M → Option (KeptRow S M)
row_of length entry = option_map (λ bound. record { state = entry.0; bound = bound; mark = mark_kept entry.1.waits entry.1.expanded entry.1.mark }) (bound_below length entry.1.bound entry.1.way.depth)
