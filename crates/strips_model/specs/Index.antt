-- Lists of actions, one for each atom.
use Rattle.std.specs.Prelude.{ℕ, List, [], slice_get}
use Rattle.std.specs.Option.{unwrap_or}
use Rattle.grd_base.specs.declared.ids.ActionId.{ActionId}

-- the list of the atom with this number; past the last atom it is empty
abbrev pub listed : List (List ActionId) → ℕ → List ActionId
listed lists n = unwrap_or (slice_get lists n) []
