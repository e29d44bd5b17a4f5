use Rattle.std.proofs.Common.{◌≡◌, All, filter, take}
use Rattle.type_check.specs.Types.{names_of, is_entry}
use Rattle.type_check.specs.Checks.{Passes}
use Rattle.type_check.specs.Rules.{type_checks, checks_of_each}
use Rattle.type_check.proofs.types.Types.check_entries.Given as goal

abbrev pub invariant-loop-n : goal.invariant-loop-n
invariant-loop-n l =
    (l.seen ≡ names_of (filter is_entry (take l.n-index l.n-items)))
    × All (Passes l.self) (checks_of_each type_checks (filter is_entry (take l.n-index l.n-items)))
