use Rattle.std.proofs.Common.{◌≡◌, drop, filter}
use Rattle.type_check.specs.Types.{is_entry}
use Rattle.type_check.specs.Chains.{parents_in}
use Rattle.type_check.proofs.entries.parents_of.Given as goal

abbrev pub invariant-loop-at : goal.invariant-loop-at
invariant-loop-at l = l.parents.items ≡ parents_in l.names (filter is_entry (drop l.at l.types))
