use Rattle.std.proofs.Common.{◌≡◌, length}
use Rattle.cut_bounds.proofs.floor.needs_of.Given as goal

abbrev pub invariant-loop-action : goal.invariant-loop-action
invariant-loop-action l = length l.needs.items ≡ l.action-index
