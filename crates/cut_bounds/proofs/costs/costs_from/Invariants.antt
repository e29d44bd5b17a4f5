use Rattle.std.proofs.Common.{◌≡◌, length}
use Rattle.cut_bounds.specs.Costs.{AreCosts}
use Rattle.cut_bounds.proofs.costs.costs_from.Given as goal

abbrev pub invariant-loop-i : goal.invariant-loop-i
invariant-loop-i g l = AreCosts l.fn.task l.costs.atoms.items l.costs.actions.items l.costs.fallen.items × (length l.unmet.items ≡ length l.fn.task.actions)
