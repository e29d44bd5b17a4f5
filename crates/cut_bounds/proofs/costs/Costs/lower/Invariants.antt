use Rattle.cut_bounds.specs.Costs.{AreCosts}
use Rattle.cut_bounds.proofs.costs.Costs.lower.Given as goal

abbrev pub invariant-loop-atom : goal.invariant-loop-atom
invariant-loop-atom l = AreCosts l.fn.task l.self.atoms.items l.self.actions.items l.self.fallen.items
