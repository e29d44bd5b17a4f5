use Rattle.cut_bounds.specs.Costs.{AreCosts}
use Rattle.cut_bounds.proofs.costs.Costs.settle.Given as goal

abbrev pub invariant-loop-turn : goal.invariant-loop-turn
invariant-loop-turn l = AreCosts l.fn.task l.self.atoms.items l.self.actions.items l.self.fallen.items
