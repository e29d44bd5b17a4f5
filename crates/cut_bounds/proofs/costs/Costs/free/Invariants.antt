use Rattle.cut_bounds.specs.Costs.{AreCosts}
use Rattle.cut_bounds.proofs.costs.Costs.free.Given as goal

abbrev pub invariant-loop-a : goal.invariant-loop-a
invariant-loop-a l = AreCosts l.fn.task l.self.atoms.items l.self.actions.items l.self.fallen.items
