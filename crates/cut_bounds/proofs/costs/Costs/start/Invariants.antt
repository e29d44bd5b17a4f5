use Rattle.cut_bounds.specs.Costs.{AreCosts}
use Rattle.cut_bounds.proofs.costs.Costs.start.Given as goal

abbrev pub invariant-loop-n : goal.invariant-loop-n
invariant-loop-n g l = AreCosts l.fn.task l.self.atoms.items l.self.actions.items l.self.fallen.items
