use Rattle.std.proofs.Common.{All}
use Rattle.strips_model.specs.Values.{AreAtoms}
use Rattle.planning_tests.proofs.tables.family.Given as goal

abbrev pub invariant-loop-set : goal.invariant-loop-set
invariant-loop-set l = All (λ s. AreAtoms l.below s.items) l.family.items
