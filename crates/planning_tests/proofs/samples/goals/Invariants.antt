use Rattle.std.proofs.Common.{◌≡◌, All, length}
use Rattle.strips_model.specs.Values.{AreAtoms}
use Rattle.planning_tests.proofs.samples.goals.Given as goal

abbrev pub invariant-loop-target : goal.invariant-loop-target
invariant-loop-target l = record {
  below : All (λ g. AreAtoms l.below g.atoms) l.goals.items;
  each : length l.goals.items ≡ l.target-index;
}
