use Rattle.std.proofs.Common.{◌≡◌, All, length}
use Rattle.strips_model.specs.Values.{IsActionBelow}
use Rattle.planning_tests.proofs.samples.actions.Given as goal

abbrev pub invariant-loop-step : goal.invariant-loop-step
invariant-loop-step l = record {
  below : All (IsActionBelow l.below) l.actions.items;
  each : length l.actions.items ≡ l.step-index;
}
