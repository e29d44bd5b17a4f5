use Rattle.std.proofs.Common.{◌≡◌, map, take}
use Rattle.std.specs.Option.{option_and_then}
use Rattle.type_check.specs.Chains.{parent_at}
use Rattle.type_check.proofs.chains.twice.Given as goal

abbrev pub invariant-loop-step : goal.invariant-loop-step
invariant-loop-step l = l.twice.items ≡ map (option_and_then (parent_at l.steps)) (take l.step-index l.steps)
