use Rattle.std.proofs.Common.{◌^◌}
use Rattle.type_check.specs.Chains.{AreSteps}
use Rattle.type_check.proofs.chains.far.Given as goal

abbrev pub invariant-loop : goal.invariant-loop
invariant-loop l = AreSteps l.parents (2 ^ l.counter) l.steps.items
