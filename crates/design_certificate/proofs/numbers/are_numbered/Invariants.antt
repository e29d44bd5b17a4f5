use Rattle.std.proofs.Common.{take}
use Rattle.std.specs.Prelude.{All}
use Rattle.design_certificate.specs.Live.{HasNumber}
use Rattle.design_certificate.proofs.numbers.are_numbered.Given as goal

abbrev pub invariant-loop-goal : goal.invariant-loop-goal
invariant-loop-goal l = All (HasNumber l.fn.costs) (take l.goal-index l.fn.goals)
