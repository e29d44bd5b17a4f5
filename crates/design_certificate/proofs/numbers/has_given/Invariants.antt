use Rattle.std.proofs.Common.{◌<◌}
use Rattle.std.specs.Prelude.{Contains}
use Rattle.grd_base.specs.declared.ids.GoalId.{GoalId}
use Rattle.design_certificate.specs.Live.{HasNumber}
use Rattle.design_certificate.proofs.numbers.has_given.Given as goal

abbrev pub invariant-loop-k : goal.invariant-loop-k
invariant-loop-k l = (g : GoalId) → g.0 < l.k → HasNumber l.fn.costs g → Contains l.fn.goals g
