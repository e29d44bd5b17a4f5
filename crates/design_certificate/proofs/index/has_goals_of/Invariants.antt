use Rattle.std.proofs.Common.{take}
use Rattle.std.specs.Prelude.{All, Contains}
use Rattle.design_certificate.proofs.index.has_goals_of.Given as goal

abbrev pub invariant-loop-goal : goal.invariant-loop-goal
invariant-loop-goal l = All (Contains l.fn.goals) (take l.goal-index l.fn.wanted)
