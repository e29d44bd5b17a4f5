use Rattle.std.proofs.Common.{◌≡◌, map, take}
use Rattle.strips_model.specs.Observed.{goal_with}
use Rattle.observation_compile.proofs.compile.goals.Given as goal

abbrev pub invariant-loop-goal : goal.invariant-loop-goal
invariant-loop-goal l = l.goals.items ≡ map (goal_with l.task l.count) (take l.goal-index l.task.goals)
