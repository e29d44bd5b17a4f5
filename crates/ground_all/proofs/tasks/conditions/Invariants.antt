use Rattle.std.proofs.Common.{◌≡◌, map, take}
use Rattle.strips_model.specs.Worlds.{goal_of}
use Rattle.type_check.specs.Values.{is_same_atom}
use Rattle.ground_all.specs.Found.{start_world}
use Rattle.ground_all.proofs.tasks.conditions.Given as goal

abbrev pub invariant-loop-goal : goal.invariant-loop-goal
invariant-loop-goal l = l.conditions.items ≡ map (goal_of is_same_atom (start_world l.atoms)) (take l.goal-index l.goals)
