use Rattle.std.proofs.Common.{map, take, string_bytes}
use Rattle.goal_files.specs.LineReading.{IsGoalOf}
use Rattle.goal_files.proofs.goals.goal_of.Given as goal

abbrev pub invariant-loop-names : goal.invariant-loop-names
invariant-loop-names l = IsGoalOf l.index (take l.names-index (map (λ names. map string_bytes names.items) l.atoms)) l.goal
