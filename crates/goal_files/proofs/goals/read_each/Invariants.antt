use Rattle.std.proofs.Common.{take}
use Rattle.goal_files.specs.Goals.{SpellsGoal}
use Rattle.goal_files.specs.LineReading.{SpellEach}
use Rattle.goal_files.proofs.goals.read_each.Given as goal

abbrev pub invariant-loop-line : goal.invariant-loop-line
invariant-loop-line l = SpellEach (SpellsGoal l.index) (take l.line-index l.lines) l.goals.items
