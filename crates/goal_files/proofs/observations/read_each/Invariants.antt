use Rattle.std.proofs.Common.{take}
use Rattle.goal_files.specs.Observations.{SpellsAction}
use Rattle.goal_files.specs.LineReading.{SpellEach}
use Rattle.goal_files.proofs.observations.read_each.Given as goal

abbrev pub invariant-loop-line : goal.invariant-loop-line
invariant-loop-line l = SpellEach (SpellsAction l.index) (take l.line-index l.lines) l.observations.items
