use Rattle.level_bounds.specs.Waves.{AreFiled}
use Rattle.level_bounds.proofs.floor.LevelFloor.new.Given as goal

abbrev pub invariant-loop-i : goal.invariant-loop-i
invariant-loop-i l = AreFiled l.task l.removed l.i l.free.items l.needed_by
