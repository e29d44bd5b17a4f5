use Rattle.std.proofs.Common.{◌≡◌, ℕ, ◌++◌}
use Rattle.grd_base.specs.Bits.{members}
use Rattle.strips_model.specs.Levels.{after_rounds, missing}
use Rattle.level_bounds.specs.Waves.{AreReady}
use Rattle.level_bounds.proofs.floor.LevelFloor.reached_around.Given as goal

-- what is reached is the set after some rounds
abbrev pub invariant-loop-wave : goal.invariant-loop-wave
invariant-loop-wave g l =
    ((k : ℕ) × (members l.wave.reached ≡ after_rounds l.task (l.list ++ l.self.removed) (members l.s) k))
    × AreReady l.task (l.list ++ l.self.removed) (members l.wave.reached) l.wave.candidates.items

abbrev pub decreases-loop-wave : goal.decreases-loop-wave
decreases-loop-wave g l = missing (members l.wave.reached) l.task.atoms
