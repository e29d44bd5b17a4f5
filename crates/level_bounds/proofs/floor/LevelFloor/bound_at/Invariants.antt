use Rattle.grd_base.specs.Bits.{members}
use Rattle.strips_model.specs.Levels.{missing}
use Rattle.level_bounds.specs.Waves.{AreReady}
use Rattle.level_bounds.proofs.RoundLaws.{AreRounds}
use Rattle.level_bounds.proofs.floor.LevelFloor.bound_at.Given as goal

-- what is reached is the set after so many rounds, and the goal did not hold before
abbrev pub invariant-loop-self : goal.invariant-loop-self
invariant-loop-self g l =
    AreRounds l.task l.self.goal l.self.removed (members l.s) (members l.wave.reached) l.rounds
    × AreReady l.task l.self.removed (members l.wave.reached) l.wave.candidates.items

abbrev pub decreases-loop-self : goal.decreases-loop-self
decreases-loop-self g l = missing (members l.wave.reached) l.task.atoms
