use Rattle.std.proofs.Common.{◌*◌, map}
use Rattle.grd_base.specs.Bits.{members}
use Rattle.strips_model.specs.Levels.{missing}
use Rattle.level_bounds.specs.Waves.{AreReady}
use Rattle.level_bounds.proofs.RoundLaws.{AreSets}
use Rattle.level_bounds.proofs.floor.LevelFloor.family_at.Given as goal

-- the sets are those that were reached in the rounds before
abbrev pub invariant-loop-self : goal.invariant-loop-self
invariant-loop-self g l =
    AreSets l.task l.self.goal l.self.removed (members l.s) (members l.wave.reached) (64 * g.row.W) (map (λ set. set.items) l.sets.items)
    × AreReady l.task l.self.removed (members l.wave.reached) l.wave.candidates.items

abbrev pub decreases-loop-self : goal.decreases-loop-self
decreases-loop-self g l = missing (members l.wave.reached) l.task.atoms
