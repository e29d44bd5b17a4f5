use Rattle.std.proofs.Common.{length}
use Rattle.grd_base.specs.Bits.{members}
use Rattle.strips_model.specs.Levels.{missing}
use Rattle.level_bounds.specs.Waves.{AreReady}
use Rattle.level_bounds.proofs.RoundLaws.{AreRounds}
use Rattle.cut_bounds.proofs.RoundCuts.{AreCuts}
use Rattle.cut_bounds.proofs.rounds.level_mark.Given as goal

-- what is reached is the set after as many rounds as there are lists, the goal did not hold before, and the
-- lists are the cuts before each round
abbrev pub invariant-loop-alloc : goal.invariant-loop-alloc
invariant-loop-alloc g l =
    AreRounds l.task l.level.goal l.level.removed (members l.s) (members l.wave.reached) (length l.lists.items)
    × AreReady l.task l.level.removed (members l.wave.reached) l.wave.candidates.items
    × AreCuts l.task l.level.goal l.level.removed (members l.s) (members l.wave.reached) l.lists.items

abbrev pub decreases-loop-alloc : goal.decreases-loop-alloc
decreases-loop-alloc g l = missing (members l.wave.reached) l.task.atoms
