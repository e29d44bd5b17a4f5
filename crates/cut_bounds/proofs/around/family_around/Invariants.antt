use Rattle.std.proofs.Common.{take, map}
use Rattle.grd_base.specs.Bits.{members}
use Rattle.cut_bounds.proofs.FamilyCuts.{AreAround}
use Rattle.cut_bounds.proofs.around.family_around.Given as goal

abbrev pub invariant-loop-list : goal.invariant-loop-list
invariant-loop-list g l = AreAround l.task l.level.goal l.level.removed (members l.s) (take l.list-index l.lists) (map (λ set. set.items) l.sets.items)
