use Rattle.grd_base.specs.Bits.{members}
use Rattle.cut_bounds.specs.Zones.{AreLists}
use Rattle.cut_bounds.specs.Costs.{AreCosts}
use Rattle.cut_bounds.proofs.landmarks.landmark_lists.Given as goal

abbrev pub invariant-loop-i : goal.invariant-loop-i
invariant-loop-i g l = AreCosts l.fn.task l.costs.atoms.items l.costs.actions.items l.costs.fallen.items × AreLists l.fn.task l.fn.level.goal l.fn.level.removed (members l.fn.s) l.lists.lists.items l.lists.used.items
