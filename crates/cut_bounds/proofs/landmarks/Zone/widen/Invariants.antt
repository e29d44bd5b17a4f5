use Rattle.grd_base.specs.Bits.{members}
use Rattle.grd_base.specs.Sets.{IsSubset}
use Rattle.strips_model.specs.Plans.{set_of}
use Rattle.cut_bounds.specs.Costs.{IsGrowing}
use Rattle.cut_bounds.proofs.landmarks.Zone.widen.Given as goal

abbrev pub invariant-loop-a : goal.invariant-loop-a
invariant-loop-a g l = IsGrowing l.fn.task (members l.fn.s) (members l.self.bits) l.self.atoms.items × IsSubset (set_of l.initial.self.atoms.items) (set_of l.self.atoms.items)
