use Rattle.std.proofs.Common.{IsTrue}
use Rattle.grd_base.specs.Bits.{members}
use Rattle.strips_model.specs.Plans.{set_of}
use Rattle.cut_bounds.specs.Costs.{IsGrowing}
use Rattle.cut_bounds.proofs.landmarks.zone_before.Given as goal

abbrev pub invariant-loop-i : goal.invariant-loop-i
invariant-loop-i g l = IsGrowing l.fn.task (members l.fn.s) (members l.zone.bits) l.zone.atoms.items × IsTrue (set_of l.zone.atoms.items l.fn.atom.0)
