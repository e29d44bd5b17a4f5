use Rattle.std.proofs.Common.{◌≡◌, true, take}
use Rattle.grd_base.specs.Bits.{members}
use Rattle.strips_model.specs.Plans.{has_all}
use Rattle.cut_bounds.specs.Zones.{outside}
use Rattle.cut_bounds.proofs.zones.is_outside.Given as goal

abbrev pub invariant-loop-a : goal.invariant-loop-a
invariant-loop-a g l = has_all (outside (members l.zone)) (take l.a-index l.atoms) ≡ true
