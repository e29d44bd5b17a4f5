use Rattle.std.proofs.Common.{◌↔◌, take, Contains}
use Rattle.grd_base.specs.declared.ids.ActionId.{ActionId}
use Rattle.grd_base.specs.Bits.{members}
use Rattle.strips_model.specs.Plans.{set_of}
use Rattle.cut_bounds.specs.Zones.{IsEnteringBy}
use Rattle.cut_bounds.proofs.zones.entering.Given as goal

abbrev pub invariant-loop-n : goal.invariant-loop-n
invariant-loop-n g l = (a : ActionId) → Contains l.found.items a ↔ IsEnteringBy l.task l.adders (members l.zone) (set_of (take l.n-index l.atoms)) a
