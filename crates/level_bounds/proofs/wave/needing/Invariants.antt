use Rattle.std.proofs.Common.{◌↔◌, take, Contains}
use Rattle.grd_base.specs.declared.ids.ActionId.{ActionId}
use Rattle.strips_model.specs.Plans.{set_of}
use Rattle.level_bounds.proofs.FilingLemmas.{IsNeeding}
use Rattle.level_bounds.proofs.wave.needing.Given as goal

abbrev pub invariant-loop-p : goal.invariant-loop-p
invariant-loop-p l = (a : ActionId) → Contains l.found.items a ↔ IsNeeding l.needed_by (set_of (take l.p-index l.atoms)) a
