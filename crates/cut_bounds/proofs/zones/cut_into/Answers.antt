use Rattle.std.proofs.Common.{◌↔◌, List, Contains, subst}
use Rattle.grd_base.specs.declared.ids.ActionId.{ActionId}
use Rattle.strips_model.specs.Plans.{State, set_of}
use Rattle.cut_bounds.specs.Zones.{IsEnteringBy}
use Rattle.cut_bounds.proofs.ZoneCuts.{cut_entering, entering_below}
use Rattle.cut_bounds.proofs.zones.cut_into.Goals as goal

pub returns-clause-cut : goal.returns-clause-cut
returns-clause-cut g c =
    let t = c.args.task.now in
    let zone = set_of c.args.atoms.now in
    let list : List ActionId = c.in_ok-list.list in
    let found : (a : ActionId) → Contains c.in_ok-found.found.items a ↔ IsEnteringBy t c.args.adders.now zone zone a =
    subst (λ (z : State). (a : ActionId) → Contains c.in_ok-found.found.items a ↔ IsEnteringBy t c.args.adders.now z zone a) c.requires.same c.in_ok-found.ensures in
    let listed : (a : ActionId) → Contains list a ↔ Contains c.in_ok-found.found.items a =
    subst (λ (l : List ActionId). (a : ActionId) → Contains list a ↔ Contains l a) c.as_slice.ensures.value c.in_ok-list.ensures in
    cut_entering t c.args.level.now.removed c.args.adders.now c.requires.adders zone list (λ a. (λ has. (found a).0 ((listed a).0 has), λ h. (listed a).1 ((found a).1 h)))

pub returns-clause-below : goal.returns-clause-below
returns-clause-below g c =
    let t = c.args.task.now in
    let zone = set_of c.args.atoms.now in
    let list : List ActionId = c.in_ok-list.list in
    let found : (a : ActionId) → Contains c.in_ok-found.found.items a ↔ IsEnteringBy t c.args.adders.now zone zone a =
    subst (λ (z : State). (a : ActionId) → Contains c.in_ok-found.found.items a ↔ IsEnteringBy t c.args.adders.now z zone a) c.requires.same c.in_ok-found.ensures in
    let listed : (a : ActionId) → Contains list a ↔ Contains c.in_ok-found.found.items a =
    subst (λ (l : List ActionId). (a : ActionId) → Contains list a ↔ Contains l a) c.as_slice.ensures.value c.in_ok-list.ensures in
    entering_below t c.args.level.now.removed c.args.adders.now c.requires.adders zone list (λ a. (λ has. (found a).0 ((listed a).0 has), λ h. (listed a).1 ((found a).1 h)))
