use Rattle.std.proofs.Common.{◌↔◌, List, Contains, ◌∙◌, ap, subst}
use Rattle.std.specs.Prelude.{filter}
use Rattle.grd_base.specs.declared.ids.ActionId.{ActionId}
use Rattle.grd_base.specs.Bits.{members}
use Rattle.cut_bounds.specs.CutMarks.{leads}
use Rattle.cut_bounds.proofs.RoundCuts.{cut_listed}
use Rattle.cut_bounds.proofs.rounds.cut_of.Goals as goal

pub returns : goal.returns
returns g c =
    let t = c.args.task.now in
    let u = members c.args.wave.now.reached in
    let same : (a : ActionId) → Contains c.in_ok-list.list a ↔ Contains c.in_ok-found.found.items a =
    subst (λ (l : List ActionId). (a : ActionId) → Contains c.in_ok-list.list a ↔ Contains l a) c.as_slice-2.ensures.value c.in_ok-list.ensures in
    cut_listed t c.args.level.now.removed u c.args.wave.now.candidates.items c.in_ok-found.found.items c.in_ok-list.list c.requires.ready
    (c.in_ok-found.ensures ∙ ap (filter (leads t u)) c.as_slice.ensures.value) same
