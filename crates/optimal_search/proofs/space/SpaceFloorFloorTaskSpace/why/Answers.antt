use Rattle.std.proofs.Common.{subst}
use Rattle.std.specs.Prelude.{IfOk}
use Rattle.grd_base.specs.declared.limits.Bound.{Bound}
use Rattle.optimal_search.specs.Space.{PlainSpace}
use Rattle.optimal_search.specs.Floors.{ShowsBound, ProvesBound}
use Rattle.optimal_search.proofs.SpaceLaws.{floor_proves}
use Rattle.optimal_search.proofs.space.SpaceFloorFloorTaskSpace.why.Goals as goal

pub returns : goal.returns
returns g c =
    let space = c.space.inside in
    let made = c.space.invariant in
    let s = c.args.s.now in
    let lists = c.args.mark.now in
    subst (λ (x : PlainSpace). IfOk c.family_at.result (λ sets. (bound : Bound) → ShowsBound x.task x.goal x.removed s lists bound → ProvesBound x.task x.goal x.removed s sets bound)) c.space.view_is
    (floor_proves space.task.now space.goal space.removed.now s lists space.floor made.floor_goal made.floor_removed c.family_at.result c.family_at.ensures.family c.family_at.ensures.enough)
