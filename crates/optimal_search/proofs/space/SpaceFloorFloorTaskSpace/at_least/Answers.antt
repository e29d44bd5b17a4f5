use Rattle.std.proofs.Common.{subst}
use Rattle.std.specs.Prelude.{IfOk}
use Rattle.optimal_search.specs.Space.{PlainSpace}
use Rattle.optimal_search.specs.Floors.{ShowsBound}
use Rattle.optimal_search.proofs.SpaceLaws.{floor_shows}
use Rattle.optimal_search.proofs.space.SpaceFloorFloorTaskSpace.at_least.Goals as goal

pub returns : goal.returns
returns g c =
    let space = c.space.inside in
    let made = c.space.invariant in
    let s = c.args.s.now in
    subst (λ (x : PlainSpace). IfOk c.cuts_at.result (λ p. ShowsBound x.task x.goal x.removed s p.1 p.0)) c.space.view_is
    (floor_shows space.task.now space.goal space.removed.now s c.known_task.ensures made.atoms c.whole.ensures space.floor made.floor_goal made.floor_removed c.cuts_at.result
    c.cuts_at.ensures.shows c.cuts_at.ensures.level c.cuts_at.ensures.steps)
