use Rattle.std.proofs.Common.{◌<◌, length, List, All, sym, subst, rules}
use Rattle.grd_base.specs.declared.ids.ActionId.{ActionId}
use Rattle.cut_bounds.proofs.ZoneCuts.{listed_below}
use Rattle.cut_bounds.proofs.landmarks.zone_before.Goals as goal

pub widen-requires : goal.widen-requires
widen-requires g c =
    let t = c.args.task.now in
    let below = listed_below t c.args.level.now.removed c.args.adders.now c.requires.adders _ in (
      search rules,
      (
        search rules,
        (
          c.requires.width,
          (
            c.requires.wide,
            (
              subst (λ (l : List ActionId). All (λ a. a.0 < length t.actions) l) (sym c.at.ensures) below,
              (c.requires.costs, (c.requires.used, c.loop-i.invariant.0)),
            ),
          ),
        ),
      ),
    )
