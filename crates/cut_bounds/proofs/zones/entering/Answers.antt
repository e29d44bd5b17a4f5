use Rattle.std.proofs.Common.{◌<◌, length, List, All, sym, subst, arith, rules}
use Rattle.grd_base.specs.declared.ids.ActionId.{ActionId}
use Rattle.grd_base.specs.Bits.{members}
use Rattle.cut_bounds.proofs.ZoneCuts.{listed_below, entering_more, entering_all}
use Rattle.cut_bounds.proofs.zones.entering.Goals as goal

pub add_entering-requires : goal.add_entering-requires
add_entering-requires g c =
    let t = c.args.task.now in
    (search rules, (c.requires.width, (c.requires.wide, subst (λ (l : List ActionId). All (λ a. a.0 < length t.actions) l) (sym c.at.ensures) (listed_below t c.args.level.now.removed c.args.adders.now c.requires.adders _))))

pub loop-n-preserved : goal.loop-n-preserved
loop-n-preserved g c =
    entering_more c.args.task.now c.args.adders.now (members c.args.zone.now) c.args.atoms.now c.loop-n.n-index (record { 0 = 0 }) c.loop-n-test.true c.loop-n.found.items c.at.result.now c.add_entering.new.found.items
    c.at.ensures c.in_ok-add_entering.ensures c.loop-n.invariant

pub returns : goal.returns
returns g c = entering_all c.args.task.now c.args.adders.now (members c.args.zone.now) c.args.atoms.now c.loop-n.n-index (omega (arith, c.loop-n-test.false)) c.loop-n.found.items c.loop-n.invariant
