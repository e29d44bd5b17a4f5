use Rattle.grd_base.specs.Bits.{members}
use Rattle.strips_model.specs.Plans.{set_of}
use Rattle.cut_bounds.proofs.ZoneCuts.{lists_tried}
use Rattle.cut_bounds.proofs.zones.try_zone.Goals as goal

pub returns-clause-lists : goal.returns-clause-lists
returns-clause-lists g c =
    lists_tried c.args.task.now c.args.level.now.goal c.args.level.now.removed (members c.args.s.now) (set_of c.args.atoms.now) c.requires.zone
    c.args.lists.now.lists.items c.args.lists.now.used.items c.in_ok-list.list _ _ c.in_ok-put.put c.requires.lists c.in_ok-list.ensures.cut c.in_ok-put.ensures
