use Rattle.std.proofs.Common.{◌*◌, ◌∙◌}
use Rattle.grd_base.specs.Bits.{members}
use Rattle.cut_bounds.proofs.FamilyCuts.{around_set}
use Rattle.cut_bounds.proofs.around.around.Goals as goal

pub returns : goal.returns
returns g c =
    let f = c.args.level.now in
    around_set c.args.task.now f.goal c.known_task.ensures f.removed (members c.args.s.now) c.args.list.now (64 * g.row.W) c.in_ok-set.set.items (c.in_ok-set.ensures.same ∙ c.in_ok-reached.ensures) c.in_ok-set.ensures.atoms c.requires.needed
