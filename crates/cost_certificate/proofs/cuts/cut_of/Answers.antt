use Rattle.std.proofs.Common.{◌<◌, ◌≤◌, length, ap, arith, rules}
use Rattle.grd_base.specs.Bits.{members}
use Rattle.strips_model.specs.Moves.{allowed_of}
use Rattle.cost_certificate.proofs.CutLemmas.{allowed_within, cut_list}
use Rattle.cost_certificate.proofs.cuts.cut_of.Goals as goal

pub leads_out-requires : goal.leads_out-requires
leads_out-requires g c =
    let within : c.loop-a.a-index < length (allowed_of c.args.moves.now.task c.args.moves.now.removed) = omega (arith, ap length c.allowed-allowed.ensures) in
    rw (c.task-task.ensures, c.allowed-allowed.ensures)
    (search rules, (c.requires.width, (c.requires.atoms, allowed_within c.args.moves.now.task c.args.moves.now.removed c.loop-a.a-index (record { 0 = 0 }) within)))

pub returns : goal.returns
returns g c =
    let all : length (allowed_of c.args.moves.now.task c.args.moves.now.removed) ≤ c.loop-a.a-index = omega (arith, ap length c.allowed-allowed.ensures) in
    let front = rw c.allowed-allowed.ensures at c.loop-a.invariant in
    cut_list c.args.moves.now.task c.args.moves.now.removed (members c.args.set.now) c.loop-a.actions.items c.loop-a.a-index all front
