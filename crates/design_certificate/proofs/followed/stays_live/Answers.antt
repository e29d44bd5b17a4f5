use Rattle.std.proofs.Common.{◌≡◌, ◌+◌, ◌-◌, ap, arith}
use Rattle.grd_base.specs.Bits.{members}
use Rattle.design_certificate.specs.Live.{PlainLiveRow}
use Rattle.design_certificate.proofs.FollowLemmas.{stays_tells}
use Rattle.design_certificate.proofs.followed.stays_live.Goals as goal

pub returns : goal.returns
returns g c =
    let deep = ap (λ (r : PlainLiveRow). r.depth) c.row.view_is in
    let left = c.in-Some.cost - c.row.inside.depth - 1 in
    let adds : c.args.row.now.depth + 1 + left ≡ c.in-Some.cost = omega (arith, deep, c.if-cost-row.false) in
    stays_tells c.args.costs.now c.args.tables.now c.args.row.now (members c.args.s.now) c.args.goal c.in-Some.cost left c.is_open.result c.requires.there c.in-Some.ensures.some adds c.is_open.ensures
