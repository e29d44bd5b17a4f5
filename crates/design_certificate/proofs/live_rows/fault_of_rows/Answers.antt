use Rattle.std.specs.Prelude.{All}
use Rattle.design_certificate.specs.Live.{PlainLiveRows}
use Rattle.design_certificate.specs.LiveFaults.{IsGoalTable, IsFollowedOn}
use Rattle.design_certificate.proofs.ChildLemmas.{none_told}
use Rattle.design_certificate.proofs.FollowLemmas.{live_valid}
use Rattle.design_certificate.proofs.live_rows.fault_of_rows.Goals as goal

pub returns-then-has_begin-clause-valid : goal.returns-then-has_begin-clause-valid
returns-then-has_begin-clause-valid c =
    let live : PlainLiveRows = record { tables = c.args.tables.now; rows = c.args.rows.now } in
    let t = c.args.task.now in
    live_valid t c.args.costs.now c.args.removed.now c.args.most live (c.have_goals.ensures.0 c.if-not-have_goals.false)
    (none_told (All (IsGoalTable t c.args.costs.now c.args.removed.now c.args.most live) c.args.tables.now) c.in_ok-fault.field-0 c.in_default.is c.in_ok-fault.ensures.valid)
    c.in_default-misnumbered_row.ensures.has
    (none_told (All (IsFollowedOn t c.args.costs.now c.args.removed.now c.args.most live) c.args.rows.now) c.in_ok-fault-2.field-0 c.in_default-2.is c.in_ok-fault-2.ensures.has)
    (c.has_begin.ensures.0 c.if-has_begin.true)
