use Rattle.std.proofs.Common.{◌≡◌, ◌∙◌, subst}
use Rattle.std.specs.Prelude.{IfOk, IfSome}
use Rattle.design_certificate.specs.Live.{PlainLiveRows}
use Rattle.design_certificate.specs.LiveFaults.{IsLiveFault}
use Rattle.design_certificate.proofs.live_rows.fault_of_live.Goals as goal

pub returns-clause-fault : goal.returns-clause-fault
returns-clause-fault c =
    let slices : PlainLiveRows = record { tables = c.as_slice-tables.result.now; rows = c.as_slice-rows.result.now } in
    let inside : PlainLiveRows = record { tables = c.live.inside.tables.items; rows = c.live.inside.rows.items } in
    let same : slices ≡ inside = λ i. record { tables = c.as_slice-tables.ensures.value i; rows = c.as_slice-rows.ensures.value i } in
    subst (λ (live : PlainLiveRows). IfOk c.fault_of_rows.result (λ found. IfSome found (IsLiveFault c.args.task.now c.args.costs.now c.args.removed.now c.args.most live)))
    (same ∙ c.live.view_is) c.fault_of_rows.ensures.fault
