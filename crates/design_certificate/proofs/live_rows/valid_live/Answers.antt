use Rattle.design_certificate.specs.Live.{IsValidLive}
use Rattle.design_certificate.specs.LiveFaults.{IsLiveFault}
use Rattle.design_certificate.proofs.ExactLemmas.{valid_told, fault_told}
use Rattle.design_certificate.proofs.LiveOnce.{live_once, live_passes}
use Rattle.design_certificate.proofs.live_rows.valid_live.Goals as goal

pub returns-clause-valid_exactly : goal.returns-clause-valid_exactly
returns-clause-valid_exactly c =
    let law = c.tables_fail_once.ensures in
    valid_told (IsValidLive c.args.task.now c.args.costs.now c.args.removed.now c.args.most c.args.live.now) (IsLiveFault c.args.task.now c.args.costs.now c.args.removed.now c.args.most c.args.live.now)
    (live_passes law.valid law.once c.args.task.now c.args.costs.now c.args.removed.now c.args.most c.args.live.now) c.fault_of_live.result c.fault_of_live.ensures.fault

pub returns-clause-fault_exactly : goal.returns-clause-fault_exactly
returns-clause-fault_exactly c =
    let law = c.tables_fail_once.ensures in
    fault_told (IsValidLive c.args.task.now c.args.costs.now c.args.removed.now c.args.most c.args.live.now) (IsLiveFault c.args.task.now c.args.costs.now c.args.removed.now c.args.most c.args.live.now)
    (live_passes law.valid law.once c.args.task.now c.args.costs.now c.args.removed.now c.args.most c.args.live.now)
    (live_once law.valid law.once c.args.task.now c.args.costs.now c.args.removed.now c.args.most c.args.live.now) c.fault_of_live.result c.fault_of_live.ensures.valid c.fault_of_live.ensures.fault
