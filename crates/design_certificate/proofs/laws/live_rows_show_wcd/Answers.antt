use Rattle.std.proofs.Common.{refl}
use Rattle.design_certificate.proofs.CostLemmas.{costs_kept, shown_witness, witness_common}
use Rattle.design_certificate.proofs.LiveLemmas.{common_short}
use Rattle.design_certificate.proofs.laws.live_rows_show_wcd.Goals as goal

pub returns : goal.returns
returns c = λ t costs removed w live are keeps shown valid.
    let kept = costs_kept t removed costs are keeps in
    let is = shown_witness t removed costs kept w shown in
    (is, ((w.goals.0, w.goals.1, w.prefix, refl, witness_common t removed w is), common_short c.rows_refute.ensures t costs removed _ live valid kept))
