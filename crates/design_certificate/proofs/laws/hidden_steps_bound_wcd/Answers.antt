use Rattle.design_certificate.proofs.CostLemmas.{hides_long, hides_some}
use Rattle.design_certificate.proofs.laws.hidden_steps_bound_wcd.Goals as goal

pub returns : goal.returns
returns c = record { number = hides_long; some = hides_some }
