use Rattle.design_certificate.proofs.CostLemmas.{plans_keep}
use Rattle.design_certificate.proofs.laws.costs_are_kept.Goals as goal

pub returns : goal.returns
returns c = λ t costs removed are plans. plans_keep t removed costs are plans
