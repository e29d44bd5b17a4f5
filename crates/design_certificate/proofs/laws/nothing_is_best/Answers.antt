use Rattle.design_certificate.proofs.BestLemmas.{nothing_best}
use Rattle.design_certificate.proofs.laws.nothing_is_best.Goals as goal

pub returns : goal.returns
returns c = nothing_best
