use Rattle.std.proofs.Common.{refl}
use Rattle.cost_certificate.proofs.FamilyLemmas.{seen_none}
use Rattle.cost_certificate.proofs.cuts.Seen.new.Goals as goal

pub returns : goal.returns
returns c = λ t removed. seen_none t removed _ c.new.ensures.empty refl
