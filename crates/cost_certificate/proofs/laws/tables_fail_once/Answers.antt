use Rattle.cost_certificate.proofs.OneFault.{no_fault, one_fault}
use Rattle.cost_certificate.proofs.laws.tables_fail_once.Goals as goal

pub returns : goal.returns
returns c = record { valid = no_fault; once = one_fault }
