use Rattle.design_certificate.proofs.SameLemmas.{begins_tells}
use Rattle.design_certificate.proofs.branch.begins_with.Goals as goal

pub returns : goal.returns
returns c = begins_tells c.args.plan.now c.args.prefix.now c.starts_with.result c.starts_with.ensures.value
