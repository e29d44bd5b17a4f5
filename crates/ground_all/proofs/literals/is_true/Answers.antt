use Rattle.std.proofs.Common.{sym}
use Rattle.ground_all.proofs.AtomLaws.{not_true_is}
use Rattle.ground_all.proofs.literals.is_true.Goals as goal

pub returns-in_default : goal.returns-in_default
returns-in_default c = sym (not_true_is c.args.atoms.now c.args.atom.now c.find.result c.find.ensures.standing c.in_default.not-True)
