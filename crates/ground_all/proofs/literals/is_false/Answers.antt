use Rattle.std.proofs.Common.{sym}
use Rattle.ground_all.proofs.AtomLaws.{other_is}
use Rattle.ground_all.proofs.literals.is_false.Goals as goal

pub returns-in_default : goal.returns-in_default
returns-in_default c = sym (other_is c.args.atoms.now c.args.atom.now c.find.result c.find.ensures.standing c.in_default.not-False)
