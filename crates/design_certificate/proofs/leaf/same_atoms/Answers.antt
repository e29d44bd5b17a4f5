use Rattle.design_certificate.proofs.SameLemmas.{atoms_tell}
use Rattle.design_certificate.proofs.leaf.same_atoms.Goals as goal

pub returns : goal.returns
returns c = atoms_tell c.args.xs.now c.args.ys.now c.eq.result c.requires.first c.requires.second c.eq.ensures
