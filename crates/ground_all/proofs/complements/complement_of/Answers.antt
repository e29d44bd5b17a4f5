use Rattle.std.proofs.Common.{refl}
use Rattle.ground_all.proofs.ComplementLaws.{found_atom, no_atom}
use Rattle.ground_all.proofs.complements.complement_of.Goals as goal

pub returns-in-Ok : goal.returns-in-Ok
returns-in-Ok c = (c.in-Ok.place, found_atom c.args.watched.now c.args.atom c.in-Ok.place c.in-Ok.ensures.bound c.in-Ok.ensures.position, refl)

pub returns-in-Err : goal.returns-in-Err
returns-in-Err c = no_atom c.args.watched.now c.args.atom c.in-Err.field-0 c.requires.rise c.in-Err.ensures.position
