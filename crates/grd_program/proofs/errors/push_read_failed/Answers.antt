use Rattle.grd_program.proofs.errors.push_read_failed.Goals as goal

pub returns : goal.returns
returns c = rw (← c.name_of-name.ensures) c.in_ok-write.ensures.bytes
