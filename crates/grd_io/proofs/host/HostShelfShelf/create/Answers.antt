use Rattle.grd_io.proofs.Counting.{noted_cause}
use Rattle.grd_io.proofs.host.HostShelfShelf.create.Goals as goal

pub returns-in-Err-clause-cause : goal.returns-in-Err-clause-cause
returns-in-Err-clause-cause g c = rw (← c.self.view_is) (noted_cause _ _ _ _ _ c.fail.ensures.noted c.fail.ensures.unnoted)
