use Rattle.grd_io.proofs.Counting.{noted_cause}
use Rattle.grd_io.proofs.host.HostShelfShelf.read_at.Goals as goal

pub returns-in-None-clause-cause : goal.returns-in-None-clause-cause
returns-in-None-clause-cause g c = rw (← c.self.view_is) (noted_cause _ _ _ _ _ c.fail.ensures.noted c.fail.ensures.unnoted)
