use Rattle.grd_base.proofs.SameLemmas.{same_by_members}
use Rattle.grd_base.proofs.bits.same_whole.Goals as goal

pub returns : goal.returns
returns g c x y wx wy same = same_by_members x y wx wy same
