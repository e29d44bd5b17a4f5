use Rattle.std.proofs.Common.{arith}
use Rattle.grd_base.proofs.bits.whole.Goals as goal

pub returns : goal.returns
returns g c = record { wide = omega arith; fits = c.known_words.ensures }
