use Rattle.std.proofs.Common.{sym}
use Rattle.grd_base.proofs.SameLemmas.{bits_eq, bits_eq-Decides}
use Rattle.optimal_search.proofs.KeptLemmas.{found_has}
use Rattle.optimal_search.proofs.kept.Kept.bound_of.Goals as goal

pub returns-in-Some : goal.returns-in-Some
returns-in-Some g c = found_has bits_eq bits_eq-Decides c.args.self.now.proved.entries c.args.s.now c.in-Some.known.now (sym c.in-Some.ensures.value)
