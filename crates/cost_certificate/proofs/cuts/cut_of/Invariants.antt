use Rattle.std.proofs.Common.{◌≡◌, take}
use Rattle.std.specs.Prelude.{filter}
use Rattle.grd_base.specs.Bits.{members}
use Rattle.cost_certificate.proofs.CutLemmas.{leads}
use Rattle.cost_certificate.proofs.cuts.cut_of.Given as goal

abbrev pub invariant-loop-a : goal.invariant-loop-a
invariant-loop-a g l = l.actions.items ≡ filter (leads l.moves.task (members l.set)) (take l.a-index l.allowed)
