use Rattle.std.proofs.Common.{take}
use Rattle.grd_base.specs.Bits.{members}
use Rattle.strips_model.specs.Cuts.{IsFamily}
use Rattle.cost_certificate.specs.Seen.{IsSeen}
use Rattle.cost_certificate.proofs.soundness.fault_of_sets.Given as goal

abbrev pub invariant-loop-i : goal.invariant-loop-i
invariant-loop-i g l = record {
  family : IsFamily l.moves.task l.goal l.moves.removed (members l.s) (take l.i l.family);
  seen : IsSeen l.moves.task l.moves.removed (take l.i l.family) l.seen;
}
