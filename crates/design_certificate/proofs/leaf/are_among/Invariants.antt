use Rattle.std.proofs.Common.{take}
use Rattle.design_certificate.specs.Designs.{AreAmong}
use Rattle.design_certificate.proofs.leaf.are_among.Given as goal

abbrev pub invariant-loop-a : goal.invariant-loop-a
invariant-loop-a l = AreAmong (take l.a-index l.fn.fewer) l.fn.more
