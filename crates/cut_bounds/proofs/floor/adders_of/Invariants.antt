use Rattle.cut_bounds.specs.CutFloors.{AreAdders}
use Rattle.cut_bounds.proofs.floor.adders_of.Given as goal

abbrev pub invariant-loop-i : goal.invariant-loop-i
invariant-loop-i l = AreAdders l.task l.removed l.i l.adders
