use Rattle.std.proofs.Common.{◌≡◌, take}
use Rattle.std.specs.Prelude.{filter}
use Rattle.grd_base.specs.Bits.{members}
use Rattle.cut_bounds.specs.CutMarks.{leads}
use Rattle.cut_bounds.proofs.rounds.leading.Given as goal

abbrev pub invariant-loop-a : goal.invariant-loop-a
invariant-loop-a g l = l.found.items ≡ filter (leads l.task (members l.set)) (take l.a-index l.actions)
