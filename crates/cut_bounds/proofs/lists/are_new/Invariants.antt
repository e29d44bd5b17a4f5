use Rattle.std.proofs.Common.{◌≡◌, true, take}
use Rattle.cut_bounds.specs.Zones.{are_fresh}
use Rattle.cut_bounds.proofs.lists.are_new.Given as goal

abbrev pub invariant-loop-a : goal.invariant-loop-a
invariant-loop-a l = are_fresh l.used (take l.a-index l.list) ≡ true
