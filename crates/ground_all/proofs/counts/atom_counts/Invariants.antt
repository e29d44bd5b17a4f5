use Rattle.std.proofs.Common.{◌≡◌, length, map, take}
use Rattle.ground_all.specs.Found.{atom_blocks}
use Rattle.ground_all.proofs.counts.atom_counts.Given as goal

abbrev pub invariant-loop-predicate : goal.invariant-loop-predicate
invariant-loop-predicate l = l.counts.items ≡ take (length l.yielded) (map length (atom_blocks l.typed))
