use Rattle.std.proofs.Common.{◌≡◌, length, map, take}
use Rattle.ground_all.specs.Found.{watched_blocks}
use Rattle.ground_all.proofs.counts.complement_counts.Given as goal

abbrev pub invariant-loop-count : goal.invariant-loop-count
invariant-loop-count l = l.counts.items ≡ take (length l.yielded) (map length (watched_blocks l.typed))
