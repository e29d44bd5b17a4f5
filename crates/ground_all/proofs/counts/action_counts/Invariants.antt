use Rattle.std.proofs.Common.{◌≡◌, length, map, take}
use Rattle.ground_all.specs.Found.{name_blocks}
use Rattle.ground_all.proofs.counts.action_counts.Given as goal

abbrev pub invariant-loop-schema : goal.invariant-loop-schema
invariant-loop-schema l = l.counts.items ≡ take l.schema-index (map length (name_blocks l.typed))
