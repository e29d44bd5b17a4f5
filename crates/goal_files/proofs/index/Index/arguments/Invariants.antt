use Rattle.std.proofs.Common.{length, map, take, string_bytes}
use Rattle.goal_files.specs.Ground.{AreArguments}
use Rattle.goal_files.proofs.index.Index.arguments.Given as goal

abbrev pub invariant-loop-name : goal.invariant-loop-name
invariant-loop-name l = AreArguments l.self (take (length l.yielded) (map string_bytes l.names)) (take (length l.yielded) (map (λ place. place.items) l.places)) l.numbers.items
