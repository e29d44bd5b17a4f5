use Rattle.std.proofs.Common.{◌≡◌, ℕ, List, ◌++◌, map, take}
use Rattle.type_check.specs.Types.{firsts, type_of}
use Rattle.type_check.proofs.entries.add_parents.Given as goal

abbrev pub invariant-loop-n : goal.invariant-loop-n
invariant-loop-n l =
    (front : List (List ℕ)) → l.initial.names ≡ firsts front → l.names ≡ firsts (front ++ map type_of (take l.n-index l.types))
