use Rattle.std.proofs.Common.{◌≡◌, ℕ, List, ◌++◌, map, take}
use Rattle.type_check.specs.Types.{firsts}
use Rattle.type_check.proofs.entries.add_names.Given as goal

abbrev pub invariant-loop-n : goal.invariant-loop-n
invariant-loop-n l =
    (front : List (List ℕ)) → l.initial.names ≡ firsts front → l.names ≡ firsts (front ++ map (λ n. n.name.text) (take l.n-index l.types))
