use Rattle.std.proofs.Common.{◌≡◌, ◌++◌, map, take}
use Rattle.type_check.proofs.declared.add_references.Given as goal

abbrev pub invariant-loop-declared : goal.invariant-loop-declared
invariant-loop-declared l = map (λ n. n.now) l.references.items ≡ map (λ n. n.now) l.fn.references.items ++ take l.declared-index l.list
