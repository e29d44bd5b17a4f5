use Rattle.std.proofs.Common.{◌≡◌, ◌++◌, map, take}
use Rattle.pddl_print.specs.Canonical.{spaced, typed_text}
use Rattle.pddl_print.proofs.typed.put_spaced_typed.Given as goal

abbrev pub invariant-loop-name : goal.invariant-loop-name
invariant-loop-name l = l.out.items ≡ l.fn.out.items ++ spaced (map typed_text (take l.name-index l.names))
