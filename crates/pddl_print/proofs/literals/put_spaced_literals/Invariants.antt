use Rattle.std.proofs.Common.{◌≡◌, ◌++◌, map, take}
use Rattle.pddl_print.specs.Canonical.{spaced, literal_text}
use Rattle.pddl_print.proofs.literals.put_spaced_literals.Given as goal

abbrev pub invariant-loop-literal : goal.invariant-loop-literal
invariant-loop-literal l = l.out.items ≡ l.fn.out.items ++ spaced (map literal_text (take l.literal-index l.literals))
