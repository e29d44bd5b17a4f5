use Rattle.std.proofs.Common.{◌≡◌, ◌++◌, map, take}
use Rattle.pddl_reader.specs.Terms.{plain_term}
use Rattle.pddl_print.specs.Canonical.{spaced, term_text}
use Rattle.pddl_print.proofs.literals.put_spaced_terms.Given as goal

abbrev pub invariant-loop-term : goal.invariant-loop-term
invariant-loop-term l = l.out.items ≡ l.fn.out.items ++ spaced (map term_text (map plain_term (take l.term-index l.terms)))
