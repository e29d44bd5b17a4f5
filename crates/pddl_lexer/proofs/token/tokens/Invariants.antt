use Rattle.std.proofs.Common.{length, ◌-◌}
use Rattle.pddl_lexer.proofs.Chains.{Reads}
use Rattle.pddl_lexer.proofs.token.tokens.Given as goal

abbrev pub invariant-loop-at : goal.invariant-loop-at
invariant-loop-at l = Reads l.text l.at l.found.items

abbrev pub decreases-loop-at : goal.decreases-loop-at
decreases-loop-at l = length l.text - l.at
