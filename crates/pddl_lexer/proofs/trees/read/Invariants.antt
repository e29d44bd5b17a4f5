use Rattle.std.proofs.Common.{take}
use Rattle.pddl_lexer.specs.Reading.{IsRead}
use Rattle.pddl_lexer.proofs.trees.read.Given as goal

abbrev pub invariant-loop-token : goal.invariant-loop-token
invariant-loop-token l = IsRead (take l.token-index l.tokens) l.reading
