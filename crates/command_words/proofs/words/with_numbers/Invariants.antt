use Rattle.std.proofs.Common.{take}
use Rattle.command_words.specs.Words.{items_of, ReadsLimits}
use Rattle.command_words.proofs.words.with_numbers.Given as goal

abbrev pub invariant-loop-name : goal.invariant-loop-name
invariant-loop-name l = ReadsLimits (take l.name-index l.names) (items_of l.items) l.fn.limits l.limits
