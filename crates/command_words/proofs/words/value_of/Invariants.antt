use Rattle.std.proofs.Common.{take}
use Rattle.command_words.specs.Commands.{NotGiven}
use Rattle.command_words.specs.Words.{items_of}
use Rattle.command_words.proofs.words.value_of.Given as goal

abbrev pub invariant-loop-item : goal.invariant-loop-item
invariant-loop-item l = NotGiven (items_of (take l.item-index l.items)) l.name
