use Rattle.std.proofs.Common.{take}
use Rattle.std.specs.List.{All}
use Rattle.command_words.specs.Commands.{IsGiven}
use Rattle.command_words.specs.Words.{items_of}
use Rattle.command_words.proofs.words.first_missing.Given as goal

abbrev pub invariant-loop-name : goal.invariant-loop-name
invariant-loop-name l = All (IsGiven (items_of l.items)) (take l.name-index l.names)
