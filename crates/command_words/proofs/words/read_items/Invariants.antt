use Rattle.std.proofs.Common.{◌-◌, length, map, string_bytes}
use Rattle.command_words.specs.Words.{items_of}
use Rattle.command_words.proofs.WordsItems.{AreRead}
use Rattle.command_words.proofs.words.read_items.Given as goal

abbrev pub invariant-loop-at : goal.invariant-loop-at
invariant-loop-at l = AreRead l.command (map string_bytes l.words) l.at (items_of l.items.items)

abbrev pub decreases-loop-at : goal.decreases-loop-at
decreases-loop-at l = length l.words - l.at
