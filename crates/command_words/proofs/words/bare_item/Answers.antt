use Rattle.std.proofs.Common.{inl}
use Rattle.command_words.proofs.WordsTable.{begins_none_bare}
use Rattle.command_words.proofs.words.bare_item.Goals as goal

pub returns-in_default : goal.returns-in_default
returns-in_default c = inl (begins_none_bare c.args.command c.args.word.now c.requires c.in_default.ensures)
