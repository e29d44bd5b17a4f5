use Rattle.std.proofs.Common.{inl}
use Rattle.command_words.proofs.WordsTable.{begins_none_joined}
use Rattle.command_words.proofs.words.joined_item.Goals as goal

pub returns-in_default : goal.returns-in_default
returns-in_default c rest = inl (begins_none_joined c.args.command c.args.flag.now c.args.value.now c.requires c.in_default.ensures)
