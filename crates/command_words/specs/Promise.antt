-- The promise: what the clauses of public calls cite of this crate, in the order in which to read it.
-- What is left out serves private contracts alone.

-- The words of the command line.
pub use Rattle.command_words.specs.Commands.{command_text, required_of, optional_of, options_of}
pub use Rattle.command_words.specs.Commands.{option_text, range_of, flag_of, IsValue, IsNumber, Item}
pub use Rattle.command_words.specs.Commands.{joined_of, IsItem, AreItems, AreItemsOf, Gives, IsGiven}
pub use Rattle.command_words.specs.Commands.{NotGiven, GivesNumber, GivesText, PlainJob, Reads}
pub use Rattle.command_words.specs.Commands.{BeginsNoItem, IsFirstBad, IsSecondBad, IsFirstRepeated}
pub use Rattle.command_words.specs.Commands.{HasFaultAt, AreItemsWith, IsFirstWith, GivesNoNumber}
pub use Rattle.command_words.specs.Commands.{IsUsageFault}
