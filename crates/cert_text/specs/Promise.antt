-- The promise: what the clauses of public calls cite of this crate, in the order in which to read it.
-- What is left out serves private contracts alone.

-- The lines of a certificate and their text.
pub use Rattle.cert_text.specs.Lines.{Line, Word, number_or_none, bound_word, yes_or_no, pair_words, words_of}
pub use Rattle.cert_text.specs.Lines.{numeral, word_text, line_bytes, line_text, HasItsGoals, Spells}
pub use Rattle.cert_text.specs.Lines.{IsInRange, IsOverRange, IsGood, IsOfNoKind, HoldsOverRange}
-- What contracts see of a line in memory.
pub use Rattle.cert_text.specs.Values.{plain, plain_lines}
-- What a reader of lines keeps, and what one piece of the stream gives.
pub use Rattle.cert_text.specs.Streams.{PlainReader, IsWithinLine, line_feeds, begun_after, new_reader, room}
pub use Rattle.cert_text.specs.Streams.{text_within, StopsAt, GoesOn, FindsFault, Reads, AnswersLines}
pub use Rattle.cert_text.specs.Streams.{AnswersFault, GoesOnCounting, open_lines, IsReader, reader_at}
