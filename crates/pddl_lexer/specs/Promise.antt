-- The promise: what the clauses of public calls cite of this crate, in the order in which to read it.
-- What is left out serves private contracts alone.

-- The pieces of which a text is made.
pub use Rattle.pddl_lexer.specs.Pieces.{is_space, is_bracket, is_graphic, is_word_byte, Piece, bytes_of}
pub use Rattle.pddl_lexer.specs.Pieces.{IsPiece, MayFollow, FollowEachOther, IsCut}
-- The tokens of a text, and its first byte that belongs to no text.
pub use Rattle.pddl_lexer.specs.Tokens.{kind_of, tokens_from, AreTokens, AreSpans, is_bad, EndOutside}
pub use Rattle.pddl_lexer.specs.Tokens.{IsFirstBad}
-- Where the brackets of a list of tokens are at fault.
pub use Rattle.pddl_lexer.specs.Brackets.{is_open, is_close, opens, closes, depth, IsAtFault, HasNoFault}
pub use Rattle.pddl_lexer.specs.Brackets.{IsFirstFault, IsBalanced, IsLeftOpen, IsFaultOf, IsOneList}
-- The tree of a list of tokens.
pub use Rattle.pddl_lexer.specs.Trees.{Mark, mark_by_kind, mark_of, join, marks_of_item, marks_of_list}
pub use Rattle.pddl_lexer.specs.Trees.{marks_in, deepest, depth_of_item, depth_of_list, depth_in, IsTreeOf}
