-- The tokens of a text, and its first byte that belongs to no text.
use Rattle.std.specs.Prelude.{◌≡◌, ℕ, ◌+◌, ◌<◌, ◌≤◌, Bool, not, ◌==◌, ◌&&◌, IsTrue, if◌then◌else◌, List, [], ◌∷◌, ◌++◌, length}
use Rattle.pddl_lexer.specs.declared.token.Token.{Token}
use Rattle.pddl_lexer.specs.declared.token.TokenKind.{TokenKind}
use Rattle.pddl_lexer.specs.declared.token.TokenKind.TheVariants.{Open, Close, Word}
use Rattle.pddl_lexer.specs.Pieces.{Piece, Space, Comment, Bracket, Run, IsCut, is_space, is_graphic}

-- the kind of a token that begins with this byte
abbrev pub kind_of : ℕ → TokenKind
kind_of b = if b == 40 then Open else (if b == 41 then Close else Word)

-- the tokens of pieces of which the first stands at the place: each bracket and each run,
-- from its first byte to the place behind its last
abbrev pub tokens_from : ℕ → List Piece → List Token
tokens_from at [] = []
tokens_from at (Space b ∷ rest) = tokens_from (at + 1) rest
tokens_from at (Comment bytes ∷ rest) = tokens_from (at + 1 + length bytes) rest
tokens_from at (Bracket b ∷ rest) = record { kind = kind_of b; from = at; to = at + 1 } ∷ tokens_from (at + 1) rest
tokens_from at (Run bytes ∷ rest) = record { kind = Word; from = at; to = at + length bytes } ∷ tokens_from (at + length bytes) rest

-- these are all tokens of the text
pub record AreTokens (text : List ℕ) (tokens : List Token) : Type 0 where
  pub pieces : List Piece
  pub cut : IsCut text pieces
  pub give : tokens_from 0 pieces ≡ tokens

-- the spans of the tokens rise, from the first place to the end; none is empty
abbrev pub AreSpans : ℕ → ℕ → List Token → Type 0
AreSpans at end [] = at ≤ end
AreSpans at end (t ∷ rest) = (at ≤ t.from) × (t.from < t.to) × AreSpans t.to end rest

-- neither space nor printable ASCII
abbrev pub is_bad : ℕ → Bool
is_bad b = not (is_space b) && not (is_graphic b)

-- what comes behind the pieces is in no comment
abbrev pub EndOutside : List Piece → Type 0
EndOutside [] = Unit {0}
EndOutside (Comment bytes ∷ []) = ⊥
EndOutside (piece ∷ rest) = EndOutside rest

-- the byte at the place is the first outside comments that is neither space nor printable ASCII:
-- the bytes before it are made of pieces
pub record IsFirstBad (text : List ℕ) (place : ℕ) : Type 0 where
  pub front : List ℕ
  pub byte : ℕ
  pub rest : List ℕ
  pub whole : front ++ byte ∷ rest ≡ text
  pub at_place : length front ≡ place
  pub is_bad : IsTrue (is_bad byte)
  pub pieces : List Piece
  pub cut : IsCut front pieces
  pub outside : EndOutside pieces
