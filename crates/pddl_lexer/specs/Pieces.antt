-- The pieces of which a text is made.
use Rattle.std.specs.Prelude.{◌≡◌, ℕ, ◌<◌, Bool, false, not, ◌==◌, ◌&&◌, ◌||◌, nat_le, IsTrue, List, [], ◌∷◌, length}
use Rattle.std.specs.List.{AllByRecursion, flat_map}

-- tab, line feed, carriage return and space
abbrev pub is_space : ℕ → Bool
is_space b = b == 9 || b == 10 || b == 13 || b == 32

abbrev pub is_bracket : ℕ → Bool
is_bracket b = b == 40 || b == 41

-- a byte of printable ASCII that is no space
abbrev pub is_graphic : ℕ → Bool
is_graphic b = nat_le 33 b && nat_le b 126

-- a byte of printable ASCII that is no space, no bracket and no semicolon
abbrev pub is_word_byte : ℕ → Bool
is_word_byte b = is_graphic b && not (is_bracket b) && not (b == 59)

pub data Piece : Type 0 where
  -- one byte of space
  Space : ℕ → Piece
  -- the bytes behind a semicolon, up to the end of the line
  Comment : List ℕ → Piece
  Bracket : ℕ → Piece
  Run : List ℕ → Piece

abbrev pub bytes_of : Piece → List ℕ
bytes_of (Space b) = b ∷ []
bytes_of (Comment bytes) = 59 ∷ bytes
bytes_of (Bracket b) = b ∷ []
bytes_of (Run bytes) = bytes

abbrev pub IsPiece : Piece → Type 0
IsPiece (Space b) = IsTrue (is_space b)
IsPiece (Comment bytes) = AllByRecursion (λ b. (b == 10) ≡ false) bytes
IsPiece (Bracket b) = IsTrue (is_bracket b)
IsPiece (Run bytes) = (0 < length bytes) × AllByRecursion (λ b. IsTrue (is_word_byte b)) bytes

-- whether the second may follow the first: a run goes on as long as it can,
-- and a comment ends before a line feed
abbrev pub MayFollow : Piece → Piece → Type 0
MayFollow (Run bytes) (Run more) = ⊥
MayFollow (Comment bytes) next = next ≡ Space 10
MayFollow first next = Unit {0}

-- each piece may follow the one before it
abbrev pub FollowEachOther : List Piece → Type 0
FollowEachOther [] = Unit {0}
FollowEachOther (first ∷ []) = Unit {0}
FollowEachOther (first ∷ next ∷ rest) = MayFollow first next × FollowEachOther (next ∷ rest)

-- the text is made of these pieces
pub record IsCut (text : List ℕ) (pieces : List Piece) : Type 0 where
  pub covers : flat_map bytes_of pieces ≡ text
  pub each : AllByRecursion IsPiece pieces
  pub follow : FollowEachOther pieces
