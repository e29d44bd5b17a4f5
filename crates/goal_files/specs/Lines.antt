-- The lines of a text, and the atoms that a line spells, by their names.
use Rattle.std.specs.Prelude.{◌≡◌, ◌≢◌, ℕ, ◌<◌, Bool, true, ◌==◌, ◌||◌, if◌then◌else◌, IsTrue, List, [], ◌∷◌, ◌++◌, length, map}
use Rattle.std.specs.List.{AllByRecursion, flat_map, slice_split}
use Rattle.std.specs.Str.{str_to_ascii_lowercase}
use Rattle.std.specs.Str.Lines.{strip_carriage_return}
use Rattle.pddl_reader.specs.Classes.{is_name_byte}

-- the lines of a text, each without the one carriage return at its end
abbrev pub lines_of : List ℕ → List (List ℕ)
lines_of text = map strip_carriage_return (slice_split (λ b. b == 10) text)

-- space, tab and comma
abbrev pub is_blank : ℕ → Bool
is_blank b = b == 32 || b == 9 || b == 44

-- blanks alone, or a semicolon behind them
abbrev pub is_skipped : List ℕ → Bool
is_skipped [] = true
is_skipped (b ∷ rest) = if is_blank b then is_skipped rest else b == 59

-- the pieces of which a line is made
pub data Piece : Type 0 where
  Blank : ℕ → Piece
  Open : Piece
  Close : Piece
  Run : List ℕ → Piece

abbrev pub bytes_of : Piece → List ℕ
bytes_of (Blank b) = b ∷ []
bytes_of Open = 40 ∷ []
bytes_of Close = 41 ∷ []
bytes_of (Run bytes) = bytes

abbrev pub IsPiece : Piece → Type 0
IsPiece (Blank b) = IsTrue (is_blank b)
IsPiece Open = Unit {0}
IsPiece Close = Unit {0}
IsPiece (Run bytes) = (0 < length bytes) × AllByRecursion (λ b. IsTrue (is_name_byte b)) bytes

-- whether the second may follow the first: a run goes on as long as it can
abbrev pub MayFollow : Piece → Piece → Type 0
MayFollow (Run bytes) (Run more) = ⊥
MayFollow first next = Unit {0}

abbrev pub FollowEachOther : List Piece → Type 0
FollowEachOther [] = Unit {0}
FollowEachOther (first ∷ []) = Unit {0}
FollowEachOther (first ∷ next ∷ rest) = MayFollow first next × FollowEachOther (next ∷ rest)

pub record IsCut (line : List ℕ) (pieces : List Piece) : Type 0 where
  pub covers : flat_map bytes_of pieces ≡ line
  pub each : AllByRecursion IsPiece pieces
  pub follow : FollowEachOther pieces

-- a word of a line
pub data Mark : Type 0 where
  Opens : Mark
  Closes : Mark
  Names : List ℕ → Mark

-- the words of pieces, folded to lower case, without the blanks
abbrev pub marks_of : List Piece → List Mark
marks_of [] = []
marks_of (Blank b ∷ rest) = marks_of rest
marks_of (Open ∷ rest) = Opens ∷ marks_of rest
marks_of (Close ∷ rest) = Closes ∷ marks_of rest
marks_of (Run bytes ∷ rest) = Names (str_to_ascii_lowercase bytes) ∷ marks_of rest

-- a name is not empty, and no hyphen begins it
abbrev pub BeginsAsName : List ℕ → Type 0
BeginsAsName [] = ⊥
BeginsAsName (b ∷ bytes) = b ≢ 45

-- an atom: its predicate and its objects, by their names
abbrev pub IsAtom : List (List ℕ) → Type 0
IsAtom names = (0 < length names) × AllByRecursion BeginsAsName names

abbrev pub atom_marks : List (List ℕ) → List Mark
atom_marks names = Opens ∷ map Names names ++ Closes ∷ []

-- the line spells these atoms
pub record IsGoalLine (line : List ℕ) (atoms : List (List (List ℕ))) : Type 0 where
  pub pieces : List Piece
  pub cut : IsCut line pieces
  pub marks : marks_of pieces ≡ flat_map atom_marks atoms
  pub some : 0 < length atoms
  pub each : AllByRecursion IsAtom atoms
