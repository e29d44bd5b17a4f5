-- The atoms of a line as they are read, from the front.
use Rattle.std.specs.Prelude.{ℕ, ◌<◌, Bool, false, not, ◌==◌, List, [], ◌∷◌, ◌++◌, take, drop, map, All, string_bytes, Option, Some, None, if◌then◌else◌}
use Rattle.std.specs.List.{prefix_len}
use Rattle.std.specs.Option.{option_map, option_and_then}
use Rattle.std.specs.Str.{str_to_ascii_lowercase}
use Rattle.pddl_reader.specs.Classes.{is_name_byte}
use Rattle.goal_files.specs.Lines.{is_blank, Mark, Opens, Closes, Names}
use Rattle.goal_files.specs.declared.pieces.Piece.{Piece}
use Rattle.goal_files.specs.declared.pieces.Piece.TheVariants.{Blank, Open, Close, Run}
use Rattle.goal_files.specs.declared.atoms.Reading.{Reading}

-- what stands behind the blanks at the front
abbrev pub past_blanks : List ℕ → List ℕ
past_blanks line = drop (prefix_len is_blank line) line

-- the word of a run
abbrev pub run_marks : List ℕ → List Mark
run_marks bytes = Names (str_to_ascii_lowercase bytes) ∷ []

-- the words of the piece at the front, and what stands behind it
abbrev pub front_of : List ℕ → Option (List Mark × List ℕ)
front_of [] = None
front_of (b ∷ line) =
    if is_blank b then Some ([], line)
    else if b == 40 then Some (Opens ∷ [], line)
    else if b == 41 then Some (Closes ∷ [], line)
    else if is_name_byte b then Some (run_marks (take (prefix_len is_name_byte (b ∷ line)) (b ∷ line)), drop (prefix_len is_name_byte (b ∷ line)) (b ∷ line))
    else None

-- the words of a piece
abbrev pub piece_marks : Piece → List Mark
piece_marks Blank = []
piece_marks Open = Opens ∷ []
piece_marks Close = Closes ∷ []
piece_marks (Run bytes) = run_marks bytes.now

-- the bytes of a run are ASCII
abbrev pub IsAsciiPiece : Piece → Type 0
IsAsciiPiece (Run bytes) = All (λ b. b < 128) bytes.now
IsAsciiPiece piece = Unit {0}

-- whether a run may be a name
abbrev pub begins_name : List ℕ → Bool
begins_name [] = false
begins_name (b ∷ bytes) = not (b == 45)

-- the atoms that were read, and the names of the one that is open
pub record PlainReading : Type 0 where
  pub atoms : List (List (List ℕ))
  pub names : Option (List (List ℕ))

abbrev pub plain_reading : Reading → PlainReading
plain_reading r = record { atoms = map (λ a. map string_bytes a.items) r.atoms.items; names = option_map (λ a. map string_bytes a.items) r.names }

-- with one word more, where it may follow
abbrev pub with_open : List (List (List ℕ)) → Option (List (List ℕ)) → Option PlainReading
with_open atoms None = Some (record { atoms = atoms; names = Some [] })
with_open atoms (Some names) = None

abbrev pub with_close : List (List (List ℕ)) → Option (List (List ℕ)) → Option PlainReading
with_close atoms None = None
with_close atoms (Some []) = None
with_close atoms (Some (name ∷ names)) = Some (record { atoms = atoms ++ (name ∷ names) ∷ []; names = None })

abbrev pub with_name : List ℕ → List (List (List ℕ)) → Option (List (List ℕ)) → Option PlainReading
with_name name atoms None = None
with_name name atoms (Some names) = if begins_name name then Some (record { atoms = atoms; names = Some (names ++ name ∷ []) }) else None

abbrev pub with_mark : PlainReading → Mark → Option PlainReading
with_mark r Opens = with_open r.atoms r.names
with_mark r Closes = with_close r.atoms r.names
with_mark r (Names name) = with_name name r.atoms r.names

-- with more words, where each may follow
abbrev pub with_marks : PlainReading → List Mark → Option PlainReading
with_marks r [] = Some r
with_marks r (mark ∷ marks) = option_and_then (λ next. with_marks next marks) (with_mark r mark)

-- the atoms, where there is one and none is open
abbrev pub whole_atoms : List (List (List ℕ)) → Option (List (List ℕ)) → Option (List (List (List ℕ)))
whole_atoms [] names = None
whole_atoms (atom ∷ atoms) None = Some (atom ∷ atoms)
whole_atoms (atom ∷ atoms) (Some names) = None
