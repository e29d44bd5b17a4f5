-- What reads and writes do to the bytes that a device tells.
use Rattle.std.specs.Prelude.{◌≡◌, ℕ, ◌-◌, ◌<◌, ◌≤◌, List, [], ◌++◌, take, drop, length, Option, Some, IsSome, IfSome, IsSomeAnd}
use Rattle.std.specs.Option.{option_map}

-- the bytes that are told, if any, and behind them these
abbrev pub extended : Option (List ℕ) → List ℕ → Option (List ℕ)
extended told more = option_map (λ bytes. bytes ++ more) told

-- a sink took the first n bytes of a piece, and at least one of a piece that is not empty
pub record IsTaken (before now : Option (List ℕ)) (piece : List ℕ) (n : ℕ) : Type 0 where
  pub within : n ≤ length piece
  pub some : 0 < length piece → 0 < n
  pub grown : now ≡ extended before (take n piece)

-- a sink took a part of a piece, from its front, and not all of it
pub record IsPartlyTaken (before now : Option (List ℕ)) (piece : List ℕ) : Type 0 where
  pub n : ℕ
  pub within : n < length piece
  pub grown : now ≡ extended before (take n piece)

-- what a shelf tells of a name: nothing, or that there is no file, or a file's bytes
abbrev pub Told : Type 0
Told = Option (Option (List ℕ))

-- n bytes of a file, from a place on, are at the front of `now`, and where room was given, n is
-- zero only at the end of the file
pub record IsPart (bytes : List ℕ) (from room : ℕ) (now : List ℕ) (n : ℕ) : Type 0 where
  pub left : n ≤ length bytes - from
  pub same : take n now ≡ take n (drop from bytes)
  pub end : 0 < room → n ≡ 0 → length bytes ≤ from

-- a read at a place with this room gave n bytes; where the shelf tells, there is a file, and they
-- are bytes of it
pub record IsReadAt (told : Told) (from room : ℕ) (now : List ℕ) (n : ℕ) : Type 0 where
  pub within : n ≤ room
  pub part : IfSome told (λ file. IsSomeAnd file (λ bytes. IsPart bytes from room now n))

-- these are the bytes of the file, where the shelf tells
abbrev pub IsWholeFile : Told → List ℕ → Type 0
IsWholeFile told bytes = IfSome told (λ file. file ≡ Some bytes)

-- there is a file, and it has more bytes than this, where the shelf tells
abbrev pub IsLongerFile : Told → ℕ → Type 0
IsLongerFile told limit = IfSome told (λ file. IsSomeAnd file (λ bytes. limit < length bytes))

-- there is a file, where the shelf tells
abbrev pub IsThere : Told → Type 0
IsThere told = IfSome told (λ file. IsSome file)

-- what is told of a file that was made empty: it has no bytes, where the shelf told of its name
abbrev pub emptied : Told → Told
emptied told = option_map (λ file. Some []) told

-- what is told of a file that these bytes were appended to
abbrev pub grown_file : Told → List ℕ → Told
grown_file told more = option_map (λ file. extended file more) told

-- a file took the first n bytes of a piece, and at least one of a piece that is not empty
pub record IsAppended (before now : Told) (piece : List ℕ) (n : ℕ) : Type 0 where
  pub within : n ≤ length piece
  pub some : 0 < length piece → 0 < n
  pub grown : now ≡ grown_file before (take n piece)

-- a file took a part of a piece, from its front, and not all of it
pub record IsPartlyAppended (before now : Told) (piece : List ℕ) : Type 0 where
  pub n : ℕ
  pub within : n < length piece
  pub grown : now ≡ grown_file before (take n piece)

-- every file but that of this name is told as before
abbrev pub OthersStay : (List ℕ → Told) → (List ℕ → Told) → List ℕ → Type 0
OthersStay before now name = (x : List ℕ) → (x ≡ name → ⊥) → now x ≡ before x
