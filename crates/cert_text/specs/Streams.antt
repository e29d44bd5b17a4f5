-- What a reader of lines keeps, and what one piece of the stream gives.
use Rattle.std.specs.Prelude.{◌≡◌, ◌≢◌, ◌⊎◌, ℕ, ◌+◌, ◌-◌, ◌<◌, ◌≤◌, Bool, true, false, not, ◌==◌, List, [], ◌∷◌, ◌++◌, length, take, Option, None, Some}
use Rattle.std.specs.List.{AllByRecursion, flat_map, count_by}
use Rattle.cert_text.specs.Lines.{Line, line_text, IsGood, IsOfNoKind, HoldsOverRange}
use Rattle.cert_text.specs.declared.line.LineFault.{LineFault}
use Rattle.cert_text.specs.declared.line.LineFault.TheVariants.{BadLine, BadNumber, TooLong, OutOfMemory}

-- What a reader keeps of the stream: the counts of its bytes and of its line feeds, the bytes behind the
-- last line feed, and whether there are any; after a fault the fault, and of the bytes only whether there
-- are any.
pub record PlainReader : Type 0 where
  pub limit : ℕ
  pub fed : ℕ
  pub lines : ℕ
  pub kept : List ℕ
  pub begun : Bool
  pub fault : Option LineFault

-- the bytes have no line feed
abbrev pub IsWithinLine : List ℕ → Type 0
IsWithinLine bytes = AllByRecursion (λ b. b ≢ 10) bytes

abbrev pub line_feeds : List ℕ → ℕ
line_feeds bytes = count_by (λ b. b == 10) bytes

-- bytes follow the last line feed
abbrev pub begun_after : Bool → List ℕ → Bool
begun_after begun [] = begun
begun_after begun (b ∷ bytes) = begun_after (not (b == 10)) bytes

-- before the first byte
abbrev pub new_reader : ℕ → PlainReader
new_reader limit = record { limit = limit; fed = 0; lines = 0; kept = []; begun = false; fault = None }

-- how many bytes may still come
abbrev pub room : PlainReader → ℕ
room r = r.limit - r.fed

-- what is kept, and what of the piece lies within the limit
abbrev pub text_within : PlainReader → List ℕ → List ℕ
text_within r piece = r.kept ++ take (room r) piece

-- The text is these good lines, and then a line that is complete and has the property.
pub record StopsAt (text : List ℕ) (good : List Line) (P : List ℕ → Type 0) : Type 0 where
  pub line : List ℕ
  pub more : List ℕ
  pub whole : text ≡ flat_map line_text good ++ line ++ 10 ∷ more
  pub each : AllByRecursion IsGood good
  pub within : IsWithinLine line
  pub faulty : P line

-- The text is these good lines, and then bytes without a line feed.
pub record GoesOn (text : List ℕ) (good : List Line) (kept : List ℕ) : Type 0 where
  pub whole : text ≡ flat_map line_text good ++ kept
  pub each : AllByRecursion IsGood good
  pub within : IsWithinLine kept

-- the first fault within the limit stands behind these good lines, where there is one
abbrev pub FindsFault : PlainReader → List ℕ → List Line → LineFault → Type 0
FindsFault r piece good (BadLine n) = (n ≡ r.lines + length good + 1) × StopsAt (text_within r piece) good IsOfNoKind
FindsFault r piece good (BadNumber n) = (n ≡ r.lines + length good + 1) × StopsAt (text_within r piece) good HoldsOverRange
FindsFault r piece good (TooLong n) =
    (n ≡ r.limit) × (room r < length piece) × (kept : List ℕ) × GoesOn (text_within r piece) good kept
FindsFault r piece good OutOfMemory = ⊥

-- What a piece gives a reader without a fault: these lines, and then a fault, behind which nothing is kept,
-- or none, behind which these bytes are kept.
abbrev pub Reads : PlainReader → List ℕ → List Line → Option LineFault → List ℕ → Type 0
Reads r piece good None kept = (length piece ≤ room r) × GoesOn (r.kept ++ piece) good kept
Reads r piece good (Some fault) kept = FindsFault r piece good fault × (kept ≡ [])

-- The answer of a reader without a fault, whose fault and kept bytes are then these. Good lines are
-- answered first, and their fault at the next call.
abbrev pub AnswersLines : PlainReader → List ℕ → Option LineFault → List ℕ → List Line → Type 0
AnswersLines old piece fault kept good = Reads old piece good fault kept × ((fault ≡ None) ⊎ (0 < length good))

abbrev pub AnswersFault : PlainReader → List ℕ → Option LineFault → List ℕ → LineFault → Type 0
AnswersFault old piece fault kept answered =
    (fault ≡ Some answered) × (kept ≡ []) × ((answered ≡ OutOfMemory) ⊎ FindsFault old piece [] answered)

-- the counts go on, fault or none
pub record GoesOnCounting (old : PlainReader) (piece : List ℕ) (new : PlainReader) : Type 0 where
  pub limit : new.limit ≡ old.limit
  pub fed : new.fed ≡ old.fed + length piece
  pub lines : new.lines ≡ old.lines + line_feeds piece
  pub begun : new.begun ≡ begun_after old.begun piece

-- 1 where bytes follow the last line feed
abbrev pub open_lines : Bool → ℕ
open_lines true = 1
open_lines false = 0

-- what holds of every reader
pub record IsReader (r : PlainReader) : Type 0 where
  pub fits : r.fault ≡ None → r.fed ≤ r.limit
  pub within : IsWithinLine r.kept
  pub counted : r.lines + open_lines r.begun ≤ r.fed

-- the reader without a fault that keeps this
abbrev pub reader_at : ℕ → ℕ → ℕ → List ℕ → PlainReader
reader_at limit fed lines kept =
    record { limit = limit; fed = fed; lines = lines; kept = kept; begun = false; fault = None }
