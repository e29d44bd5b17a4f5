-- What the steps of a reader find.
use Rattle.std.specs.Prelude.{◌≡◌, ℕ, ◌+◌, ◌<◌, ◌≤◌, List, ◌++◌, length, take, Option, None, Some}
use Rattle.cert_text.specs.Lines.{Line, IsOfNoKind, HoldsOverRange}
use Rattle.cert_text.specs.Streams.{StopsAt, GoesOn}
use Rattle.cert_text.specs.declared.line.LineFault.{LineFault}
use Rattle.cert_text.specs.declared.line.LineFault.TheVariants.{BadLine, BadNumber, TooLong, OutOfMemory}

-- the text is these good lines, behind as many lines, and then a faulty one, or bytes without a line feed
abbrev pub FindsLines : ℕ → List ℕ → List Line → Option LineFault → List ℕ → Type 0
FindsLines before text good None kept = GoesOn text good kept
FindsLines before text good (Some (BadLine n)) kept = (n ≡ before + length good + 1) × StopsAt text good IsOfNoKind
FindsLines before text good (Some (BadNumber n)) kept = (n ≡ before + length good + 1) × StopsAt text good HoldsOverRange
FindsLines before text good (Some (TooLong n)) kept = ⊥
FindsLines before text good (Some OutOfMemory) kept = ⊥

-- the same of a piece, of which so many bytes lie within the limit
abbrev pub FindsWithin : ℕ → ℕ → ℕ → List ℕ → List ℕ → List Line → Option LineFault → List ℕ → Type 0
FindsWithin limit room before kept piece good None after = (length piece ≤ room) × GoesOn (kept ++ piece) good after
FindsWithin limit room before kept piece good (Some (TooLong n)) after =
    (n ≡ limit) × (room < length piece) × GoesOn (kept ++ take room piece) good after
FindsWithin limit room before kept piece good (Some (BadLine n)) after =
    (n ≡ before + length good + 1) × StopsAt (kept ++ take room piece) good IsOfNoKind
FindsWithin limit room before kept piece good (Some (BadNumber n)) after =
    (n ≡ before + length good + 1) × StopsAt (kept ++ take room piece) good HoldsOverRange
FindsWithin limit room before kept piece good (Some OutOfMemory) after = ⊥
