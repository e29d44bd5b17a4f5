-- A stream that comes in pieces.
use Rattle.std.proofs.Common.{◌≡◌, ℕ, ◌+◌, ◌-◌, ◌≤◌, List, [], ◌∷◌, ◌++◌, length, take, sym, ap, ◌∙◌, subst, arith, append_assoc, Option, Some, None, length-append}
use Rattle.std.specs.List.{AllByRecursion, flat_map}
use Rattle.std.proofs.Math.Seq.{take-append-add}
use Rattle.std.proofs.lemmas.Grind.{flat_map-append}
use Rattle.cert_text.specs.Lines.{Line, line_text, IsGood, IsOfNoKind, HoldsOverRange}
use Rattle.cert_text.specs.Streams.{StopsAt, GoesOn, Reads, new_reader, reader_at}
use Rattle.cert_text.specs.declared.line.LineFault.{LineFault}
use Rattle.cert_text.specs.declared.line.LineFault.TheVariants.{BadLine, BadNumber, TooLong, OutOfMemory}

each-append : (good more : List Line) → AllByRecursion IsGood good → AllByRecursion IsGood more → AllByRecursion IsGood (good ++ more)
each-append [] more h k = k
each-append (l ∷ good) more h k = (h.0, each-append good more h.1 k)

-- the lines of both, where what is kept of the first goes on in the second
joined : (stream piece kept tail : List ℕ) (good more : List Line) → stream ≡ flat_map line_text good ++ kept → kept ++ piece ≡ flat_map line_text more ++ tail
    → stream ++ piece ≡ flat_map line_text (good ++ more) ++ tail
joined stream piece kept tail good more e f =
    ap (λ t. t ++ piece) e ∙ append_assoc (flat_map line_text good) kept piece
    ∙ ap (λ t. flat_map line_text good ++ t) f
    ∙ sym (append_assoc (flat_map line_text good) (flat_map line_text more) tail)
    ∙ ap (λ t. t ++ tail) (sym (flat_map-append line_text good more))

goes_on_joined : (stream piece kept after : List ℕ) (good more : List Line) → GoesOn stream good kept → GoesOn (kept ++ piece) more after → GoesOn (stream ++ piece) (good ++ more) after
goes_on_joined stream piece kept after good more g h =
    record { whole = joined stream piece kept after good more g.whole h.whole; each = each-append good more g.each h.each; within = h.within }

stops_joined : (P : List ℕ → Type 0) (stream piece kept : List ℕ) (good more : List Line) → GoesOn stream good kept → StopsAt (kept ++ piece) more P → StopsAt (stream ++ piece) (good ++ more) P
stops_joined P stream piece kept good more g h =
    record {
      line = h.line;
      more = h.more;
      whole =
          joined stream piece kept (h.line ++ 10 ∷ h.more) good more g.whole (h.whole ∙ append_assoc (flat_map line_text more) h.line (10 ∷ h.more))
          ∙ sym (append_assoc (flat_map line_text (good ++ more)) h.line (10 ∷ h.more));
      each = each-append good more g.each h.each;
      within = h.within;
      faulty = h.faulty;
    }

take_joined : (limit most : ℕ) (stream piece : List ℕ) → length stream ≤ most → most ≡ limit → take most (stream ++ piece) ≡ stream ++ take (limit - length stream) piece
take_joined limit most stream piece h e =
    let parts : most ≡ length stream + (limit - length stream) = omega arith in
    ap (λ n. take n (stream ++ piece)) parts ∙ take-append-add stream piece (limit - length stream)

pub pieces_joined : (limit : ℕ) (stream piece kept after : List ℕ) (good more : List Line) (fault : Option LineFault)
    → Reads (new_reader limit) stream good None kept
    → Reads (reader_at limit (length stream) (length good) kept) piece more fault after
    → Reads (new_reader limit) (stream ++ piece) (good ++ more) fault after
pieces_joined limit stream piece kept after good more None g h =
    (omega (arith, g.0, h.0, length-append stream piece), goes_on_joined stream piece kept after good more g.1 h.1)
pieces_joined limit stream piece kept after good more (Some (BadLine n)) g h = (
  (
    omega (arith, h.0.0, length-append good more),
    (let P : List ℕ → Type 0 = λ text. StopsAt text (good ++ more) IsOfNoKind in
        subst P (sym (take_joined limit (limit - 0) stream piece g.0 (omega arith))) (stops_joined IsOfNoKind stream (take (limit - length stream) piece) kept good more g.1 h.0.1)),
  ),
  h.1,
)
pieces_joined limit stream piece kept after good more (Some (BadNumber n)) g h = (
  (
    omega (arith, h.0.0, length-append good more),
    (let P : List ℕ → Type 0 = λ text. StopsAt text (good ++ more) HoldsOverRange in
        subst P (sym (take_joined limit (limit - 0) stream piece g.0 (omega arith))) (stops_joined HoldsOverRange stream (take (limit - length stream) piece) kept good more g.1 h.0.1)),
  ),
  h.1,
)
pieces_joined limit stream piece kept after good more (Some (TooLong n)) g h = (
  (
    h.0.0,
    omega (arith, h.0.1, length-append stream piece),
    h.0.2,
    (let P : List ℕ → Type 0 = λ text. GoesOn text (good ++ more) h.0.2 in
        subst P (sym (take_joined limit (limit - 0) stream piece g.0 (omega arith))) (goes_on_joined stream (take (limit - length stream) piece) kept h.0.2 good more g.1 h.0.3)),
  ),
  h.1,
)
pieces_joined limit stream piece kept after good more (Some OutOfMemory) g h = absurd h.0
