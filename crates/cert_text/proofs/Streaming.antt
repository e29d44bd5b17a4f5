-- Lines of a stream, one after the other.
use Rattle.std.proofs.Common.{◌≡◌, ℕ, suc, ◌+◌, ◌<◌, ◌≤◌, Bool, true, false, cond, List, [], ◌∷◌, ◌++◌, length, get_or, refl, sym, ap, ◌∙◌, arith, append_assoc, ◌-◌}
use Rattle.std.specs.Prelude.{◌==◌, not}
use Rattle.std.specs.List.{AllByRecursion, flat_map}
use Rattle.std.proofs.lemmas.List.{append-nil}
use Rattle.std.proofs.lemmas.Grind.{flat_map-append}
use Rattle.std.proofs.lemmas.List.Sums.{sum_by-cons}
use Rattle.cert_text.specs.Lines.{Line, line_bytes, line_text, IsGood, Spells}
use Rattle.cert_text.specs.Streams.{IsWithinLine, StopsAt, GoesOn, begun_after, line_feeds, open_lines}

-- ---- bytes without a line feed

pub within-append : (xs ys : List ℕ) → IsWithinLine xs → IsWithinLine ys → IsWithinLine (xs ++ ys)
within-append [] ys h k = k
within-append (x ∷ xs) ys h k = (h.0, within-append xs ys h.1 k)

-- ---- one line more

flat-push : (lines : List Line) (l : Line) → flat_map line_text (lines ++ l ∷ []) ≡ flat_map line_text lines ++ line_text l
flat-push lines l = flat_map-append line_text lines (l ∷ []) ∙ ap (λ t. flat_map line_text lines ++ t) (append-nil (line_text l))

pub each-push : (lines : List Line) (l : Line) → AllByRecursion IsGood lines → IsGood l → AllByRecursion IsGood (lines ++ l ∷ [])
each-push [] l h good = (good, tt)
each-push (m ∷ lines) l h good = (h.0, each-push lines l h.1 good)

pub whole_more : (text : List ℕ) (lines : List Line) (kept front behind : List ℕ) (l : Line)
    → text ≡ flat_map line_text lines ++ (kept ++ (front ++ 10 ∷ behind)) → kept ++ front ≡ line_bytes l
    → text ≡ flat_map line_text (lines ++ l ∷ []) ++ ([] ++ behind)
whole_more text lines kept front behind l whole e =
    whole
    ∙ ap (λ t. flat_map line_text lines ++ t) (sym (append_assoc kept front (10 ∷ behind)) ∙ ap (λ t. t ++ 10 ∷ behind) e ∙ sym (append_assoc (line_bytes l) (10 ∷ []) behind))
    ∙ sym (append_assoc (flat_map line_text lines) (line_text l) behind)
    ∙ ap (λ t. t ++ behind) (sym (flat-push lines l))

-- the lines that are read of a text, with what is kept of the next and what is left
pub record SoFar (text : List ℕ) (lines : List Line) (kept rest : List ℕ) : Type 0 where
  pub whole : text ≡ flat_map line_text lines ++ (kept ++ rest)
  pub each : AllByRecursion IsGood lines
  pub within : IsWithinLine kept

pub so_far_none : (kept text : List ℕ) → IsWithinLine kept → SoFar (kept ++ text) [] kept text
so_far_none kept text within = record { whole = refl; each = tt; within = within }

-- what is left begins with this front, and then a line feed
abbrev pub Parts : List ℕ → List ℕ → List ℕ → Type 0
Parts rest front behind = (rest ≡ front ++ 10 ∷ behind) × IsWithinLine front

whole_parts : (text : List ℕ) (lines : List Line) (kept rest front behind : List ℕ) → SoFar text lines kept rest → Parts rest front behind
    → text ≡ flat_map line_text lines ++ (kept ++ (front ++ 10 ∷ behind))
whole_parts text lines kept rest front behind s parts = s.whole ∙ ap (λ t. flat_map line_text lines ++ (kept ++ t)) parts.0

pub so_far_stops : (text : List ℕ) (lines : List Line) (kept rest front behind : List ℕ) (P : List ℕ → Type 0)
    → SoFar text lines kept rest → Parts rest front behind → P (kept ++ front) → StopsAt text lines P
so_far_stops text lines kept rest front behind P s parts p =
    record {
      line = kept ++ front;
      more = behind;
      whole = whole_parts text lines kept rest front behind s parts
          ∙ ap (λ t. flat_map line_text lines ++ t) (sym (append_assoc kept front (10 ∷ behind)))
          ∙ sym (append_assoc (flat_map line_text lines) (kept ++ front) (10 ∷ behind));
      each = s.each;
      within = within-append kept front s.within parts.1;
      faulty = p;
    }

pub so_far_more : (text : List ℕ) (lines : List Line) (kept rest front behind : List ℕ) (l : Line)
    → SoFar text lines kept rest → Parts rest front behind → (bytes : List ℕ) → kept ++ front ≡ bytes → Spells bytes l × IsGood l
    → SoFar text (lines ++ l ∷ []) [] behind
so_far_more text lines kept rest front behind l s parts bytes e good =
    record {
      whole = whole_more text lines kept front behind l (whole_parts text lines kept rest front behind s parts) (e ∙ good.0.text);
      each = each-push lines l s.each good.1;
      within = tt;
    }

pub so_far_ends : (text : List ℕ) (lines : List Line) (kept rest : List ℕ) → SoFar text lines kept rest → IsWithinLine rest → GoesOn text lines (kept ++ rest)
so_far_ends text lines kept rest s within =
    record { whole = s.whole; each = s.each; within = within-append kept rest s.within within }

-- ---- counts

pub begun_after_last : (begun : Bool) (piece : List ℕ) (last : ℕ) → 0 < length piece → last ≡ get_or piece (length piece - 1) 0 → begun_after begun piece ≡ not (last == 10)
begun_after_last begun [] last h e = absurd (omega arith)
begun_after_last begun (x ∷ []) last h e = ap (λ v. not (v == 10)) (sym e)
begun_after_last begun (x ∷ y ∷ rest) last h e =
    let back : length (x ∷ y ∷ rest) - 1 ≡ suc (length (y ∷ rest) - 1) = omega arith in
    begun_after_last (not (x == 10)) (y ∷ rest) last (omega arith) (e ∙ ap (λ k. get_or (x ∷ y ∷ rest) k 0) back)

-- each byte begins or ends a line, or goes on with one
pub counted : (begun : Bool) (piece : List ℕ) → line_feeds piece + open_lines (begun_after begun piece) ≤ open_lines begun + length piece
counted begun [] = omega arith
counted begun (b ∷ piece) =
    rw (sum_by-cons (λ x. cond (x == 10) 1 0) b piece) (by_test (b == 10) (counted (not (b == 10)) piece))
  where
    by_test : (t : Bool) → line_feeds piece + open_lines (begun_after (not t) piece) ≤ open_lines (not t) + length piece
        → (cond t 1 0 + line_feeds piece) + open_lines (begun_after (not t) piece) ≤ open_lines begun + length (b ∷ piece)
    by_test true more = omega arith
    by_test false more = omega arith
