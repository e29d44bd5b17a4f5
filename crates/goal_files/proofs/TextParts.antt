-- The parts of a text, one by one, and the lines among them that are not skipped.
use Rattle.std.proofs.Common.{◌≡◌, ℕ, ◌+◌, ◌≤◌, Bool, true, false, cond, not, List, [], ◌∷◌, ◌++◌, length, map, filter, refl, sym, ap, ◌∙◌, arith, append_assoc, append-nil, length-append, Option, Some, None, Bor}
use Rattle.std.specs.Prelude.{◌==◌}
use Rattle.std.specs.List.{slice_split}
use Rattle.std.specs.Str.Lines.{strip_carriage_return}
use Rattle.std.proofs.lemmas.Iterator.{YieldsList}
use Rattle.std.proofs.lemmas.List.{length-map, map_push}
use Rattle.std.proofs.lemmas.List.Elements.{filter-append}
use Rattle.goal_files.specs.Lines.{is_skipped}
use Rattle.goal_files.specs.LineReading.{PlainLine, numbered, kept_lines}
use Rattle.goal_files.proofs.LineLaws.{Lines, is_kept, kept_from, numbered-push, few_parts}

abbrev kept_of : Lines → List PlainLine
kept_of lines = kept_from 1 lines

abbrev line_of : ℕ → List ℕ → PlainLine
line_of number bytes = record { number = number; bytes = bytes }

kept-push : (lines : Lines) (line : List ℕ) (v : Bool) → is_skipped line ≡ v → kept_of (lines ++ line ∷ []) ≡ kept_of lines ++ cond v [] (line_of (1 + length lines) line ∷ [])
kept-push lines line v e =
    ap (filter is_kept) (numbered-push 1 lines line) ∙ filter-append is_kept (numbered 1 lines) (line_of (1 + length lines) line ∷ []) ∙ ap (λ ls. kept_of lines ++ ls) (at_line v e)
  where
    at_line : (v : Bool) → is_skipped line ≡ v → cond (not (is_skipped line)) (line_of (1 + length lines) line ∷ []) [] ≡ cond v [] (line_of (1 + length lines) line ∷ [])
    at_line true e = ap (λ v. cond (not v) (line_of (1 + length lines) line ∷ []) []) e
    at_line false e = ap (λ v. cond (not v) (line_of (1 + length lines) line ∷ []) []) e

-- an iterator over the parts of a text has these left, and those before are read
module _ {S : Type 0} (steps : S → Option (Bor (List ℕ)) → S → Type 0) where
  pub record HasKept (text : List ℕ) (number : ℕ) (lines : List PlainLine) (it : S) : Type 0 where
    pub before : Lines
    pub left : Lines
    pub yields : YieldsList steps (λ (x : Bor (List ℕ)). x.now) it left
    pub whole : slice_split (λ b. b == 10) text ≡ before ++ left
    pub counted : number ≡ length before
    pub kept : lines ≡ kept_of (map strip_carriage_return before)

  -- the next part and those behind it
  record Turn (left : Lines) (part : List ℕ) (next : S) : Type 0 where
    rest : Lines
    whole : left ≡ part ∷ rest
    yields : YieldsList steps (λ (x : Bor (List ℕ)). x.now) next rest

  turn : (left : Lines) (it next : S) (x : Bor (List ℕ)) → YieldsList steps (λ (y : Bor (List ℕ)). y.now) it left → steps it (Some x) next → Turn left x.now next
  turn [] it next x yields step = absurd (yields.runs x next step)
  turn (part ∷ rest) it next x yields step =
      let both = yields.runs.1 x next step in
      record { rest = rest; whole = ap (λ p. p ∷ rest) (sym both.0); yields = record { runs = both.1 } }

  nothing_left : (left : Lines) (it next : S) → YieldsList steps (λ (x : Bor (List ℕ)). x.now) it left → steps it None next → left ≡ []
  nothing_left [] it next yields step = refl
  nothing_left (part ∷ rest) it next yields step = absurd (yields.runs.0 next step)

  pub nothing_kept : (text : List ℕ) (lines : List PlainLine) (it : S) → lines ≡ [] → YieldsList steps (λ (x : Bor (List ℕ)). x.now) it (slice_split (λ b. b == 10) text) → HasKept text 0 lines it
  nothing_kept text lines it none yields = record {
    before = [];
    left = slice_split (λ b. b == 10) text;
    yields = yields;
    whole = refl;
    counted = refl;
    kept = none;
  }

  pub few_before : (text : List ℕ) (number : ℕ) (lines : List PlainLine) (it next : S) (x : Bor (List ℕ)) → HasKept text number lines it → steps it (Some x) next → number ≤ length text
  few_before text number lines it next x h step =
      let t = turn h.left it next x h.yields step in
      omega (arith, h.counted, ap length (h.whole ∙ ap (λ left. h.before ++ left) t.whole), length-append h.before (x.now ∷ t.rest), few_parts text)

  pub part_kept : (text : List ℕ) (number : ℕ) (old new : List PlainLine) (it next : S) (x : Bor (List ℕ)) (bytes : List ℕ) (v : Bool) → HasKept text number old it → steps it (Some x) next
      → bytes ≡ strip_carriage_return x.now → is_skipped bytes ≡ v → new ≡ old ++ cond v [] (line_of (number + 1) bytes ∷ []) → HasKept text (number + 1) new next
  part_kept text number old new it next x bytes v h step is skips more =
      let t = turn h.left it next x h.yields step in
      let stripped = map strip_carriage_return h.before in
      let at : number + 1 ≡ 1 + length stripped = omega (arith, h.counted, length-map h.before strip_carriage_return) in
      record {
        before = h.before ++ x.now ∷ [];
        left = t.rest;
        yields = t.yields;
        whole = h.whole ∙ ap (λ left. h.before ++ left) t.whole ∙ sym (append_assoc h.before (x.now ∷ []) t.rest);
        counted = omega (arith, h.counted, length-append h.before (x.now ∷ []));
        kept = more ∙ ap (λ ls. ls ++ cond v [] (line_of (number + 1) bytes ∷ [])) h.kept ∙ ap (λ n. kept_of stripped ++ cond v [] (line_of n bytes ∷ [])) at
            ∙ sym (kept-push stripped bytes v skips) ∙ ap (λ line. kept_of (stripped ++ line ∷ [])) is ∙ ap kept_of (sym (map_push strip_carriage_return h.before x.now));
      }

  pub all_kept : (text : List ℕ) (number : ℕ) (lines : List PlainLine) (it next : S) → HasKept text number lines it → steps it None next → lines ≡ kept_lines text
  all_kept text number lines it next h step =
      h.kept ∙ ap (λ parts. kept_of (map strip_carriage_return parts)) (sym (h.whole ∙ ap (λ left. h.before ++ left) (nothing_left h.left it next h.yields step) ∙ append-nil h.before))
