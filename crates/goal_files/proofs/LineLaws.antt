-- The lines of a text that are not skipped, and what each spells.
use Rattle.std.proofs.Common.{◌≡◌, ℕ, ◌+◌, ◌<◌, ◌≤◌, Bool, true, false, cond, not, List, [], ◌∷◌, ◌++◌, length, filter, take, drop, suc, get_or, refl, sym, ap, ◌∙◌, subst, inl, inr, arith}
use Rattle.std.specs.Prelude.{◌==◌}
use Rattle.std.specs.List.{AllByRecursion, slice_split}
use Rattle.std.specs.Str.Lines.{strip_carriage_return}
use Rattle.std.proofs.lemmas.List.{length-map, take_more, take-append-drop, drop_more}
use Rattle.std.proofs.lemmas.List.Elements.{All-from_recursion, recursion_from_All}
use Rattle.std.proofs.lemmas.List.Splits.{length-slice_split}
use Rattle.std.proofs.lemmas.List.Sums.{count_by-le-length}
use Rattle.pddl_reader.specs.Sections.{Pairwise}
use Rattle.goal_files.specs.Lines.{lines_of, is_skipped}
use Rattle.goal_files.specs.SpelledLines.{SpellLines, IsGood, IsFirstBad}
use Rattle.goal_files.specs.LineReading.{PlainLine, numbered, kept_lines, SpellEach, SpellBefore}

abbrev pub Lines : Type 0
Lines = List (List ℕ)

abbrev pub is_kept : PlainLine → Bool
is_kept l = not (is_skipped l.bytes)

-- the lines that are not skipped
abbrev pub kept : Lines → Lines
kept lines = filter (λ line. not (is_skipped line)) lines

-- those with their numbers, of which this is the first
abbrev pub kept_from : ℕ → Lines → List PlainLine
kept_from n lines = filter is_kept (numbered n lines)

-- ---- one line more

pub numbered-push : (n : ℕ) (lines : Lines) (line : List ℕ) → numbered n (lines ++ line ∷ []) ≡ numbered n lines ++ record { number = n + length lines; bytes = line } ∷ []
numbered-push n [] line = ap (λ k. record { number = k; bytes = line } ∷ []) (let e : n ≡ n + 0 = omega arith in e)
numbered-push n (first ∷ lines) line =
    ap (λ ls. record { number = n; bytes = first } ∷ ls)
    (numbered-push (n + 1) lines line ∙ ap (λ k. numbered (n + 1) lines ++ record { number = k; bytes = line } ∷ []) (let e : n + 1 + length lines ≡ n + suc (length lines) = omega arith in e))

-- ---- what is spelled

module _ {X : Type 0} (Spells : List ℕ → X → Type 0) where
  -- with one more
  pairs_push : (lines : List PlainLine) (xs : List X) (line : PlainLine) (x : X) → SpellEach Spells lines xs → Spells line.bytes x → SpellEach Spells (lines ++ line ∷ []) (xs ++ x ∷ [])
  pairs_push [] [] line x h s = (s, tt)
  pairs_push [] (y ∷ xs) line x h s = absurd h
  pairs_push (first ∷ lines) [] line x h s = absurd h
  pairs_push (first ∷ lines) (y ∷ xs) line x h s = (h.0, pairs_push lines xs line x h.1 s)

  all_spell : (lines : List PlainLine) (xs : List X) → SpellEach Spells lines xs → AllByRecursion (λ (l : PlainLine). (x : X) × Spells l.bytes x) lines
  all_spell [] xs h = tt
  all_spell (line ∷ lines) [] h = absurd h
  all_spell (line ∷ lines) (x ∷ xs) h = ((x, h.0), all_spell lines xs h.1)

  module _ (lines : List PlainLine) (i : ℕ) (line : PlainLine) (within : i < length lines) (is : line ≡ get_or lines i line) (xs : List X) (so_far : SpellEach Spells (take i lines) xs) where
    pub spell_more : (new : List X) (x : X) → Spells line.bytes x → new ≡ xs ++ x ∷ [] → SpellEach Spells (take (i + 1) lines) new
    spell_more new x s more =
        subst (λ ls. SpellEach Spells ls new) (sym (take_more lines i line within ∙ ap (λ l. take i lines ++ l ∷ []) (sym is)))
        (subst (SpellEach Spells (take i lines ++ line ∷ [])) (sym more) (pairs_push (take i lines) xs line x so_far s))

    pub spell_before : SpellBefore Spells lines line
    spell_before = record {
      before = take i lines;
      behind = drop (i + 1) lines;
      whole = sym (take-append-drop i lines) ∙ ap (λ ls. take i lines ++ ls) (drop_more lines i line within) ∙ ap (λ l. take i lines ++ l ∷ drop (i + 1) lines) (sym is);
      good = All-from_recursion (λ (l : PlainLine). (x : X) × Spells l.bytes x) (take i lines) (all_spell (take i lines) xs so_far);
    }

  -- ---- from the lines that are not skipped to the text

  spelled_kept : (n : ℕ) (lines : Lines) (xs : List X) → SpellEach Spells (kept_from n lines) xs → Pairwise Spells (kept lines) xs
  spelled_kept n [] [] h = tt
  spelled_kept n [] (x ∷ xs) h = absurd h
  spelled_kept n (line ∷ lines) xs h = at_line (is_skipped line) xs h (spelled_kept (n + 1) lines)
    where
      at_line : (v : Bool) (xs : List X) → SpellEach Spells (cond (not v) (record { number = n; bytes = line } ∷ kept_from (n + 1) lines) (kept_from (n + 1) lines)) xs
          → ((xs : List X) → SpellEach Spells (kept_from (n + 1) lines) xs → Pairwise Spells (kept lines) xs)
          → Pairwise Spells (cond (not v) (line ∷ kept lines) (kept lines)) xs
      at_line true xs h more = more xs h
      at_line false [] h more = absurd h
      at_line false (x ∷ xs) h more = (h.0, more xs h.1)

  pub spelled : (text : List ℕ) (xs : List X) → SpellEach Spells (kept_lines text) xs → SpellLines Spells text xs
  spelled text xs h = spelled_kept 1 (lines_of text) xs h

  -- a line of these stands behind good ones
  record StandsBehind (n : ℕ) (lines : Lines) (line : PlainLine) : Type 0 where
    before : Lines
    behind : Lines
    whole : lines ≡ before ++ line.bytes ∷ behind
    good : AllByRecursion (IsGood Spells) before
    counted : line.number ≡ n + length before
    read : is_skipped line.bytes ≡ false

  one_more : (n : ℕ) (first : List ℕ) (lines : Lines) (line : PlainLine) → IsGood Spells first → StandsBehind (n + 1) lines line → StandsBehind n (first ∷ lines) line
  one_more n first lines line good h = record {
    before = first ∷ h.before;
    behind = h.behind;
    whole = ap (λ ls. first ∷ ls) h.whole;
    good = (good, h.good);
    counted = omega (arith, h.counted);
    read = h.read;
  }

  stands_behind : (n : ℕ) (lines : Lines) (front back : List PlainLine) (line : PlainLine) → kept_from n lines ≡ front ++ line ∷ back
      → AllByRecursion (λ (l : PlainLine). (x : X) × Spells l.bytes x) front → StandsBehind n lines line
  stands_behind n [] [] back line e all = cc
  stands_behind n [] (next ∷ front) back line e all = cc
  stands_behind n (first ∷ lines) front back line e all = at_line (is_skipped first) refl front e all (λ front. stands_behind (n + 1) lines front back line)
    where
      at_line : (v : Bool) → is_skipped first ≡ v → (front : List PlainLine) → cond (not v) (record { number = n; bytes = first } ∷ kept_from (n + 1) lines) (kept_from (n + 1) lines) ≡ front ++ line ∷ back
          → AllByRecursion (λ (l : PlainLine). (x : X) × Spells l.bytes x) front
          → ((front : List PlainLine) → kept_from (n + 1) lines ≡ front ++ line ∷ back → AllByRecursion (λ (l : PlainLine). (x : X) × Spells l.bytes x) front → StandsBehind (n + 1) lines line)
          → StandsBehind n (first ∷ lines) line
      at_line true skipped front e all more = one_more n first lines line (inl skipped) (more front e all)
      at_line false kept [] e all more =
          let here : PlainLine = record { number = n; bytes = first } in
          let same : here ≡ line = cc in
          subst (StandsBehind n (first ∷ lines)) same (record {
            before = [];
            behind = lines;
            whole = refl;
            good = tt;
            counted = omega arith;
            read = kept;
          })
      at_line false kept (next ∷ front) e all more =
          let here : PlainLine = record { number = n; bytes = first } in
          let same : here ≡ next = cc in
          let rest : kept_from (n + 1) lines ≡ front ++ line ∷ back = cc in
          one_more n first lines line (inr (subst (λ (l : PlainLine). (x : X) × Spells l.bytes x) (sym same) all.0)) (more front rest all.1)

  -- the line is the first that is not good
  pub first_bad : (text : List ℕ) (line : PlainLine) (number : ℕ) (P : List ℕ → Type 0) → SpellBefore Spells (kept_lines text) line → number ≡ line.number → P line.bytes → IsFirstBad Spells text number P
  first_bad text line number P h same fault =
      let found = stands_behind 1 (lines_of text) h.before h.behind line h.whole (recursion_from_All (λ (l : PlainLine). (x : X) × Spells l.bytes x) h.before h.good) in
      record {
        before = found.before;
        line = line.bytes;
        behind = found.behind;
        whole = found.whole;
        good = All-from_recursion (IsGood Spells) found.before found.good;
        counted = omega (arith, same, found.counted);
        read = found.read;
        fault = fault;
      }

  -- ---- how many there are

  pairs_count : (lines : Lines) (xs : List X) → Pairwise Spells lines xs → length xs ≡ length lines
  pairs_count [] [] h = refl
  pairs_count [] (x ∷ xs) h = absurd h
  pairs_count (line ∷ lines) [] h = absurd h
  pairs_count (line ∷ lines) (x ∷ xs) h = omega (arith, pairs_count lines xs h.1)

kept_count : (lines : Lines) → length (kept lines) ≤ length lines
kept_count [] = omega arith
kept_count (line ∷ lines) = at_line (is_skipped line) (kept_count lines)
  where
    at_line : (v : Bool) → length (kept lines) ≤ length lines → length (cond (not v) (line ∷ kept lines) (kept lines)) ≤ length (line ∷ lines)
    at_line true h = omega arith
    at_line false h = omega arith

pub few_parts : (text : List ℕ) → length (slice_split (λ b. b == 10) text) ≤ length text + 1
few_parts text = omega (arith, length-slice_split (λ b. b == 10) text, count_by-le-length (λ b. b == 10) text)

pub few_spelled : {X : Type 0} (Spells : List ℕ → X → Type 0) (text : List ℕ) (xs : List X) → SpellLines Spells text xs → length xs ≤ length text + 1
few_spelled Spells text xs h =
    omega (arith, pairs_count Spells (kept (lines_of text)) xs h, kept_count (lines_of text), length-map (slice_split (λ b. b == 10) text) strip_carriage_return, few_parts text)
