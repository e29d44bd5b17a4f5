-- A text whose lines spell values has one answer: its values, or what is at fault.
use Rattle.std.proofs.Common.{◌≡◌, ℕ, Bool, true, false, cond, not, List, [], ◌∷◌, ◌++◌, length, refl, sym, ap, ◌∙◌, subst, inl, inr, arith, Result, Ok, Err}
use mathlib.Core.Path.{ap₂}
use Rattle.std.specs.Prelude.{◌⊎◌}
use Rattle.std.specs.List.{All, AllByRecursion}
use Rattle.std.specs.Result.{IfOk, IsOkAnd, IfErr}
use Rattle.std.proofs.lemmas.Bool.{false≢true}
use Rattle.std.proofs.lemmas.List.Elements.{All-head, All-tail, All-from_recursion}
use Rattle.pddl_reader.specs.Sections.{Pairwise}
use Rattle.type_check.specs.Values.{PlainTyped}
use Rattle.goal_files.specs.Lines.{lines_of, is_skipped}
use Rattle.goal_files.specs.SpelledLines.{SpellLines, IsGood, IsFirstBad}
use Rattle.goal_files.specs.LineReading.{PlainLine, kept_lines, SpellEach, StopsBy}
use Rattle.goal_files.proofs.LineLaws.{Lines, kept, spelled}

-- ---- the values of a text

pub same_values : {L X : Type 0} (Spells : L → X → Type 0) → ((l : L) (x y : X) → Spells l x → Spells l y → x ≡ y) → (lines : List L) (xs ys : List X) → Pairwise Spells lines xs → Pairwise Spells lines ys → xs ≡ ys
same_values Spells one [] [] [] g h = refl
same_values Spells one [] [] (y ∷ ys) g h = absurd h
same_values Spells one [] (x ∷ xs) ys g h = absurd g
same_values Spells one (line ∷ lines) [] ys g h = absurd g
same_values Spells one (line ∷ lines) (x ∷ xs) [] g h = absurd h
same_values Spells one (line ∷ lines) (x ∷ xs) (y ∷ ys) g h = ap₂ ◌∷◌ (one line x y g.0 h.0) (same_values Spells one lines xs ys g.1 h.1)

module _ {X : Type 0} (Spells : List ℕ → X → Type 0) where
  -- a line with the property spells nothing
  abbrev pub SpellsNone : (List ℕ → Type 0) → Type 0
  SpellsNone P = (line : List ℕ) → P line → (x : X) → Spells line x → ⊥

  -- ---- lines that spell values are good

  good_lines : (lines : Lines) (xs : List X) → Pairwise Spells (kept lines) xs → AllByRecursion (IsGood Spells) lines
  good_lines [] xs h = tt
  good_lines (line ∷ lines) xs h = at_line (is_skipped line) refl xs h (good_lines lines)
    where
      at_line : (v : Bool) → is_skipped line ≡ v → (xs : List X) → Pairwise Spells (cond (not v) (line ∷ kept lines) (kept lines)) xs
          → ((xs : List X) → Pairwise Spells (kept lines) xs → AllByRecursion (IsGood Spells) lines)
          → AllByRecursion (IsGood Spells) (line ∷ lines)
      at_line true e xs h more = (inl e, more xs h)
      at_line false e [] h more = absurd h
      at_line false e (x ∷ xs) h more = (inr (x, h.0), more xs h.1)

  -- ---- the first line that is not good

  not_good : (P : List ℕ → Type 0) (line : List ℕ) → SpellsNone P → is_skipped line ≡ false → P line → IsGood Spells line → ⊥
  not_good P line none read fault (inl skipped) = false≢true (sym read ∙ skipped)
  not_good P line none read fault (inr x) = none line fault x.0 x.1

  record SameFirst (before others : Lines) (line other : List ℕ) : Type 0 where
    many : length before ≡ length others
    line_is : line ≡ other

  same_first : (before others behind rest : Lines) (line other : List ℕ) → before ++ line ∷ behind ≡ others ++ other ∷ rest
      → All (IsGood Spells) before → All (IsGood Spells) others → (IsGood Spells line → ⊥) → (IsGood Spells other → ⊥) → SameFirst before others line other
  same_first [] [] behind rest line other e g h bad worse = record { many = refl; line_is = cc }
  same_first [] (next ∷ others) behind rest line other e g h bad worse =
      let same : next ≡ line = cc in
      absurd (bad (subst (IsGood Spells) same (All-head (IsGood Spells) next others h)))
  same_first (first ∷ before) [] behind rest line other e g h bad worse =
      let same : first ≡ other = cc in
      absurd (worse (subst (IsGood Spells) same (All-head (IsGood Spells) first before g)))
  same_first (first ∷ before) (next ∷ others) behind rest line other e g h bad worse =
      let tails : before ++ line ∷ behind ≡ others ++ other ∷ rest = cc in
      let more = same_first before others behind rest line other tails (All-tail (IsGood Spells) first before g) (All-tail (IsGood Spells) next others h) bad worse in
      record { many = omega (arith, more.many); line_is = more.line_is }

  good_within : (before behind : Lines) (line : List ℕ) → All (IsGood Spells) (before ++ line ∷ behind) → IsGood Spells line
  good_within [] behind line all = All-head (IsGood Spells) line behind all
  good_within (first ∷ before) behind line all = good_within before behind line (All-tail (IsGood Spells) first (before ++ line ∷ behind) all)

  module _ (text : List ℕ) where
    same_place : (P Q : List ℕ → Type 0) (n m : ℕ) → SpellsNone P → SpellsNone Q → (h : IsFirstBad Spells text n P) → (k : IsFirstBad Spells text m Q) → SameFirst h.before k.before h.line k.line
    same_place P Q n m p q h k =
        same_first h.before k.before h.behind k.behind h.line k.line (sym h.whole ∙ k.whole) h.good k.good
        (not_good P h.line p h.read h.fault) (not_good Q k.line q k.read k.fault)

    pub same_number : (P : List ℕ → Type 0) (n m : ℕ) → SpellsNone P → IsFirstBad Spells text n P → IsFirstBad Spells text m P → n ≡ m
    same_number P n m p h k = omega (arith, (same_place P P n m p p h k).many, h.counted, k.counted)

    -- one line has not both
    pub not_both : (P Q : List ℕ → Type 0) (n m : ℕ) → SpellsNone P → SpellsNone Q → ((line : List ℕ) → P line → Q line → ⊥) → IsFirstBad Spells text n P → IsFirstBad Spells text m Q → ⊥
    not_both P Q n m p q apart h k = apart k.line (subst P (same_place P Q n m p q h k).line_is h.fault) k.fault

    -- no line of a text that spells values is bad
    pub none_bad : (P : List ℕ → Type 0) (n : ℕ) (xs : List X) → SpellsNone P → IsFirstBad Spells text n P → SpellLines Spells text xs → ⊥
    none_bad P n xs p h spells =
        not_good P h.line p h.read h.fault
        (good_within h.before h.behind h.line (subst (All (IsGood Spells)) h.whole (All-from_recursion (IsGood Spells) (lines_of text) (good_lines (lines_of text) xs spells))))

-- ---- from the lines that are not skipped to the text

module _ {X F : Type 0} (Spells : PlainTyped → List ℕ → X → Type 0) (t index : PlainTyped) (same : index ≡ t) (text : List ℕ) (lines : List PlainLine) (kept_are : lines ≡ kept_lines text) where
  pub text_spelled : {V : Type 0} (items : V → List X) (result : Result V F) → IfOk result (λ v. SpellEach (Spells index) lines (items v)) → IfOk result (λ v. SpellLines (Spells t) text (items v))
  text_spelled items (Ok v) ok =
      spelled (Spells t) text (items v) (subst (λ ls. SpellEach (Spells t) ls (items v)) kept_are (subst (λ u. SpellEach (Spells u) lines (items v)) same ok))
  text_spelled items (Err f) ok = tt

  pub text_fault : {V : Type 0} (IsLineFault : PlainTyped → PlainLine → F → Type 0) (IsFault : F → Type 0) (result : Result V F) → ((f : F) → StopsBy (Spells t) (IsLineFault t) (kept_lines text) f → IsFault f)
      → IfErr result (StopsBy (Spells index) (IsLineFault index) lines) → IfErr result IsFault
  text_fault IsLineFault IsFault (Ok v) is err = tt
  text_fault IsLineFault IsFault (Err f) is err =
      is f (subst (λ ls. StopsBy (Spells t) (IsLineFault t) ls f) kept_are (subst (λ u. StopsBy (Spells u) (IsLineFault u) lines f) same err))

-- ---- what is found is the answer

module _ {X F : Type 0} (IsAnswer : List X → Type 0) (IsFault : F → Type 0) (memory : F)
    (one_answer : (xs ys : List X) → IsAnswer xs → IsAnswer ys → xs ≡ ys) (one_fault : (f g : F) → IsFault f → IsFault g → f ≡ g) (apart : (xs : List X) (f : F) → IsAnswer xs → IsFault f → ⊥) where
  pub answered_exactly : {V : Type 0} (items : V → List X) (result : Result V F) → IfOk result (λ v. IsAnswer (items v)) → IfErr result (λ f. (f ≡ memory) ⊎ IsFault f)
      → (xs : List X) → IsAnswer xs → IsOkAnd result (λ v. items v ≡ xs) ⊎ (result ≡ Err memory)
  answered_exactly items (Ok v) ok err xs is = inl (one_answer (items v) xs ok is)
  answered_exactly items (Err f) ok (inl e) xs is = inr (ap Err e)
  answered_exactly items (Err f) ok (inr h) xs is = absurd (apart xs f is h)

  pub refused_exactly : {V : Type 0} (items : V → List X) (result : Result V F) → IfOk result (λ v. IsAnswer (items v)) → IfErr result (λ f. (f ≡ memory) ⊎ IsFault f)
      → (f : F) → IsFault f → (result ≡ Err f) ⊎ (result ≡ Err memory)
  refused_exactly items (Ok v) ok err f h = absurd (apart (items v) f ok h)
  refused_exactly items (Err g) ok (inl e) f h = inr (ap Err e)
  refused_exactly items (Err g) ok (inr k) f h = inl (ap Err (one_fault g f k h))
