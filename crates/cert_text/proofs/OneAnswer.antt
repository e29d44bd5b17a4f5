-- What a piece gives a reader is determined.
use Rattle.std.proofs.Common.{◌≡◌, ℕ, ◌+◌, ◌<◌, ◌≤◌, List, [], ◌∷◌, ◌++◌, length, refl, sym, ap, ◌∙◌, subst, arith, append_assoc, Option, Some, None, ◌⊎◌, inl, inr}
use Rattle.std.specs.Prelude.{Result, Ok, Err, MatchResult}
use Rattle.std.specs.List.{AllByRecursion, flat_map}
use Rattle.std.proofs.lemmas.List.{take_all}
use Rattle.cert_text.specs.Lines.{Line, line_bytes, line_text, IsGood, IsOfNoKind, HoldsOverRange}
use Rattle.cert_text.specs.Streams.{PlainReader, IsWithinLine, StopsAt, Reads, FindsFault, AnswersLines, AnswersFault, room, text_within}
use Rattle.cert_text.specs.declared.line.LineFault.{LineFault}
use Rattle.cert_text.specs.declared.line.LineFault.TheVariants.{BadLine, BadNumber, TooLong, OutOfMemory}
use Rattle.cert_text.proofs.Spelling.{line_within, one_line, not_both}

-- ---- the first line feed

rest_of : List ℕ → List ℕ
rest_of [] = []
rest_of (x ∷ xs) = xs

first_of_list : List ℕ → ℕ
first_of_list [] = 0
first_of_list (x ∷ xs) = x

cut_once : (xs ys a b : List ℕ) → IsWithinLine xs → IsWithinLine ys → xs ++ 10 ∷ a ≡ ys ++ 10 ∷ b → (xs ≡ ys) × (a ≡ b)
unfolding rest_of first_of_list
cut_once [] [] a b h k e = (refl, ap rest_of e)
cut_once [] (y ∷ ys) a b h k e = absurd (k.0 (sym (ap first_of_list e)))
cut_once (x ∷ xs) [] a b h k e = absurd (h.0 (ap first_of_list e))
cut_once (x ∷ xs) (y ∷ ys) a b h k e =
    let more = cut_once xs ys a b h.1 k.1 (ap rest_of e) in
    let same : x ≡ y = ap first_of_list e in
    ((λ i. same i ∷ more.0 i), more.1)

never_within : (xs b tail : List ℕ) → IsWithinLine tail → tail ≡ xs ++ 10 ∷ b → ⊥
unfolding rest_of first_of_list
never_within [] b [] h e = absurd cc
never_within [] b (t ∷ tail) h e = h.0 (ap first_of_list e)
never_within (x ∷ xs) b [] h e = absurd cc
never_within (x ∷ xs) b (t ∷ tail) h e = never_within xs b tail h.1 (ap rest_of e)

-- ---- where the good lines end

-- a line that is complete and is not good
record BadTail (tail : List ℕ) : Type 0 where
  bad : List ℕ
  more : List ℕ
  whole : tail ≡ bad ++ 10 ∷ more
  within : IsWithinLine bad
  not_good : (l : Line) → IsGood l → bad ≡ line_bytes l → ⊥

abbrev IsTail : List ℕ → Type 0
IsTail tail = IsWithinLine tail ⊎ BadTail tail

no_line : (l : Line) (rest tail : List ℕ) → IsGood l → IsTail tail → tail ≡ line_bytes l ++ 10 ∷ rest → ⊥
no_line l rest tail good (inl h) e = never_within (line_bytes l) rest tail h e
no_line l rest tail good (inr h) e =
    h.not_good l good (cut_once h.bad (line_bytes l) h.more rest h.within (line_within l) (sym h.whole ∙ e)).0

regroup : (l : Line) (good : List Line) (tail : List ℕ) → flat_map line_text (l ∷ good) ++ tail ≡ line_bytes l ++ 10 ∷ (flat_map line_text good ++ tail)
regroup l good tail =
    append_assoc (line_text l) (flat_map line_text good) tail
    ∙ append_assoc (line_bytes l) (10 ∷ []) (flat_map line_text good ++ tail)

same_cut : (good other : List Line) (tail rest : List ℕ) → AllByRecursion IsGood good → AllByRecursion IsGood other → IsTail tail → IsTail rest
    → flat_map line_text good ++ tail ≡ flat_map line_text other ++ rest → (good ≡ other) × (tail ≡ rest)
same_cut [] [] tail rest h k t r e = (refl, e)
same_cut [] (m ∷ other) tail rest h k t r e = absurd (no_line m (flat_map line_text other ++ rest) tail k.0 t (e ∙ regroup m other rest))
same_cut (l ∷ good) [] tail rest h k t r e = absurd (no_line l (flat_map line_text good ++ tail) rest h.0 r (sym e ∙ regroup l good tail))
same_cut (l ∷ good) (m ∷ other) tail rest h k t r e =
    let cut = cut_once (line_bytes l) (line_bytes m) (flat_map line_text good ++ tail) (flat_map line_text other ++ rest) (line_within l) (line_within m)
    (sym (regroup l good tail) ∙ e ∙ regroup m other rest) in
    let more = same_cut good other tail rest h.1 k.1 t r cut.1 in
    let same = one_line l m h.0 k.0 cut.0 in
    ((λ i. same i ∷ more.0 i), more.1)

-- ---- what is found

bad_tail : (P : List ℕ → Type 0) → ((bytes : List ℕ) (l : Line) → P bytes → IsGood l → bytes ≡ line_bytes l → ⊥)
    → (text : List ℕ) (good : List Line) (s : StopsAt text good P) → BadTail (s.line ++ 10 ∷ s.more)
bad_tail P apart text good s =
    record { bad = s.line; more = s.more; whole = refl; within = s.within; not_good = λ l g e. apart s.line l s.faulty g e }

of_no_kind_apart : (bytes : List ℕ) (l : Line) → IsOfNoKind bytes → IsGood l → bytes ≡ line_bytes l → ⊥
of_no_kind_apart bytes l kind good e = kind l (record { text = e; has_goals = good.has_goals })

over_apart : (bytes : List ℕ) (l : Line) → HoldsOverRange bytes → IsGood l → bytes ≡ line_bytes l → ⊥
over_apart bytes l over good e = not_both bytes l e good over

-- how a text ends behind its good lines, and the fault that this is
data Ending (r : PlainReader) (piece : List ℕ) (good : List Line) (tail kept : List ℕ) : Option LineFault → Type 0 where
  Open : length piece ≤ room r → IsWithinLine tail → kept ≡ tail → Ending r piece good tail kept None
  NoKind : (n : ℕ) (bad more : List ℕ) → n ≡ r.lines + length good + 1 → tail ≡ bad ++ 10 ∷ more → IsWithinLine bad → IsOfNoKind bad → kept ≡ [] → Ending r piece good tail kept (Some (BadLine n))
  Over : (n : ℕ) (bad more : List ℕ) → n ≡ r.lines + length good + 1 → tail ≡ bad ++ 10 ∷ more → IsWithinLine bad → HoldsOverRange bad → kept ≡ [] → Ending r piece good tail kept (Some (BadNumber n))
  Long : (n : ℕ) → n ≡ r.limit → room r < length piece → IsWithinLine tail → kept ≡ [] → Ending r piece good tail kept (Some (TooLong n))

record Seen (r : PlainReader) (piece : List ℕ) (good : List Line) (fault : Option LineFault) (kept : List ℕ) : Type 0 where
  tail : List ℕ
  whole : text_within r piece ≡ flat_map line_text good ++ tail
  each : AllByRecursion IsGood good
  is_tail : IsTail tail
  ending : Ending r piece good tail kept fault

seen : (r : PlainReader) (piece : List ℕ) (good : List Line) (fault : Option LineFault) (kept : List ℕ) → Reads r piece good fault kept → Seen r piece good fault kept
seen r piece good None kept h =
    record {
      tail = kept;
      whole = ap (λ t. r.kept ++ t) (take_all (room r) piece h.0) ∙ h.1.whole;
      each = h.1.each;
      is_tail = inl h.1.within;
      ending = Open h.0 h.1.within refl;
    }
seen r piece good (Some (BadLine n)) kept h =
    let s = h.0.1 in
    record {
      tail = s.line ++ 10 ∷ s.more;
      whole = s.whole ∙ append_assoc (flat_map line_text good) s.line (10 ∷ s.more);
      each = s.each;
      is_tail = inr (bad_tail IsOfNoKind of_no_kind_apart (text_within r piece) good s);
      ending = NoKind n s.line s.more h.0.0 refl s.within s.faulty h.1;
    }
seen r piece good (Some (BadNumber n)) kept h =
    let s = h.0.1 in
    record {
      tail = s.line ++ 10 ∷ s.more;
      whole = s.whole ∙ append_assoc (flat_map line_text good) s.line (10 ∷ s.more);
      each = s.each;
      is_tail = inr (bad_tail HoldsOverRange over_apart (text_within r piece) good s);
      ending = Over n s.line s.more h.0.0 refl s.within s.faulty h.1;
    }
seen r piece good (Some (TooLong n)) kept h =
    record {
      tail = h.0.2;
      whole = h.0.3.whole;
      each = h.0.3.each;
      is_tail = inl h.0.3.within;
      ending = Long n h.0.0 h.0.1 h.0.3.within h.1;
    }
seen r piece good (Some OutOfMemory) kept h = absurd h.0

same_place : (tail bad more other rest : List ℕ) → tail ≡ bad ++ 10 ∷ more → tail ≡ other ++ 10 ∷ rest → IsWithinLine bad → IsWithinLine other → bad ≡ other
same_place tail bad more other rest e f h k = (cut_once bad other more rest h k (sym e ∙ f)).0

same_ending : (r : PlainReader) (piece : List ℕ) (good : List Line) (tail kept after : List ℕ) (fault other : Option LineFault)
    → Ending r piece good tail kept fault → Ending r piece good tail after other → (fault ≡ other) × (kept ≡ after)
same_ending r piece good tail kept after fault other (Open fits within k) (Open f w j) = (refl, k ∙ sym j)
same_ending r piece good tail kept after fault other (Open fits within k) (NoKind n bad more e whole w kind j) = absurd (never_within bad more tail within whole)
same_ending r piece good tail kept after fault other (Open fits within k) (Over n bad more e whole w over j) = absurd (never_within bad more tail within whole)
same_ending r piece good tail kept after fault other (Open fits within k) (Long n e long w j) = absurd (omega arith)
same_ending r piece good tail kept after fault other (NoKind n bad more e whole w kind k) (Open fits within j) = absurd (never_within bad more tail within whole)
same_ending r piece good tail kept after fault other (NoKind n bad more e whole w kind k) (NoKind m bads mores f wholes ws kinds j) =
    let same : n ≡ m = e ∙ sym f in ((λ i. Some (BadLine (same i))), k ∙ sym j)
same_ending r piece good tail kept after fault other (NoKind n bad more e whole w kind k) (Over m bads mores f wholes ws over j) =
    let same = same_place tail bad more bads mores whole wholes w ws in
    absurd (subst IsOfNoKind same kind over.line over.spelled)
same_ending r piece good tail kept after fault other (NoKind n bad more e whole w kind k) (Long m f long within j) = absurd (never_within bad more tail within whole)
same_ending r piece good tail kept after fault other (Over n bad more e whole w over k) (Open fits within j) = absurd (never_within bad more tail within whole)
same_ending r piece good tail kept after fault other (Over n bad more e whole w over k) (NoKind m bads mores f wholes ws kind j) =
    let same = same_place tail bads mores bad more wholes whole ws w in
    absurd (subst IsOfNoKind same kind over.line over.spelled)
same_ending r piece good tail kept after fault other (Over n bad more e whole w over k) (Over m bads mores f wholes ws overs j) =
    let same : n ≡ m = e ∙ sym f in ((λ i. Some (BadNumber (same i))), k ∙ sym j)
same_ending r piece good tail kept after fault other (Over n bad more e whole w over k) (Long m f long within j) = absurd (never_within bad more tail within whole)
same_ending r piece good tail kept after fault other (Long n e long within k) (Open fits w j) = absurd (omega arith)
same_ending r piece good tail kept after fault other (Long n e long within k) (NoKind m bad more f whole w kind j) = absurd (never_within bad more tail within whole)
same_ending r piece good tail kept after fault other (Long n e long within k) (Over m bad more f whole w over j) = absurd (never_within bad more tail within whole)
same_ending r piece good tail kept after fault other (Long n e long within k) (Long m f l w j) =
    let same : n ≡ m = e ∙ sym f in ((λ i. Some (TooLong (same i))), k ∙ sym j)

-- what a piece gives is one thing
pub one_answer : (r : PlainReader) (piece : List ℕ) (good other : List Line) (fault another : Option LineFault) (kept after : List ℕ)
    → Reads r piece good fault kept → Reads r piece other another after → (good ≡ other) × (fault ≡ another) × (kept ≡ after)
one_answer r piece good other fault another kept after g h =
    let s = seen r piece good fault kept g in
    let t = seen r piece other another after h in
    let cut = same_cut good other s.tail t.tail s.each t.each s.is_tail t.is_tail (sym s.whole ∙ t.whole) in
    let P : List Line → Type 0 = λ lines. Ending r piece lines s.tail kept fault in
    let Q : List ℕ → Type 0 = λ tail. Ending r piece other tail kept fault in
    let end = same_ending r piece other t.tail kept after fault another (subst Q cut.1 (subst P cut.0 s.ending)) t.ending in
    (cut.0, end.0, end.1)

-- an answer of a reader without a fault is what the piece gives, or want of memory
pub exact_answer : {V : Type 0} (view : V → List Line) (r : PlainReader) (piece : List ℕ) (fault : Option LineFault) (kept : List ℕ) (result : Result V LineFault)
    → MatchResult result (λ v. AnswersLines r piece fault kept (view v)) (AnswersFault r piece fault kept)
    → (good : List Line) (other : Option LineFault) (after : List ℕ) → Reads r piece good other after
    → MatchResult result (λ v. (view v ≡ good) × (fault ≡ other) × (kept ≡ after)) (λ e. (e ≡ OutOfMemory) ⊎ ((good ≡ []) × (other ≡ Some e)))
exact_answer view r piece fault kept (Ok v) h good other after g = one_answer r piece (view v) good fault other kept after h.0 g
exact_answer view r piece fault kept (Err e) h good other after g = by_cause h.2
  where
    by_cause : ((e ≡ OutOfMemory) ⊎ FindsFault r piece [] e) → (e ≡ OutOfMemory) ⊎ ((good ≡ []) × (other ≡ Some e))
    by_cause (inl memory) = inl memory
    by_cause (inr found) = let one = one_answer r piece [] good (Some e) other [] after (found, refl) g in inr (sym one.0, sym one.1)
