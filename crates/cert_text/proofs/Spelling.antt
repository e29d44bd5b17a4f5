-- The bytes of a line and its words, both ways.
use Rattle.std.proofs.Common.{◌≡◌, ℕ, suc, ◌-◌, ◌^◌, ◌<◌, ◌≤◌, Bool, true, false, List, [], ◌∷◌, ◌++◌, map, refl, sym, ap, ◌∙◌, subst, arith, Some, None, ◌⊎◌, inl, inr}
use Rattle.std.specs.Prelude.{codes, ◌==◌, ◌&&◌, not, nat_lt, Any}
use Rattle.std.specs.List.{AllByRecursion, join_with_byte, list_all, list_any}
use Rattle.std.proofs.lemmas.Bool.{and_parts, or_cases, or_parts, not-true, ltb-true, ltb-false, le-ltb, eqb-false, true≢false}
use Rattle.std.proofs.lemmas.List.Elements.{All-from_recursion}
use Rattle.std.proofs.lemmas.List.Splits.{slice_split_none, slice_split_at, join_with_byte-slice_split}
use Rattle.grd_base.specs.declared.limits.Bound.TheVariants.{Steps as AtMost, Never}
use Rattle.cert_text.specs.Lines.{Line, Head, HeadTwo, Counts, GoalCost, Plan, Table, Cuts, Set, Steps, End, Verdict, Wcd, Prefix, Live, Design, Remove, Named, Tree, Branch, Leaf, LeafUse, Done, Word, Key, Number, words_of, word_text, numeral, line_bytes, Spells, IsInRange, IsOverRange, IsGood, IsOfNoKind, HoldsOverRange}
use Rattle.cert_text.specs.Reading.{words, read_words, value_of, is_over_range}
use Rattle.cert_text.proofs.Numerals.{no_space-numeral, within-numeral, is_numeral-numeral, value_of-numeral}
use Rattle.cert_text.specs.Streams.{IsWithinLine}
use Rattle.cert_text.proofs.Streaming.{within-append}
use Rattle.cert_text.proofs.Capped.{capped, capped_same}
use Rattle.cert_text.proofs.Complete.{words_give}
use Rattle.cert_text.proofs.Sound.{words_come}

-- ---- words without spaces

abbrev NoSpace : List ℕ → Type 0
NoSpace text = AllByRecursion (λ b. (b == 32) ≡ false) text

words_of_join : (w : List ℕ) (ws : List (List ℕ)) → AllByRecursion NoSpace (w ∷ ws) → words (join_with_byte 32 (w ∷ ws)) ≡ w ∷ ws
words_of_join w [] h = slice_split_none (λ b. b == 32) w (All-from_recursion (λ b. (b == 32) ≡ false) w h.0)
words_of_join w (v ∷ ws) h =
    slice_split_at (λ b. b == 32) w 32 (join_with_byte 32 (v ∷ ws)) (All-from_recursion (λ b. (b == 32) ≡ false) w h.0) refl
    ∙ ap (λ t. w ∷ t) (words_of_join v ws h.1)

-- a byte that is neither a space nor a line feed
abbrev is_inner : ℕ → Bool
is_inner b = not (b == 32) && not (b == 10)

-- a word that the kind gives has only such bytes and is no number over the range
abbrev is_plain : List ℕ → Bool
is_plain text = list_all is_inner text && not (is_over_range text)

abbrev IsPlain : Word → Type 0
IsPlain (Key text) = is_plain text ≡ true
IsPlain (Number n) = Unit {0}

plain_numbers : (ns : List ℕ) → AllByRecursion IsPlain (map Number ns)
plain_numbers [] = tt
plain_numbers (n ∷ ns) = (tt, plain_numbers ns)

plain_join : (ns : List ℕ) (w : Word) (ws : List Word) → IsPlain w → AllByRecursion IsPlain ws → AllByRecursion IsPlain (map Number ns ++ w ∷ ws)
plain_join [] w ws h more = (h, more)
plain_join (n ∷ ns) w ws h more = (tt, plain_join ns w ws h more)

plain_words : (l : Line) → AllByRecursion IsPlain (words_of l)
unfolding value_of
plain_words Head = (refl, (refl, (refl, tt)))
plain_words HeadTwo = (refl, (refl, (refl, tt)))
plain_words (Counts a b c d e) = (refl, (tt, (tt, (tt, (tt, (tt, tt))))))
plain_words (GoalCost g None) = (refl, (tt, (refl, (refl, tt))))
plain_words (GoalCost g (Some c)) = (refl, (tt, (refl, (tt, tt))))
plain_words (Plan ns) = (refl, plain_numbers ns)
plain_words Table = (refl, tt)
plain_words (Cuts Never ns) = (refl, (refl, (refl, plain_numbers ns)))
plain_words (Cuts (AtMost n) ns) = (refl, (tt, (refl, plain_numbers ns)))
plain_words (Set ns) = (refl, plain_numbers ns)
plain_words (Steps Never ns) = (refl, (refl, (refl, plain_numbers ns)))
plain_words (Steps (AtMost n) ns) = (refl, (tt, (refl, plain_numbers ns)))
plain_words End = (refl, tt)
plain_words (Verdict g true) = (refl, (tt, (refl, tt)))
plain_words (Verdict g false) = (refl, (tt, (refl, tt)))
plain_words (Wcd None) = (refl, (refl, tt))
plain_words (Wcd (Some w)) = (refl, (tt, (refl, (tt, (tt, tt)))))
plain_words (Prefix ns) = (refl, plain_numbers ns)
plain_words (Live d gs ns) = (refl, (tt, (refl, plain_join gs (Key (codes "state")) (map Number ns) refl (plain_numbers ns))))
plain_words (Design m None) = (refl, (tt, (refl, (refl, tt))))
plain_words (Design m (Some w)) = (refl, (tt, (refl, (tt, tt))))
plain_words (Remove ns) = (refl, plain_numbers ns)
plain_words (Named n g ns) = (refl, (tt, (refl, (tt, (refl, plain_numbers ns)))))
plain_words (Tree m t) = (refl, (tt, (tt, tt)))
plain_words (Branch i j) = (refl, (tt, (tt, tt)))
plain_words (Leaf g) = (refl, (tt, tt))
plain_words (LeafUse g n) = (refl, (tt, (refl, (tt, tt))))
plain_words Done = (refl, tt)

-- a line has a first word
record Begins (l : Line) : Type 0 where
  first : Word
  others : List Word
  whole : words_of l ≡ first ∷ others

begins : (l : Line) → Begins l
begins Head = record { first = _; others = _; whole = refl }
begins HeadTwo = record { first = _; others = _; whole = refl }
begins (Counts a b c d e) = record { first = _; others = _; whole = refl }
begins (GoalCost g c) = record { first = _; others = _; whole = refl }
begins (Plan ns) = record { first = _; others = _; whole = refl }
begins Table = record { first = _; others = _; whole = refl }
begins (Cuts b ns) = record { first = _; others = _; whole = refl }
begins (Set ns) = record { first = _; others = _; whole = refl }
begins (Steps b ns) = record { first = _; others = _; whole = refl }
begins End = record { first = _; others = _; whole = refl }
begins (Verdict g r) = record { first = _; others = _; whole = refl }
begins (Wcd w) = record { first = _; others = _; whole = refl }
begins (Prefix ns) = record { first = _; others = _; whole = refl }
begins (Live d gs ns) = record { first = _; others = _; whole = refl }
begins (Design m w) = record { first = _; others = _; whole = refl }
begins (Remove ns) = record { first = _; others = _; whole = refl }
begins (Named n g ns) = record { first = _; others = _; whole = refl }
begins (Tree m t) = record { first = _; others = _; whole = refl }
begins (Branch i j) = record { first = _; others = _; whole = refl }
begins (Leaf g) = record { first = _; others = _; whole = refl }
begins (LeafUse g n) = record { first = _; others = _; whole = refl }
begins Done = record { first = _; others = _; whole = refl }

list_no_space : (text : List ℕ) → list_all is_inner text ≡ true → NoSpace text
list_no_space [] e = tt
list_no_space (b ∷ text) e =
    let parts = and_parts (is_inner b) (list_all is_inner text) e in
    (not-true (b == 32) (and_parts (not (b == 32)) (not (b == 10)) parts.0).0, list_no_space text parts.1)

list_within : (text : List ℕ) → list_all is_inner text ≡ true → IsWithinLine text
list_within [] e = tt
list_within (b ∷ text) e =
    let parts = and_parts (is_inner b) (list_all is_inner text) e in
    (eqb-false b 10 (not-true (b == 10) (and_parts (not (b == 32)) (not (b == 10)) parts.0).1), list_within text parts.1)

word_within : (w : Word) → IsPlain w → IsWithinLine (word_text w)
word_within (Key text) h = list_within text (and_parts (list_all is_inner text) (not (is_over_range text)) h).0
word_within (Number n) h = within-numeral n

join_within : (ws : List Word) → AllByRecursion IsPlain ws → IsWithinLine (join_with_byte 32 (map word_text ws))
join_within [] h = tt
join_within (w ∷ []) h = word_within w h.0
join_within (w ∷ v ∷ ws) h =
    within-append (word_text w) (32 ∷ join_with_byte 32 (map word_text (v ∷ ws))) (word_within w h.0) ((λ same. omega arith), join_within (v ∷ ws) h.1)

-- a line has no line feed of its own
pub line_within : (l : Line) → IsWithinLine (line_bytes l)
unfolding line_bytes
line_within l = join_within (words_of l) (plain_words l)

word_no_space : (w : Word) → IsPlain w → NoSpace (word_text w)
word_no_space (Key text) h = list_no_space text (and_parts (list_all is_inner text) (not (is_over_range text)) h).0
word_no_space (Number n) h = no_space-numeral n

words_no_space : (ws : List Word) → AllByRecursion IsPlain ws → AllByRecursion NoSpace (map word_text ws)
words_no_space [] h = tt
words_no_space (w ∷ ws) h = (word_no_space w h.0, words_no_space ws h.1)

pub words-line_bytes : (l : Line) → words (line_bytes l) ≡ map word_text (words_of l)
unfolding line_bytes
words-line_bytes l =
    let b = begins l in
    let plain : AllByRecursion IsPlain (b.first ∷ b.others) = subst (AllByRecursion IsPlain) b.whole (plain_words l) in
    ap (λ ws. words (join_with_byte 32 (map word_text ws))) b.whole
    ∙ words_of_join (word_text b.first) (map word_text b.others) (words_no_space (b.first ∷ b.others) plain)
    ∙ sym (ap (map word_text) b.whole)

line_bytes-words : (bytes : List ℕ) (l : Line) → words bytes ≡ map word_text (words_of l) → bytes ≡ line_bytes l
unfolding line_bytes
line_bytes-words bytes l e = sym (join_with_byte-slice_split 32 bytes) ∙ ap (join_with_byte 32) e

-- ---- numbers over the range

over_numeral : (n : ℕ) → is_over_range (numeral n) ≡ nat_lt (2 ^ 32 - 1) n
over_numeral n = rw (is_numeral-numeral n, value_of-numeral n) refl

over_word : (w : Word) → IsPlain w → is_over_range (word_text w) ≡ true → IsOverRange w
over_word (Key text) h e =
    true≢false (sym e ∙ not-true (is_over_range text) (and_parts (list_all is_inner text) (not (is_over_range text)) h).1)
over_word (Number n) h e = let above : 2 ^ 32 - 1 < n = ltb-true _ n (sym (over_numeral n) ∙ e) in omega arith

in_range_word : (w : Word) → is_over_range (word_text w) ≡ false → IsInRange w
in_range_word (Key text) e = tt
in_range_word (Number n) e = let within : n ≤ 2 ^ 32 - 1 = ltb-false _ n (sym (over_numeral n) ∙ e) in omega arith

some_over : (ws : List Word) → AllByRecursion IsPlain ws → list_any is_over_range (map word_text ws) ≡ true → Any IsOverRange ws
some_over [] h e = absurd cc
some_over (w ∷ ws) h e = by_cases (or_cases (is_over_range (word_text w)) (list_any is_over_range (map word_text ws)) e) (some_over ws h.1)
  where
    by_cases : ((is_over_range (word_text w) ≡ true) ⊎ (list_any is_over_range (map word_text ws) ≡ true))
        → (list_any is_over_range (map word_text ws) ≡ true → Any IsOverRange ws) → Any IsOverRange (w ∷ ws)
    by_cases (inl here) again = (0, w, omega arith, refl, over_word w h.0 here)
    by_cases (inr there) again = let found = again there in (suc found.0, found.1, omega (arith, found.2), found.3, found.4)

none_over : (ws : List Word) → list_any is_over_range (map word_text ws) ≡ false → AllByRecursion IsInRange ws
none_over [] e = tt
none_over (w ∷ ws) e =
    let parts = or_parts (is_over_range (word_text w)) (list_any is_over_range (map word_text ws)) e in
    (in_range_word w parts.0, none_over ws parts.1)

in_range_back : (w : Word) → IsPlain w → IsInRange w → is_over_range (word_text w) ≡ false
in_range_back (Key text) h range = not-true (is_over_range text) (and_parts (list_all is_inner text) (not (is_over_range text)) h).1
in_range_back (Number n) h range = over_numeral n ∙ le-ltb (2 ^ 32 - 1) n (omega arith)

none_in_range : (ws : List Word) → AllByRecursion IsPlain ws → AllByRecursion IsInRange ws → list_any is_over_range (map word_text ws) ≡ false
none_in_range [] h range = refl
none_in_range (w ∷ ws) h range = rw (in_range_back w h.0 range.0) (none_in_range ws h.1 range.1)

apart : (w : Word) → IsInRange w → IsOverRange w → ⊥
apart (Key text) range over = over
apart (Number n) range over = omega arith

not_both_words : (ws : List Word) → AllByRecursion IsInRange ws → Any IsOverRange ws → ⊥
not_both_words ws range over =
    let there = All-from_recursion IsInRange ws range over.0 over.1 over.2 in
    apart over.1 (subst IsInRange over.3 there) over.4

-- ---- the laws of a line's bytes

pub of_no_kind : (bytes : List ℕ) → read_words (words bytes) ≡ None → IsOfNoKind bytes
of_no_kind bytes e = λ l s.
    let same : words bytes ≡ map word_text (words_of l) = ap words s.text ∙ words-line_bytes l in
    let found : read_words (words bytes) ≡ Some (capped l) = ap read_words same ∙ words_give l s.has_goals in
    absurd cc

pub over_range : (bytes : List ℕ) (r : Line) → read_words (words bytes) ≡ Some r → list_any is_over_range (words bytes) ≡ true → HoldsOverRange bytes
over_range bytes r e over =
    let c = words_come (words bytes) r e in
    record {
      line = c.line;
      spelled = record { text = line_bytes-words bytes c.line c.words_are; has_goals = c.has_goals };
      over = some_over (words_of c.line) (plain_words c.line) (sym (ap (list_any is_over_range) c.words_are) ∙ over);
    }

pub good_line : (bytes : List ℕ) (r : Line) → read_words (words bytes) ≡ Some r → list_any is_over_range (words bytes) ≡ false → Spells bytes r × IsGood r
good_line bytes r e over =
    let c = words_come (words bytes) r e in
    let range = none_over (words_of c.line) (sym (ap (list_any is_over_range) c.words_are) ∙ over) in
    let same : c.line ≡ r = sym (c.is ∙ capped_same c.line range) in
    let P : Line → Type 0 = λ l. Spells bytes l × IsGood l in
    subst P same (record { text = line_bytes-words bytes c.line c.words_are; has_goals = c.has_goals }, record { has_goals = c.has_goals; in_range = range })

-- two good lines of the same bytes are one
pub one_line : (l m : Line) → IsGood l → IsGood m → line_bytes l ≡ line_bytes m → l ≡ m
one_line l m good other e =
    let same : map word_text (words_of l) ≡ map word_text (words_of m) = sym (words-line_bytes l) ∙ ap words e ∙ words-line_bytes m in
    let found : Some (capped l) ≡ Some (capped m) = sym (words_give l good.has_goals) ∙ ap read_words same ∙ words_give m other.has_goals in
    let caps : capped l ≡ capped m = cc in
    sym (capped_same l good.in_range) ∙ caps ∙ capped_same m other.in_range

-- the bytes of a good line hold no number over the range
pub not_both : (bytes : List ℕ) (l : Line) → bytes ≡ line_bytes l → IsGood l → HoldsOverRange bytes → ⊥
not_both bytes l e good over =
    let same : map word_text (words_of over.line) ≡ map word_text (words_of l) =
    sym (words-line_bytes over.line) ∙ ap words (sym over.spelled.text ∙ e) ∙ words-line_bytes l in
    not_both_words (words_of over.line) (none_over (words_of over.line) (ap (list_any is_over_range) same ∙ none_over_here)) over.over
  where
    none_over_here : list_any is_over_range (map word_text (words_of l)) ≡ false
    none_over_here = none_in_range (words_of l) (plain_words l) good.in_range
