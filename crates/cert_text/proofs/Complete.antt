-- The words of a line give the line.
use Rattle.std.proofs.Common.{◌≡◌, ℕ, ◌-◌, ◌^◌, true, false, List, [], ◌∷◌, ◌++◌, map, refl, sym, ap, ◌∙◌, arith, Some, None}
use Rattle.std.specs.Prelude.{codes}
use Rattle.std.specs.Str.{bytes_eq}
use Rattle.std.proofs.lemmas.Bool.{false_from_ne_true, true≢false}
use Rattle.std.proofs.lemmas.Slice.Eq.{bytes_eq-Decides}
use Rattle.grd_base.specs.declared.limits.Bound.TheVariants.{Steps as AtMost, Never}
use Rattle.cert_text.specs.Lines.{Line, Head, HeadTwo, Counts, GoalCost, Plan, Table, Cuts, Set, Steps, End, Verdict, Wcd, Prefix, Live, Design, Remove, Named, Tree, Branch, Leaf, LeafUse, Done, Word, Key, Number, words_of, word_text, numeral, HasItsGoals}
use Rattle.cert_text.specs.Reading.{read_words, number_of, is_numeral, all_numbers, numbers_up_to}
use Rattle.cert_text.proofs.Numerals.{number_up_to-numeral, is_numeral-numeral}
use Rattle.cert_text.proofs.Capped.{cap, caps, capped}

pub number_of-numeral : (n : ℕ) → number_of (numeral n) ≡ Some (cap n)
number_of-numeral n = number_up_to-numeral (2 ^ 32 - 1) n

-- a word that is no numeral is not the numeral of a number
pub not_numeral : (n : ℕ) (text : List ℕ) → is_numeral text ≡ false → bytes_eq (numeral n) text ≡ false
not_numeral n text e = false_from_ne_true (bytes_eq (numeral n) text) λ same.
    true≢false (sym (is_numeral-numeral n) ∙ ap is_numeral ((bytes_eq-Decides (numeral n) text).0 same) ∙ e)

number_words : List ℕ → List (List ℕ)
number_words ns = map word_text (map Number ns)

all_numbers-words : (ns : List ℕ) → all_numbers (map word_text (map Number ns)) ≡ Some (caps ns)
all_numbers-words [] = refl
all_numbers-words (n ∷ ns) = rw (number_of-numeral n, all_numbers-words ns) refl

up_to-words : (ns : List ℕ) (ws : List Word) → numbers_up_to (codes "state") (map word_text (map Number ns ++ Key (codes "state") ∷ ws)) ≡ Some (caps ns, map word_text ws)
up_to-words [] ws = refl
up_to-words (n ∷ ns) ws = rw (not_numeral n (codes "state") refl, number_of-numeral n, up_to-words ns ws) refl

pub words_give : (l : Line) → HasItsGoals l → read_words (map word_text (words_of l)) ≡ Some (capped l)
words_give Head h = refl
words_give HeadTwo h = refl
words_give (Counts a b c d e) h = rw (number_of-numeral a, number_of-numeral b, number_of-numeral c, number_of-numeral d, number_of-numeral e) refl
words_give (GoalCost g None) h = rw (number_of-numeral g) refl
words_give (GoalCost g (Some c)) h = rw (number_of-numeral g, not_numeral c (codes "none") refl, number_of-numeral c) refl
words_give (Plan ns) h = rw (all_numbers-words ns) refl
words_give Table h = refl
words_give (Cuts Never ns) h = rw (all_numbers-words ns) refl
words_give (Cuts (AtMost n) ns) h = rw (not_numeral n (codes "never") refl, number_of-numeral n, all_numbers-words ns) refl
words_give (Set ns) h = rw (all_numbers-words ns) refl
words_give (Steps Never ns) h = rw (all_numbers-words ns) refl
words_give (Steps (AtMost n) ns) h = rw (not_numeral n (codes "never") refl, number_of-numeral n, all_numbers-words ns) refl
words_give End h = refl
words_give (Verdict g true) h = rw (number_of-numeral g) refl
words_give (Verdict g false) h = rw (number_of-numeral g) refl
words_give (Wcd None) h = refl
words_give (Wcd (Some w)) h = rw (not_numeral w.0 (codes "none") refl, number_of-numeral w.0, number_of-numeral w.1, number_of-numeral w.2) refl
words_give (Prefix ns) h = rw (all_numbers-words ns) refl
words_give (Live d [] ns) h = absurd (omega arith)
words_give (Live d (g ∷ gs) ns) h = rw (number_of-numeral d, up_to-words (g ∷ gs) (map Number ns), all_numbers-words ns) refl
words_give (Design m None) h = rw (number_of-numeral m) refl
words_give (Design m (Some w)) h = rw (number_of-numeral m, not_numeral w (codes "none") refl, number_of-numeral w) refl
words_give (Remove ns) h = rw (all_numbers-words ns) refl
words_give (Named n g ns) h = rw (number_of-numeral n, number_of-numeral g, all_numbers-words ns) refl
words_give (Tree m t) h = rw (number_of-numeral m, number_of-numeral t) refl
words_give (Branch i j) h = rw (number_of-numeral i, number_of-numeral j) refl
words_give (Leaf g) h = rw (number_of-numeral g) refl
words_give (LeafUse g n) h = rw (number_of-numeral g, number_of-numeral n) refl
words_give Done h = refl
