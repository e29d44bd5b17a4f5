-- The text of a line, word by word.
use Rattle.std.proofs.Common.{◌≡◌, ℕ, zero, suc, ◌+◌, ◌^◌, ◌<◌, ◌≤◌, List, [], ◌∷◌, ◌++◌, length, take, get_or, map, refl, sym, ap, ◌∙◌, arith, append_assoc}
use Rattle.std.specs.List.{join_with_byte}
use Rattle.std.specs.Fmt.{decimal}
use Rattle.std.proofs.lemmas.List.{append-nil, take_more, take_all, map-append}
use Rattle.std.proofs.lemmas.Fmt.{decimal-digits_of, decimal_digit}
use Rattle.cert_text.specs.Lines.{Plan, Set, Prefix, Remove, Cuts, Steps, Named, Live, Head, HeadTwo, Table, End, Wcd, Done, Word, Key, Number, word_text, bound_word, numeral, line_bytes, spaced}
use Rattle.grd_base.specs.declared.limits.Bound.{Bound}
use Rattle.std.specs.Prelude.{codes, None}

-- what `{}` writes for a number is its numeral
pub decimal_is : (n : ℕ) → n < 2 ^ 64 → decimal n ≡ numeral n
unfolding numeral
decimal_is zero h = decimal_digit 0 (omega arith)
decimal_is (suc n) h = decimal-digits_of (suc n) (omega arith) h

-- one text behind the other
pub chained : (a b c : List ℕ) → (a ++ b) ++ c ≡ a ++ (b ++ c)
chained a b c = append_assoc a b c

-- words behind the first are each behind a space
pub join_spaced : (text : List ℕ) (ws : List Word) → join_with_byte 32 (map word_text (Key text ∷ ws)) ≡ text ++ spaced ws
join_spaced text [] = sym (append-nil text)
join_spaced text (w ∷ ws) = ap (λ t. text ++ 32 ∷ t) (joined w ws)
  where
    joined : (w : Word) (ws : List Word) → join_with_byte 32 (map word_text (w ∷ ws)) ≡ word_text w ++ spaced ws
    joined w [] = sym (append-nil (word_text w))
    joined w (v ∷ ws) = ap (λ t. word_text w ++ 32 ∷ t) (joined v ws)

spaced-append : (vs ws : List Word) → spaced (vs ++ ws) ≡ spaced vs ++ spaced ws
spaced-append [] ws = refl
spaced-append (v ∷ vs) ws = ap (λ t. 32 ∷ t) (ap (λ t. word_text v ++ t) (spaced-append vs ws) ∙ sym (append_assoc (word_text v) (spaced vs) (spaced ws)))

-- a number more
pub spaced_more : (start out : List ℕ) (ns : List ℕ) (i n : ℕ) → out ≡ start ++ spaced (map Number (take i ns)) → i < length ns → n ≡ get_or ns i 0
    → out ++ 32 ∷ numeral n ≡ start ++ spaced (map Number (take (i + 1) ns))
spaced_more start out ns i n e h f =
    ap (λ t. t ++ 32 ∷ numeral n) e ∙ append_assoc start (spaced (map Number (take i ns))) (32 ∷ numeral n)
    ∙ ap (λ t. start ++ t)
    (ap (λ m. spaced (map Number (take i ns)) ++ 32 ∷ numeral m) f
    ∙ ap (λ t. spaced (map Number (take i ns)) ++ 32 ∷ t) (sym (append-nil (numeral (get_or ns i 0))))
    ∙ sym (ap (λ t. spaced (map Number t)) (take_more ns i 0 h) ∙ ap spaced (map-append Number (take i ns) (get_or ns i 0 ∷ [])) ∙ spaced-append (map Number (take i ns)) (Number (get_or ns i 0) ∷ [])))

pub spaced_all : (start out : List ℕ) (ns : List ℕ) (i : ℕ) → out ≡ start ++ spaced (map Number (take i ns)) → length ns ≤ i
    → out ≡ start ++ spaced (map Number ns)
spaced_all start out ns i e h = e ∙ ap (λ t. start ++ spaced (map Number t)) (take_all i ns h)

-- ---- the kinds that end with numbers, and those of fixed words

pub plan_bytes : (ns : List ℕ) → line_bytes (Plan ns) ≡ codes "plan" ++ spaced (map Number ns)
unfolding line_bytes
plan_bytes ns = join_spaced (codes "plan") (map Number ns)

pub set_bytes : (ns : List ℕ) → line_bytes (Set ns) ≡ codes "set" ++ spaced (map Number ns)
unfolding line_bytes
set_bytes ns = join_spaced (codes "set") (map Number ns)

pub prefix_bytes : (ns : List ℕ) → line_bytes (Prefix ns) ≡ codes "prefix" ++ spaced (map Number ns)
unfolding line_bytes
prefix_bytes ns = join_spaced (codes "prefix") (map Number ns)

pub remove_bytes : (ns : List ℕ) → line_bytes (Remove ns) ≡ codes "remove" ++ spaced (map Number ns)
unfolding line_bytes
remove_bytes ns = join_spaced (codes "remove") (map Number ns)

pub cuts_bytes : (b : Bound) (ns : List ℕ) → line_bytes (Cuts b ns) ≡ codes "cuts" ++ 32 ∷ (word_text (bound_word b) ++ 32 ∷ (codes "state" ++ spaced (map Number ns)))
unfolding line_bytes
cuts_bytes b ns = join_spaced (codes "cuts") (bound_word b ∷ Key (codes "state") ∷ map Number ns)

pub steps_bytes : (b : Bound) (ns : List ℕ) → line_bytes (Steps b ns) ≡ codes "steps" ++ 32 ∷ (word_text (bound_word b) ++ 32 ∷ (codes "state" ++ spaced (map Number ns)))
unfolding line_bytes
steps_bytes b ns = join_spaced (codes "steps") (bound_word b ∷ Key (codes "state") ∷ map Number ns)

pub named_bytes : (n g : ℕ) (ns : List ℕ) → line_bytes (Named n g ns)
    ≡ codes "named" ++ 32 ∷ (numeral n ++ 32 ∷ (codes "goal" ++ 32 ∷ (numeral g ++ 32 ∷ (codes "without" ++ spaced (map Number ns)))))
unfolding line_bytes
named_bytes n g ns = join_spaced (codes "named") (Number n ∷ Key (codes "goal") ∷ Number g ∷ Key (codes "without") ∷ map Number ns)

pub live_bytes : (d : ℕ) (gs ns : List ℕ) → line_bytes (Live d gs ns)
    ≡ codes "live" ++ 32 ∷ (numeral d ++ 32 ∷ (codes "goals" ++ (spaced (map Number gs) ++ 32 ∷ (codes "state" ++ spaced (map Number ns)))))
unfolding line_bytes
live_bytes d gs ns =
    join_spaced (codes "live") (Number d ∷ Key (codes "goals") ∷ (map Number gs ++ Key (codes "state") ∷ map Number ns))
    ∙ ap (λ t. codes "live" ++ 32 ∷ (numeral d ++ 32 ∷ (codes "goals" ++ t))) (spaced-append (map Number gs) (Key (codes "state") ∷ map Number ns))

pub head_bytes : line_bytes Head ≡ codes "grd certificate 1"
unfolding line_bytes
head_bytes = refl

pub head_two_bytes : line_bytes HeadTwo ≡ codes "grd certificate 2"
unfolding line_bytes
head_two_bytes = refl

pub table_bytes : line_bytes Table ≡ codes "table"
unfolding line_bytes
table_bytes = refl

pub end_bytes : line_bytes End ≡ codes "end"
unfolding line_bytes
end_bytes = refl

pub no_wcd_bytes : line_bytes (Wcd None) ≡ codes "wcd none"
unfolding line_bytes
no_wcd_bytes = refl

pub done_bytes : line_bytes Done ≡ codes "done"
unfolding line_bytes
done_bytes = refl
