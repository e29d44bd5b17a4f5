-- The words of a line, from its front.
use Rattle.std.proofs.Common.{◌≡◌, ℕ, ◌+◌, ◌<◌, Bool, true, false, cond, List, [], ◌∷◌, ◌++◌, length, take, drop, refl, sym, ap, ◌∙◌, arith, one-add, Option, Some, None, append_assoc}
use Rattle.std.specs.Prelude.{◌==◌, not, ◌||◌}
use Rattle.std.specs.List.{prefix_len, onto_first, list_any}
use Rattle.std.specs.Option.{option_map}
use Rattle.std.specs.Str.{bytes_eq}
use Rattle.std.proofs.lemmas.List.{append-nil}
use Rattle.cert_text.specs.Lines.{Line}
use Rattle.cert_text.specs.Reading.{words, words_left, is_no_space, ends_with, next_word, number_of, all_numbers, numbers_up_to, is_over_range, ◌>>=◌}

-- the first word, and the words behind it
pub words_front : (bytes : List ℕ) → words bytes ≡ take (prefix_len is_no_space bytes) bytes ∷ words_left (drop (prefix_len is_no_space bytes) bytes)
words_front [] = refl
words_front (b ∷ bytes) = by_test (b == 32) refl (words_front bytes)
  where
    by_test : (t : Bool) → (b == 32) ≡ t → words bytes ≡ take (prefix_len is_no_space bytes) bytes ∷ words_left (drop (prefix_len is_no_space bytes) bytes)
        → cond t ([] ∷ words bytes) (onto_first b (words bytes)) ≡ take (cond (not t) (1 + prefix_len is_no_space bytes) 0) (b ∷ bytes) ∷ words_left (drop (cond (not t) (1 + prefix_len is_no_space bytes) 0) (b ∷ bytes))
    by_test true e more = refl
    by_test false e more = rw one-add (ap (onto_first b) more)

-- a line has a word
pub words_some : (bytes : List ℕ) (l : Line) → ends_with (words bytes) l ≡ None
words_some bytes l = ap (λ ws. ends_with ws l) (words_front bytes)

pub ends_with_some : (rest : List ℕ) (l : Line) → 0 < length rest → ends_with (words_left rest) l ≡ None
ends_with_some [] l h = absurd (omega arith)
ends_with_some (b ∷ bytes) l h = words_some bytes l

-- ---- the next word

again : Option (List ℕ × List (List ℕ)) → List (List ℕ)
again None = []
again (Some x) = x.0 ∷ x.1

pub next_word_some : (ws behind : List (List ℕ)) (w : List ℕ) → Some (w, behind) ≡ next_word ws → ws ≡ w ∷ behind
unfolding again
next_word_some [] behind w e = absurd cc
next_word_some (v ∷ vs) behind w e = ap again (sym e)

pub next_word_none : (ws : List (List ℕ)) → None ≡ next_word ws → ws ≡ []
next_word_none [] e = refl
next_word_none (v ∷ vs) e = absurd cc

-- ---- numbers alone

numbers_step : (front : List ℕ) (o : Option ℕ) (n : ℕ) (tail : Option (List ℕ)) → o ≡ Some n
    → option_map (λ ns. front ++ ns) (o >>= λ m. option_map (λ ns. m ∷ ns) tail) ≡ option_map (λ ns. (front ++ n ∷ []) ++ ns) tail
numbers_step front o n None e = rw e refl
numbers_step front o n (Some ns) e = rw e (ap Some (sym (append_assoc front (n ∷ []) ns)))

pub all_numbers_more : (front : List ℕ) (ws behind : List (List ℕ)) (w : List ℕ) (n : ℕ) (all : Option (List ℕ))
    → Some (w, behind) ≡ next_word ws → Some n ≡ number_of w
    → option_map (λ ns. front ++ ns) (all_numbers ws) ≡ all → option_map (λ ns. (front ++ n ∷ []) ++ ns) (all_numbers behind) ≡ all
all_numbers_more front ws behind w n all next number h =
    sym (ap (λ v. option_map (λ ns. front ++ ns) (all_numbers v)) (next_word_some ws behind w next) ∙ numbers_step front (number_of w) n (all_numbers behind) (sym number)) ∙ h

pub all_numbers_stop : (front : List ℕ) (ws behind : List (List ℕ)) (w : List ℕ) (all : Option (List ℕ))
    → Some (w, behind) ≡ next_word ws → None ≡ number_of w
    → option_map (λ ns. front ++ ns) (all_numbers ws) ≡ all → None ≡ all
all_numbers_stop front ws behind w all next number h =
    sym (ap (λ v. option_map (λ ns. front ++ ns) (all_numbers v)) (next_word_some ws behind w next)
    ∙ ap (λ o. option_map (λ ns. front ++ ns) (o >>= λ m. option_map (λ ns. m ∷ ns) (all_numbers behind))) (sym number)) ∙ h

pub all_numbers_end : (front : List ℕ) (ws : List (List ℕ)) (all : Option (List ℕ)) → None ≡ next_word ws
    → option_map (λ ns. front ++ ns) (all_numbers ws) ≡ all → Some front ≡ all
all_numbers_end front ws all next h =
    ap Some (sym (append-nil front)) ∙ sym (ap (λ v. option_map (λ ns. front ++ ns) (all_numbers v)) (next_word_none ws next)) ∙ h

-- ---- numbers up to a word

abbrev pub Found : Type 0
Found = List ℕ × List (List ℕ)

abbrev pub with_front : List ℕ → Option Found → Option Found
with_front front found = option_map (λ x. (front ++ x.0, x.1)) found

up_to_step : (front : List ℕ) (o : Option ℕ) (n : ℕ) (tail : Option Found) → o ≡ Some n
    → with_front front (o >>= λ m. option_map (λ found. (m ∷ found.0, found.1)) tail) ≡ with_front (front ++ n ∷ []) tail
up_to_step front o n None e = rw e refl
up_to_step front o n (Some x) e = rw e (ap (λ ns. Some (ns, x.1)) (sym (append_assoc front (n ∷ []) x.0)))

pub up_to_more : (text front : List ℕ) (ws behind : List (List ℕ)) (w : List ℕ) (n : ℕ) (all : Option Found)
    → Some (w, behind) ≡ next_word ws → bytes_eq w text ≡ false → Some n ≡ number_of w
    → with_front front (numbers_up_to text ws) ≡ all → with_front (front ++ n ∷ []) (numbers_up_to text behind) ≡ all
up_to_more text front ws behind w n all next other number h =
    sym (ap (λ v. with_front front (numbers_up_to text v)) (next_word_some ws behind w next)
    ∙ ap (λ t. with_front front (cond t (Some ([], behind)) (number_of w >>= λ m. option_map (λ found. (m ∷ found.0, found.1)) (numbers_up_to text behind)))) other
    ∙ up_to_step front (number_of w) n (numbers_up_to text behind) (sym number)) ∙ h

pub up_to_stop : (text front : List ℕ) (ws behind : List (List ℕ)) (w : List ℕ) (all : Option Found)
    → Some (w, behind) ≡ next_word ws → bytes_eq w text ≡ false → None ≡ number_of w
    → with_front front (numbers_up_to text ws) ≡ all → None ≡ all
up_to_stop text front ws behind w all next other number h =
    sym (ap (λ v. with_front front (numbers_up_to text v)) (next_word_some ws behind w next)
    ∙ ap (λ t. with_front front (cond t (Some ([], behind)) (number_of w >>= λ m. option_map (λ found. (m ∷ found.0, found.1)) (numbers_up_to text behind)))) other
    ∙ ap (λ o. with_front front (o >>= λ m. option_map (λ found. (m ∷ found.0, found.1)) (numbers_up_to text behind))) (sym number)) ∙ h

pub up_to_found : (text front : List ℕ) (ws behind : List (List ℕ)) (w : List ℕ) (all : Option Found)
    → Some (w, behind) ≡ next_word ws → bytes_eq w text ≡ true
    → with_front front (numbers_up_to text ws) ≡ all → Some (front, behind) ≡ all
up_to_found text front ws behind w all next same h =
    ap (λ ns. Some (ns, behind)) (sym (append-nil front))
    ∙ sym (ap (λ v. with_front front (numbers_up_to text v)) (next_word_some ws behind w next)
    ∙ ap (λ t. with_front front (cond t (Some ([], behind)) (number_of w >>= λ m. option_map (λ found. (m ∷ found.0, found.1)) (numbers_up_to text behind)))) same) ∙ h

pub up_to_end : (text front : List ℕ) (ws : List (List ℕ)) (all : Option Found) → None ≡ next_word ws
    → with_front front (numbers_up_to text ws) ≡ all → None ≡ all
up_to_end text front ws all next h = sym (ap (λ v. with_front front (numbers_up_to text v)) (next_word_none ws next)) ∙ h

-- ---- a word over the range

pub over_more : (ws behind : List (List ℕ)) (w : List ℕ) (all : Bool) → Some (w, behind) ≡ next_word ws → is_over_range w ≡ false
    → list_any is_over_range ws ≡ all → list_any is_over_range behind ≡ all
over_more ws behind w all next other h =
    sym (ap (list_any is_over_range) (next_word_some ws behind w next) ∙ ap (λ t. t || list_any is_over_range behind) other) ∙ h

pub over_found : (ws behind : List (List ℕ)) (w : List ℕ) (all : Bool) → Some (w, behind) ≡ next_word ws → is_over_range w ≡ true
    → list_any is_over_range ws ≡ all → true ≡ all
over_found ws behind w all next other h =
    sym (ap (list_any is_over_range) (next_word_some ws behind w next) ∙ ap (λ t. t || list_any is_over_range behind) other) ∙ h

pub over_end : (ws : List (List ℕ)) (all : Bool) → None ≡ next_word ws → list_any is_over_range ws ≡ all → false ≡ all
over_end ws all next h = sym (ap (list_any is_over_range) (next_word_none ws next)) ∙ h
