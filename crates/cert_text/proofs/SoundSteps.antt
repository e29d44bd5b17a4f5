-- What the next words are, where they give something.
use Rattle.std.proofs.Common.{◌≡◌, ℕ, ◌-◌, ◌^◌, Bool, true, false, cond, List, [], ◌∷◌, ◌++◌, map, refl, sym, ap, ◌∙◌, subst, Option, Some, None, ◌⊎◌, inl, inr}
use Rattle.std.specs.Option.{option_map}
use Rattle.std.specs.Str.{bytes_eq}
use Rattle.std.proofs.lemmas.Slice.Eq.{bytes_eq-Decides}
use Rattle.cert_text.specs.Lines.{Line, Number, word_text, numeral}
use Rattle.cert_text.specs.Reading.{number_of, all_numbers, numbers_up_to, next_word, next_number, next_number_or, next_key, ends_with, ◌>>=◌}
use Rattle.cert_text.proofs.Numerals.{number_up_to_some}
use Rattle.cert_text.proofs.Capped.{cap, caps, cap_option}

abbrev pub Text : Type 0
Text = List ℕ

abbrev pub Texts : Type 0
Texts = List (List ℕ)

-- ---- one step

pub bind_some : {X Y : Type 0} (o : Option X) (f : X → Option Y) (y : Y) → (o >>= f) ≡ Some y → (x : X) × (o ≡ Some x) × (f x ≡ Some y)
bind_some None f y e = absurd cc
bind_some (Some x) f y e = (x, refl, e)

pub map_some : {X Y : Type 0} (o : Option X) (f : X → Y) (y : Y) → option_map f o ≡ Some y → (x : X) × (o ≡ Some x) × (y ≡ f x)
map_some None f y e = absurd cc
map_some (Some x) f y e = (x, refl, cc)

pub chosen : {X : Type 0} (t : Bool) (x y z : X) → cond t x y ≡ z → ((t ≡ true) × (x ≡ z)) ⊎ ((t ≡ false) × (y ≡ z))
chosen true x y z e = inl (refl, e)
chosen false x y z e = inr (refl, e)

pub same_word : (w text : Text) → bytes_eq w text ≡ true → w ≡ text
same_word w text e = (bytes_eq-Decides w text).0 e

word_step : (ws : Texts) (x : Text × Texts) → next_word ws ≡ Some x → ws ≡ x.0 ∷ x.1
word_step [] x e = absurd cc
word_step (w ∷ ws) x e = ap pair_back e
  where
    pair_back : Option (Text × Texts) → Texts
    pair_back None = []
    pair_back (Some y) = y.0 ∷ y.1

number_step : (ws : Texts) (x : ℕ × Texts) → next_number ws ≡ Some x → (n : ℕ) × (ws ≡ numeral n ∷ x.1) × (x.0 ≡ cap n)
number_step [] x e = absurd cc
number_step (w ∷ ws) x e =
    let found = map_some (number_of w) (λ n. (n, ws)) x e in
    let number = number_up_to_some (2 ^ 32 - 1) w found.0 found.1 in
    (number.0, (λ i. number.1 i ∷ (sym (ap (λ y. y.1) found.2)) i), ap (λ y. y.0) found.2 ∙ number.2)

key_step : (text : Text) (ws rest : Texts) → next_key text ws ≡ Some rest → ws ≡ text ∷ rest
key_step text [] rest e = absurd cc
key_step text (w ∷ ws) rest e = by_test (chosen (bytes_eq w text) (Some ws) None (Some rest) e)
  where
    by_test : (((bytes_eq w text ≡ true) × (Some ws ≡ Some rest)) ⊎ ((bytes_eq w text ≡ false) × (None ≡ Some rest))) → w ∷ ws ≡ text ∷ rest
    by_test (inl h) = let same = same_word w text h.0 in let rests : ws ≡ rest = cc in λ i. same i ∷ rests i
    by_test (inr h) = absurd cc

-- a number, or the word of none
abbrev pub word_or : Text → Option ℕ → Text
word_or text None = text
word_or text (Some n) = numeral n

number_or_step : (text : Text) (ws : Texts) (x : Option ℕ × Texts) → next_number_or text ws ≡ Some x
    → (m : Option ℕ) × (ws ≡ word_or text m ∷ x.1) × (x.0 ≡ cap_option m)
number_or_step text [] x e = absurd cc
number_or_step text (w ∷ ws) x e = by_test (chosen (bytes_eq w text) (Some (None, ws)) (option_map (λ n. (Some n, ws)) (number_of w)) (Some x) e)
  where
    back : Option (Option ℕ × Texts) → Option ℕ × Texts
    back None = (None, [])
    back (Some y) = y

    by_test : (((bytes_eq w text ≡ true) × (Some (None, ws) ≡ Some x)) ⊎ ((bytes_eq w text ≡ false) × (option_map (λ n. (Some n, ws)) (number_of w) ≡ Some x)))
        → (m : Option ℕ) × (w ∷ ws ≡ word_or text m ∷ x.1) × (x.0 ≡ cap_option m)
    by_test (inl h) =
        let same = same_word w text h.0 in
        let found : ◌≡◌ {A = Option ℕ × Texts} (None, ws) x = ap back h.1 in
        (None, (λ i. same i ∷ (found i).1), sym (ap (λ y. y.0) found))
    by_test (inr h) =
        let found = map_some (number_of w) (λ n. (Some n, ws)) x h.1 in
        let number = number_up_to_some (2 ^ 32 - 1) w found.0 found.1 in
        (Some number.0, (λ i. number.1 i ∷ (sym (ap (λ y. y.1) found.2)) i), ap (λ y. y.0) found.2 ∙ ap Some number.2)

all_step : (ws : Texts) (ns : List ℕ) → all_numbers ws ≡ Some ns → (ms : List ℕ) × (ws ≡ map word_text (map Number ms)) × (ns ≡ caps ms)
all_step [] ns e = ([], refl, cc)
all_step (w ∷ ws) ns e =
    let first = bind_some (number_of w) (λ n. option_map (λ ns. n ∷ ns) (all_numbers ws)) ns e in
    let more = map_some (all_numbers ws) (λ ns. first.0 ∷ ns) ns first.2 in
    let number = number_up_to_some (2 ^ 32 - 1) w first.0 first.1 in
    let others = all_step ws more.0 more.1 in
    (number.0 ∷ others.0, (λ i. number.1 i ∷ others.1 i), more.2 ∙ (λ i. number.2 i ∷ others.2 i))

up_to_step : (text : Text) (ws : Texts) (x : List ℕ × Texts) → numbers_up_to text ws ≡ Some x
    → (ms : List ℕ) × (ws ≡ map word_text (map Number ms) ++ text ∷ x.1) × (x.0 ≡ caps ms)
up_to_step text [] x e = absurd cc
up_to_step text (w ∷ ws) x e =
    by_test (λ y f. up_to_step text ws y f) (chosen (bytes_eq w text) (Some ([], ws)) (number_of w >>= λ n. option_map (λ found. (n ∷ found.0, found.1)) (numbers_up_to text ws)) (Some x) e)
  where
    back : Option (List ℕ × Texts) → List ℕ × Texts
    back None = ([], [])
    back (Some y) = y

    by_test : ((y : List ℕ × Texts) → numbers_up_to text ws ≡ Some y → (ms : List ℕ) × (ws ≡ map word_text (map Number ms) ++ text ∷ y.1) × (y.0 ≡ caps ms))
        → (((bytes_eq w text ≡ true) × (Some ([], ws) ≡ Some x)) ⊎ ((bytes_eq w text ≡ false) × ((number_of w >>= λ n. option_map (λ found. (n ∷ found.0, found.1)) (numbers_up_to text ws)) ≡ Some x)))
        → (ms : List ℕ) × (w ∷ ws ≡ map word_text (map Number ms) ++ text ∷ x.1) × (x.0 ≡ caps ms)
    by_test again (inl h) =
        let same = same_word w text h.0 in
        let found : ◌≡◌ {A = List ℕ × Texts} ([], ws) x = ap back h.1 in
        ([], (λ i. same i ∷ (found i).1), sym (ap (λ y. y.0) found))
    by_test again (inr h) =
        let first = bind_some (number_of w) (λ n. option_map (λ found. (n ∷ found.0, found.1)) (numbers_up_to text ws)) x h.1 in
        let more = map_some (numbers_up_to text ws) (λ found. (first.0 ∷ found.0, found.1)) x first.2 in
        let number = number_up_to_some (2 ^ 32 - 1) w first.0 first.1 in
        let others = again more.0 more.1 in
        let behind : x.1 ≡ more.0.1 = ap (λ y. y.1) more.2 in
        (number.0 ∷ others.0, (λ i. number.1 i ∷ (others.1 ∙ ap (λ r. map word_text (map Number others.0) ++ text ∷ r) (sym behind)) i), ap (λ y. y.0) more.2 ∙ (λ i. number.2 i ∷ others.2 i))

pub end_step : (ws : Texts) (l r : Line) → ends_with ws l ≡ Some r → (ws ≡ []) × (r ≡ l)
end_step [] l r e = (refl, cc)
end_step (w ∷ ws) l r e = absurd cc

-- ---- a step, and what goes on behind it

pub word_then : {X : Type 0} (ws : Texts) (f : Text × Texts → Option X) (r : X) → (next_word ws >>= f) ≡ Some r
    → (w : Text) × (rest : Texts) × (ws ≡ w ∷ rest) × (f (w, rest) ≡ Some r)
word_then ws f r e = let x = bind_some (next_word ws) f r e in (x.0.0, x.0.1, word_step ws x.0 x.1, x.2)

pub number_then : {X : Type 0} (ws : Texts) (f : ℕ × Texts → Option X) (r : X) → (next_number ws >>= f) ≡ Some r
    → (n : ℕ) × (rest : Texts) × (ws ≡ numeral n ∷ rest) × (f (cap n, rest) ≡ Some r)
number_then {X} ws f r e =
    let x = bind_some (next_number ws) f r e in
    let s = number_step ws x.0 x.1 in
    let P : ℕ → Type 0 = λ v. f (v, x.0.1) ≡ Some r in
    (s.0, x.0.1, s.1, subst P s.2 x.2)

pub key_then : {X : Type 0} (text : Text) (ws : Texts) (f : Texts → Option X) (r : X) → (next_key text ws >>= f) ≡ Some r
    → (rest : Texts) × (ws ≡ text ∷ rest) × (f rest ≡ Some r)
key_then text ws f r e = let x = bind_some (next_key text ws) f r e in (x.0, key_step text ws x.0 x.1, x.2)

pub number_or_then : {X : Type 0} (text : Text) (ws : Texts) (f : Option ℕ × Texts → Option X) (r : X) → (next_number_or text ws >>= f) ≡ Some r
    → (m : Option ℕ) × (rest : Texts) × (ws ≡ word_or text m ∷ rest) × (f (cap_option m, rest) ≡ Some r)
number_or_then {X} text ws f r e =
    let x = bind_some (next_number_or text ws) f r e in
    let s = number_or_step text ws x.0 x.1 in
    let P : Option ℕ → Type 0 = λ v. f (v, x.0.1) ≡ Some r in
    (s.0, x.0.1, s.1, subst P s.2 x.2)

pub up_to_then : {X : Type 0} (text : Text) (ws : Texts) (f : List ℕ × Texts → Option X) (r : X) → (numbers_up_to text ws >>= f) ≡ Some r
    → (ms : List ℕ) × (rest : Texts) × (ws ≡ map word_text (map Number ms) ++ text ∷ rest) × (f (caps ms, rest) ≡ Some r)
up_to_then {X} text ws f r e =
    let x = bind_some (numbers_up_to text ws) f r e in
    let s = up_to_step text ws x.0 x.1 in
    let P : List ℕ → Type 0 = λ v. f (v, x.0.1) ≡ Some r in
    (s.0, x.0.1, s.1, subst P s.2 x.2)

pub all_then : {X : Type 0} (ws : Texts) (f : List ℕ → Option X) (r : X) → (all_numbers ws >>= f) ≡ Some r
    → (ms : List ℕ) × (ws ≡ map word_text (map Number ms)) × (f (caps ms) ≡ Some r)
all_then {X} ws f r e =
    let x = bind_some (all_numbers ws) f r e in
    let s = all_step ws x.0 x.1 in
    let P : List ℕ → Type 0 = λ v. f v ≡ Some r in
    (s.0, s.1, subst P s.2 x.2)

pub all_map : {X : Type 0} (ws : Texts) (f : List ℕ → X) (r : X) → option_map f (all_numbers ws) ≡ Some r
    → (ms : List ℕ) × (ws ≡ map word_text (map Number ms)) × (r ≡ f (caps ms))
all_map ws f r e =
    let x = map_some (all_numbers ws) f r e in
    let s = all_step ws x.0 x.1 in
    (s.0, s.1, x.2 ∙ ap f s.2)
