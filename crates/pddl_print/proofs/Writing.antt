-- Bytes that are written one part behind the other.
use Rattle.std.proofs.Common.{◌≡◌, ℕ, Bool, true, false, cond, List, [], ◌∷◌, ◌++◌, map, length, Result, Ok, Err, ap, ◌∙◌, append_assoc, codes, refl}
use Rattle.std.specs.Prelude.{◌==◌, OnOk, is_ok, if◌then◌else◌}
use Rattle.pddl_print.specs.Canonical.{spaced, section_text}

-- one part more
pub more : (old text part was now : List ℕ) → was ≡ old ++ text → now ≡ was ++ part → now ≡ old ++ (text ++ part)
more old text part was now before here = here ∙ ap (λ bytes. bytes ++ part) before ∙ append_assoc old text part

-- one part more, of a value's field
pub more_of : {V F : Type 0} (of : F → List ℕ) (field : V → F) (old text : List ℕ) (was now : List ℕ) (x : F) (v w : V)
    → was ≡ old ++ text → now ≡ was ++ of x → x ≡ field v → v ≡ w → now ≡ old ++ (text ++ of (field w))
more_of of field old text was now x v w before here is same = more old text (of (field w)) was now before (here ∙ ap (λ y. was ++ of y) (is ∙ ap field same))

-- the last part, whose result is that of the whole
pub last : {T E : Type 0} (r : Result T E) (old text part was now : List ℕ) → was ≡ old ++ text → now ≡ cond (is_ok r) (was ++ part) was → OnOk r (now ≡ old ++ (text ++ part))
last (Ok x) old text part was now before here = more old text part was now before here
last (Err e) old text part was now before here = tt

-- the first part, of a value's field
pub first_of : {V F : Type 0} (of : F → List ℕ) (field : V → F) (old now : List ℕ) (x : F) (v w : V)
    → now ≡ old ++ of x → x ≡ field v → v ≡ w → now ≡ old ++ of (field w)
first_of of field old now x v w here is same = here ∙ ap (λ y. old ++ of y) (is ∙ ap field same)

-- the last part, written by a call whose result is that of the whole
pub then_last : {T E : Type 0} (r : Result T E) (old text part was now : List ℕ) → was ≡ old ++ text → OnOk r (now ≡ was ++ part) → OnOk r (now ≡ old ++ (text ++ part))
then_last (Ok x) old text part was now before here = more old text part was now before here
then_last (Err e) old text part was now before here = tt

-- the last part, of a value's field
pub last_of : {V F T E : Type 0} (r : Result T E) (of : F → List ℕ) (field : V → F) (old text was now : List ℕ) (x : F) (v w : V)
    → was ≡ old ++ text → OnOk r (now ≡ was ++ of x) → x ≡ field v → v ≡ w → OnOk r (now ≡ old ++ (text ++ of (field w)))
last_of (Ok r) of field old text was now x v w before here is same = more_of of field old text was now x v w before here is same
last_of (Err e) of field old text was now x v w before here is same = tt

-- the line of a section with items
pub section_line : {X : Type 0} (text : X → List ℕ) (keyword : List ℕ) (items : List X) → (length items == 0) ≡ false
    → section_text keyword (map text items) ≡ codes "(" ++ keyword ++ spaced (map text items) ++ codes ")\n"
section_line text keyword [] some = absurd (cc)
section_line text keyword (item ∷ items) some = refl

-- the line of the requirements
pub requirements_line : (negated equal : Bool)
    → codes "(:requirements :strips :typing" ++ (if negated then codes " :negative-preconditions" else []) ++ (if equal then codes " :equality" else []) ++ codes ")\n"
    ≡ section_text (codes ":requirements") (codes ":strips" ∷ codes ":typing"
    ∷ ((if negated then codes ":negative-preconditions" ∷ [] else []) ++ (if equal then codes ":equality" ∷ [] else [])))
requirements_line true true = refl
requirements_line true false = refl
requirements_line false true = refl
requirements_line false false = refl
