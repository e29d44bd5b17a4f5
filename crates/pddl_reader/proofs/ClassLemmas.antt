-- Classes of bytes that are folded to lower case.
use Rattle.std.proofs.Common.{◌≡◌, ℕ, Bool, false, not, ◌&&◌, eqb, List, [], ◌∷◌, map, Some, refl, sym, ap, ◌∙◌, arith}
use Rattle.std.specs.Prelude.{slice_get}
use Rattle.std.specs.List.{list_all}
use Rattle.std.specs.Char.{to_ascii_lowercase}
use Rattle.std.specs.Str.{str_to_ascii_lowercase}
use Rattle.std.proofs.lemmas.Bool.Decides.{nat_tests}
use Rattle.pddl_reader.specs.Classes.{is_name_byte, is_name}

list_all-map : (p : ℕ → Bool) (f : ℕ → ℕ) (xs : List ℕ) → list_all p (map f xs) ≡ list_all (λ x. p (f x)) xs
list_all-map p f [] = refl
list_all-map p f (x ∷ xs) = ap (λ (b : Bool). p (f x) && b) (list_all-map p f xs)

is_name-folded : (b : ℕ) (bytes : List ℕ) → is_name (str_to_ascii_lowercase (b ∷ bytes)) ≡ (not (eqb (to_ascii_lowercase b) 45) && list_all (λ c. is_name_byte (to_ascii_lowercase c)) (b ∷ bytes))
is_name-folded b bytes = ap (λ (t : Bool). not (eqb (to_ascii_lowercase b) 45) && t) (list_all-map is_name_byte to_ascii_lowercase (b ∷ bytes))

-- a text that does not begin with a hyphen is a name where its bytes are a name's
pub is_name_by : (text : List ℕ) (first : ℕ) → Some first ≡ slice_get text 0 → (first ≡ 45 → ⊥) → (r : Bool) → r ≡ list_all (λ c. is_name_byte (to_ascii_lowercase c)) text → r ≡ is_name (str_to_ascii_lowercase text)
is_name_by [] first e n r h = absurd cc
is_name_by (b ∷ bytes) first e n r h =
    let b-is : first ≡ b = cc in
    let other : eqb (to_ascii_lowercase b) 45 ≡ false = grind (arith, nat_tests) in
    h ∙ sym (is_name-folded b bytes ∙ rw other refl)
