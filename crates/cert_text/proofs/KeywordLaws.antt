-- A keyword by its word.
use Rattle.std.proofs.Common.{◌≡◌, ℕ, Bool, true, false, cond, List, [], ◌∷◌, refl, subst, Some}
use Rattle.std.specs.List.{find}
use Rattle.std.specs.Str.{bytes_eq}
use Rattle.std.proofs.lemmas.Slice.Eq.{bytes_eq-Decides}
use Rattle.cert_text.specs.Values.{keyword_text}
use Rattle.cert_text.specs.Reading.{keywords, keyword_of}
use Rattle.cert_text.specs.declared.keyword.Keyword.{Keyword}

find_passes : {X : Type 0} (p : X → Bool) (xs : List X) (x : X) → find p xs ≡ Some x → p x ≡ true
find_passes p [] x e = absurd cc
find_passes {X} p (y ∷ ys) x e = by_test (p y) refl e (find_passes p ys x)
  where
    by_test : (t : Bool) → p y ≡ t → cond t (Some y) (find p ys) ≡ Some x → (find p ys ≡ Some x → p x ≡ true) → p x ≡ true
    by_test true h f more = let same : y ≡ x = cc in subst (λ z. p z ≡ true) same h
    by_test false h f more = more f

pub keyword_of_some : (word : List ℕ) (keyword : Keyword) → keyword_of word ≡ Some keyword → word ≡ keyword_text keyword
keyword_of_some word keyword e =
    (bytes_eq-Decides word (keyword_text keyword)).0 (find_passes (λ k. bytes_eq word (keyword_text k)) keywords keyword e)
