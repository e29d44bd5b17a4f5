-- Rising lists of numbers.
use Rattle.std.proofs.Common.{◌≡◌, ℕ, ◌<◌, ◌≤◌, Bool, List, [], ◌∷◌, length, get_or, zero, suc, sym, ◌∙◌, inl, inr, arith, Result, Ok, Err, nat_cmp}
use Rattle.std.specs.Prelude.{IsTrue, ◌↔◌, ◌⊎◌}
use Rattle.std.specs.List.{Contains}
use Rattle.std.specs.List.Sorted.{IsBinarySearchResult}
use Rattle.std.specs.Result.{is_ok, MatchResult}
use Rattle.std.proofs.lemmas.Bool.{false≢true, cases_lt}
use Rattle.std.proofs.lemmas.List.{get_or_default}
use Rattle.std.proofs.lemmas.List.Elements.{All-from_recursion}
use Rattle.std.proofs.lemmas.List.Sorted.{searched}
use Rattle.grd_base.specs.Rising.{IsRisingBy}

rises : (xs : List ℕ) → IsRisingBy (λ k. k) xs → (i j : ℕ) → i ≤ j → j < length xs → get_or xs i 0 ≤ get_or xs j 0
rises [] h i j le lt = absurd (omega arith)
rises (x ∷ xs) h zero zero le lt = omega arith
rises (x ∷ xs) h (suc i) zero le lt = absurd (omega arith)
rises (x ∷ xs) h zero (suc j) le lt = omega (arith, All-from_recursion (λ y. x < y) xs h.0 j 0 (omega arith))
rises (x ∷ xs) h (suc i) (suc j) le lt = rises xs h.1 i j (omega arith) (omega arith)

found_by : (xs : List ℕ) (x : ℕ) (r : Result ℕ ℕ) (found : Bool) → found ≡ is_ok r
    → MatchResult r (λ i. (i < length xs) × (get_or xs i 0 ≡ x)) (λ i. (i ≤ length xs) × ((k : ℕ) → k < i → get_or xs k 0 < x) × ((k : ℕ) → i ≤ k → k < length xs → x < get_or xs k 0))
    → IsTrue found ↔ Contains xs x
found_by xs x (Ok i) found e h = (λ _. (i, h.0, get_or_default xs i x 0 h.0 ∙ h.1), λ _. e)
found_by xs x (Err i) found e h = (λ yes. absurd (false≢true (sym e ∙ yes)), λ there. absurd (apart there (cases_lt there.0 i)))
  where
    apart : (there : Contains xs x) → (there.0 < i) ⊎ (i ≤ there.0) → ⊥
    apart there (inl less) = omega (arith, h.1 there.0 less, get_or_default xs there.0 x 0 there.1, there.2)
    apart there (inr more) = omega (arith, h.2 there.0 more there.1, get_or_default xs there.0 x 0 there.1, there.2)

-- what a binary search finds
pub is_found : (xs : List ℕ) (x : ℕ) (r : Result ℕ ℕ) (found : Bool) → IsRisingBy (λ k. k) xs → IsBinarySearchResult (λ y. nat_cmp y x) xs r → found ≡ is_ok r → IsTrue found ↔ Contains xs x
is_found xs x r found rising h e = found_by xs x r found e (searched xs x r h (rises xs rising))
