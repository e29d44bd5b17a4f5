-- Loops that ask something of each element of a list, or look for one.
use Rattle.std.proofs.Common.{◌≡◌, ◌↔◌, ℕ, zero, suc, ◌+◌, ◌<◌, ◌≤◌, Bool, true, false, List, [], ◌∷◌, ◌++◌, length, take, drop, get_or, refl, sym, ◌∙◌, ap, subst, inl, inr, arith, Result, Ok, Err}
use Rattle.std.specs.Prelude.{IsTrue, IfOk, All, Any}
use Rattle.std.proofs.lemmas.List.{take_more, take_all, take-append-drop, drop_more, length-take-le}
use Rattle.std.proofs.lemmas.List.Elements.{All-push, Contains-push_cases}
use Rattle.std.proofs.lemmas.Bool.{false≢true}
use Rattle.cost_certificate.specs.Faults.{IsFirstBad}

module _ {X : Type 0} (P : X → Type 0) (xs : List X) where
  pub all_next : (i : ℕ) (d : X) → i < length xs → All P (take i xs) → P (get_or xs i d) → All P (take (i + 1) xs)
  all_next i d within so_far here = subst (All P) (sym (take_more xs i d within)) (All-push P (take i xs) (get_or xs i d) so_far here)

  pub all_found : (i : ℕ) → length xs ≤ i → All P (take i xs) → IsTrue true ↔ All P xs
  all_found i past so_far = (λ _. subst (All P) (take_all i xs past) so_far, λ _. refl)

  pub all_lack : (i : ℕ) (d : X) → i < length xs → (P (get_or xs i d) → ⊥) → IsTrue false ↔ All P xs
  all_lack i d within fails = (λ h. absurd (false≢true h), λ all. absurd (fails (all i d within)))

  pub none_next : (i : ℕ) (d : X) → i < length xs → (Any P (take i xs) → ⊥) → (P (get_or xs i d) → ⊥) → Any P (take (i + 1) xs) → ⊥
  none_next i d within so_far fails (k, x, low, is, here) =
      let low_k : k < length (take i xs ++ get_or xs i d ∷ []) = subst (λ ys. k < length ys) (take_more xs i d within) low in
      let is_k : get_or (take i xs ++ get_or xs i d ∷ []) k x ≡ x = subst (λ ys. get_or ys k x ≡ x) (take_more xs i d within) is in
      elim (Contains-push_cases (take i xs) (get_or xs i d) x (k, low_k, is_k)) [
        | inl old ↦ so_far (old.0, x, old.1, old.2, here)
        | inr new ↦ fails (subst P (sym new) here)
      ]

  pub none_found : (i : ℕ) → length xs ≤ i → (Any P (take i xs) → ⊥) → IsTrue false ↔ Any P xs
  none_found i past so_far = (λ h. absurd (false≢true h), λ some. absurd (so_far (subst (Any P) (sym (take_all i xs past)) some)))

  pub one_found : (i : ℕ) (d : X) → i < length xs → P (get_or xs i d) → IsTrue true ↔ Any P xs
  one_found i d within here = (λ _. (i, get_or xs i d, within, get_or-same, here), λ _. refl)
    where
      get_or-same : get_or xs i (get_or xs i d) ≡ get_or xs i d
      get_or-same = by xs i within
        where
          by : (ys : List X) (k : ℕ) → k < length ys → get_or ys k (get_or xs i d) ≡ get_or ys k d
          by [] k low = absurd (omega arith)
          by (y ∷ ys) zero low = refl
          by (y ∷ ys) (suc k) low = by ys k (omega arith)

pub ok_told : {E : Type 0} {P Q : Bool → Type 0} (r : Result Bool E) → IfOk r P → ((b : Bool) → P b → Q b) → IfOk r Q
ok_told (Ok b) told on = on b told
ok_told (Err e) told on = told

-- the element at a place is the first bad one where it is bad and all before it are good
pub first_bad : {X : Type 0} (Good Bad : X → Type 0) (xs : List X) (i : ℕ) (x : X) → i < length xs → x ≡ get_or xs i x → All Good (take i xs) → Bad x → IsFirstBad Good Bad xs i
first_bad Good Bad xs i x within at good bad = record {
  before = take i xs;
  item = x;
  behind = drop (i + 1) xs;
  whole = sym (take-append-drop i xs) ∙ ap (λ ys. take i xs ++ ys) (drop_more xs i x within) ∙ ap (λ y. take i xs ++ y ∷ drop (i + 1) xs) (sym at);
  counted = sym (length-take-le i xs (omega arith));
  good = good;
  bad = bad;
}
