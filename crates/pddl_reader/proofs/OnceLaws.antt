-- Values of which each has a kind, behind kinds that are given before: a kind comes once, but for a kind
-- that may come again.
use Rattle.std.proofs.Common.{◌≡◌, zero, suc, arith, List, [], ◌∷◌, ◌++◌, get_or, sym, subst, inl, inr, Contains}
use Rattle.std.specs.Prelude.{All, AllPairs}
use Rattle.std.proofs.lemmas.List.Elements.{All-cons, All-head, All-tail, All-weaker, Contains-append_left, Contains-push, Contains-push_cases}
use Rattle.std.proofs.lemmas.List.Kept.{AllPairs-cons}

module _ {X : Type 0} (R : X → X → Type 0) where
  pub AllPairs-none : AllPairs R []
  AllPairs-none i j d before within = absurd (omega arith)

  pub AllPairs-head : (x : X) (xs : List X) → AllPairs R (x ∷ xs) → All (R x) xs
  AllPairs-head x xs h k d within = h zero (suc k) d (omega arith) (omega arith)

  pub AllPairs-tail : (x : X) (xs : List X) → AllPairs R (x ∷ xs) → AllPairs R xs
  AllPairs-tail x xs h i j d before within = h (suc i) (suc j) d (omega arith) (omega arith)

module _ {V K : Type 0} (kind : V → K) (May : K → Type 0) where
  abbrev pub AreNew : List K → List V → Type 0
  AreNew given vs = All (λ v. Contains given (kind v) → May (kind v)) vs

  abbrev pub AreOnce : List V → Type 0
  AreOnce vs = AllPairs (λ v w. kind v ≡ kind w → May (kind v)) vs

  pub new-cons : (given : List K) (v : V) (vs : List V) → (Contains given (kind v) → May (kind v))
      → AreNew (given ++ kind v ∷ []) vs → AreNew given (v ∷ vs)
  new-cons given v vs first rest =
      All-cons (λ w. Contains given (kind w) → May (kind w)) v vs first
      (All-weaker (λ w. Contains (given ++ kind v ∷ []) (kind w) → May (kind w)) (λ w. Contains given (kind w) → May (kind w))
      (λ w new has. new (Contains-append_left given (kind v ∷ []) (kind w) has)) vs rest)

  pub once-cons : (given : List K) (v : V) (vs : List V) → AreNew (given ++ kind v ∷ []) vs → AreOnce vs → AreOnce (v ∷ vs)
  once-cons given v vs rest once =
      AllPairs-cons (λ x y. kind x ≡ kind y → May (kind x)) v vs
      (All-weaker (λ w. Contains (given ++ kind v ∷ []) (kind w) → May (kind w)) (λ w. kind v ≡ kind w → May (kind v))
      (λ w new same. subst May (sym same) (new (subst (Contains (given ++ kind v ∷ [])) same (Contains-push given (kind v))))) vs rest)
      once

  pub new-head : (given : List K) (v : V) (vs : List V) → AreNew given (v ∷ vs) → Contains given (kind v) → May (kind v)
  new-head given v vs new = All-head (λ w. Contains given (kind w) → May (kind w)) v vs new

  pub new-tail : (given : List K) (v : V) (vs : List V) → AreNew given (v ∷ vs) → AreOnce (v ∷ vs) → AreNew (given ++ kind v ∷ []) vs
  new-tail given v vs new once k d within has =
      elim (Contains-push_cases given (kind v) (kind (get_or vs k d)) has) [
        | inl before ↦ All-tail (λ w. Contains given (kind w) → May (kind w)) v vs new k d within before
        | inr same ↦ subst May same (AllPairs-head (λ x y. kind x ≡ kind y → May (kind x)) v vs once k d within same)
      ]

  pub once-tail : (v : V) (vs : List V) → AreOnce (v ∷ vs) → AreOnce vs
  once-tail = AllPairs-tail (λ x y. kind x ≡ kind y → May (kind x))
