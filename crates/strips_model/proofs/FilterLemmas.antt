-- What a filtered list contains.
use Rattle.std.proofs.Common.{◌≡◌, ◌↔◌, Bool, true, false, cond, List, [], ◌∷◌, refl, sym, ap, subst, arith}
use Rattle.std.specs.Prelude.{filter, All, Contains}
use Rattle.std.proofs.lemmas.List.Elements.{All-nil, All-cons, All-weaker, All-filter, All-contains, All-contains_itself, filter_passes, Contains-append_right}

-- an element that passes the test is kept by the filter
kept : {X : Type 0} (p : X → Bool) (xs : List X) → All (λ y. p y ≡ true → Contains (filter p xs) y) xs
kept {X} p [] = All-nil (λ (y : X). p y ≡ true → Contains (filter p []) y)
kept {X} p (x ∷ xs) =
    All-cons (λ (y : X). p y ≡ true → Contains (filter p (x ∷ xs)) y) x xs
    (λ e. subst (λ (zs : List X). Contains zs x) (sym (ap (λ b. cond b (x ∷ filter p xs) (filter p xs)) e)) (0, omega arith, refl))
    (All-weaker (λ (y : X). p y ≡ true → Contains (filter p xs) y) (λ (y : X). p y ≡ true → Contains (filter p (x ∷ xs)) y) (λ y there e. by y (p x) (there e)) xs (kept p xs))
  where
    by : (y : X) (b : Bool) → Contains (filter p xs) y → Contains (cond b (x ∷ filter p xs) (filter p xs)) y
    by y true there = Contains-append_right (x ∷ []) (filter p xs) y there
    by y false there = there

-- a filtered list contains what the list contains and what passes the test
pub filtered : {X : Type 0} (p : X → Bool) (xs : List X) (x : X) → Contains (filter p xs) x ↔ (Contains xs x × (p x ≡ true))
filtered {X} p xs x = (
  λ there. (All-contains (Contains xs) (filter p xs) x (All-filter p (Contains xs) xs (All-contains_itself xs)) there, All-contains (λ (y : X). p y ≡ true) (filter p xs) x (filter_passes p xs) there),
  λ h. All-contains (λ (y : X). p y ≡ true → Contains (filter p xs) y) xs x (kept p xs) h.0 h.1,
)
