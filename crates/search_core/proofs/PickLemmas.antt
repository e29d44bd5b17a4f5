-- States of entries that were expanded.
use Rattle.std.proofs.Common.{◌≡◌, ◌≢◌, ℕ, suc, ◌≤◌, List, [], ◌∷◌, length, refl, ap, subst, ◌∙◌, Some, None, Option, Bool, true, false, arith}
use Rattle.std.specs.Prelude.{All, slice_get}
use Rattle.std.specs.List.{filter_map, cons_option}
use Rattle.std.proofs.lemmas.List.Kept.{AllPairs-cons}
use Rattle.std.proofs.lemmas.List.Sums.{sum_by-cons}
use Rattle.std.proofs.lemmas.Option.{none-some, same_Some}
use Rattle.grd_base.specs.Counts.{AllDistinct}
use Rattle.search_core.specs.Nodes.{Entry, expanded_count, one_if}
use Rattle.search_core.proofs.PlaceLemmas.{filter_map_all}

-- the state, where it was expanded
abbrev state_if : {S : Type 0} → Bool → S → Option S
state_if true s = Some s
state_if false s = None

state_if_picks : {S : Type 0} (b : Bool) (s t : S) → state_if b s ≡ Some t → (s ≡ t) × (b ≡ true)
state_if_picks true s t is = (same_Some s t is, refl)
state_if_picks false s t is = absurd (none-some t is)

module _ {S M : Type 0} where
  -- only states of entries that were expanded are picked
  abbrev pub Picks : (Entry S M → Option S) → Type 0
  Picks f = (e : Entry S M) (s : S) → f e ≡ Some s → (e.0 ≡ s) × (e.1.expanded ≡ true)

  module _ (f : Entry S M → Option S) (picks : Picks f) where
    pub picked_all : (P : S → Type 0) (xs : List (Entry S M)) → ((i : ℕ) (e : Entry S M) → slice_get xs i ≡ Some e → e.1.expanded ≡ true → P e.0) → All P (filter_map f xs)
    picked_all P xs each = filter_map_all f P xs (λ i e s got is. let p = picks e s is in subst P p.0 (each i e got p.1))

    distinct_cons : (o : Option S) (ss : List S) → ((s : S) → o ≡ Some s → All (λ t. s ≢ t) ss) → AllDistinct ss → AllDistinct (cons_option o ss)
    distinct_cons None ss h rest = rest
    distinct_cons (Some s) ss h rest = AllPairs-cons (λ a b. a ≢ b) s ss (h s refl) rest

    pub picked_distinct : (xs : List (Entry S M)) → ((i j : ℕ) (d e : Entry S M) → slice_get xs i ≡ Some d → slice_get xs j ≡ Some e → d.0 ≡ e.0 → i ≡ j) → AllDistinct (filter_map f xs)
    picked_distinct [] apart = λ i j d low high. absurd (omega arith)
    picked_distinct (x ∷ xs) apart =
        distinct_cons (f x) (filter_map f xs)
        (λ s is. picked_all (λ t. s ≢ t) xs (λ i e got expanded same. let at : 0 ≡ suc i = apart 0 (suc i) x e refl got ((picks x s is).0 ∙ same) in absurd (omega (arith, at))))
        (picked_distinct xs (λ i j d e at_i at_j same. let at : suc i ≡ suc j = apart (suc i) (suc j) d e at_i at_j same in omega (arith, at)))

    pub picked_few : (xs : List (Entry S M)) → length (filter_map f xs) ≤ expanded_count xs
    picked_few [] = omega arith
    picked_few (x ∷ xs) = by (f x) refl (picked_few xs)
      where
        by : (o : Option S) → f x ≡ o → length (filter_map f xs) ≤ expanded_count xs → length (cons_option o (filter_map f xs)) ≤ expanded_count (x ∷ xs)
        by None is rest = omega (arith, rest, sum_by-cons (λ (e : Entry S M). one_if e.1.expanded) x xs)
        by (Some s) is rest =
            let one : one_if x.1.expanded ≡ 1 = ap one_if (picks x s is).1 in
            omega (arith, rest, one, sum_by-cons (λ (e : Entry S M). one_if e.1.expanded) x xs)

  pub expanded_states : List (Entry S M) → List S
  expanded_states xs = filter_map (λ (e : Entry S M). state_if e.1.expanded e.0) xs

  pub expanded_all : (P : S → Type 0) (xs : List (Entry S M)) → ((i : ℕ) (e : Entry S M) → slice_get xs i ≡ Some e → e.1.expanded ≡ true → P e.0) → All P (expanded_states xs)
  unfolding expanded_states
  expanded_all P xs each = picked_all (λ (e : Entry S M). state_if e.1.expanded e.0) (λ e s is. state_if_picks e.1.expanded e.0 s is) P xs each

  pub expanded_distinct : (xs : List (Entry S M)) → ((i j : ℕ) (d e : Entry S M) → slice_get xs i ≡ Some d → slice_get xs j ≡ Some e → d.0 ≡ e.0 → i ≡ j) → AllDistinct (expanded_states xs)
  unfolding expanded_states
  expanded_distinct xs apart = picked_distinct (λ (e : Entry S M). state_if e.1.expanded e.0) (λ e s is. state_if_picks e.1.expanded e.0 s is) xs apart

  pub expanded_length : (xs : List (Entry S M)) → length (expanded_states xs) ≡ expanded_count xs
  unfolding expanded_states
  expanded_length [] = omega arith
  expanded_length (x ∷ xs) = by x.1.expanded refl (expanded_length xs)
    where
      by : (b : Bool) → x.1.expanded ≡ b → length (filter_map (λ (e : Entry S M). state_if e.1.expanded e.0) xs) ≡ expanded_count xs
          → length (cons_option (state_if b x.0) (filter_map (λ (e : Entry S M). state_if e.1.expanded e.0) xs)) ≡ expanded_count (x ∷ xs)
      by true is rest = let one : one_if x.1.expanded ≡ 1 = ap one_if is in omega (arith, rest, one, sum_by-cons (λ (e : Entry S M). one_if e.1.expanded) x xs)
      by false is rest = let none : one_if x.1.expanded ≡ 0 = ap one_if is in omega (arith, rest, none, sum_by-cons (λ (e : Entry S M). one_if e.1.expanded) x xs)
