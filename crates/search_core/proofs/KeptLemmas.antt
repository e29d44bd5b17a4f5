-- The states without a mark.
use Rattle.std.proofs.Common.{◌≡◌, ◌≢◌, ℕ, suc, ◌+◌, List, [], ◌∷◌, ◌++◌, length, refl, ap, ◌∙◌, Some, None, Option, arith}
use Rattle.std.specs.Prelude.{All}
use Rattle.std.specs.List.{slice_get, cons_option}
use Rattle.std.proofs.lemmas.List.{length-append}
use Rattle.std.proofs.lemmas.List.Elements.{All-cons, All-nil, filter_map-append}
use Rattle.std.proofs.lemmas.List.Kept.{AllPairs-cons}
use Rattle.grd_base.specs.Counts.{AllDistinct}
use Rattle.search_core.specs.Progress.{Entry, kept_states, state_if_kept}

module _ {S M : Type 0} where
  -- what holds of the state of each kept entry
  pub kept_all : (P : S → Type 0) (xs : List (Entry S M)) → ((i : ℕ) (e : Entry S M) → slice_get xs i ≡ Some e → e.1.mark ≡ None → P e.0) → All P (kept_states xs)
  kept_all P [] h = All-nil P
  kept_all P (x ∷ xs) h =
      let rest : All P (kept_states xs) = kept_all P xs (λ i e got. h (suc i) e got) in
      kept_all_cons P x.1.mark x.0 (kept_states xs) (λ none. h 0 x refl none) rest
    where
      kept_all_cons : (P : S → Type 0) (o : Option M) (s : S) (ss : List S) → (o ≡ None → P s) → All P ss → All P (cons_option (state_if_kept o s) ss)
      kept_all_cons P None s ss h rest = All-cons P s ss (h refl) rest
      kept_all_cons P (Some m) s ss h rest = rest

  distinct_cons : (o : Option M) (s : S) (ss : List S) → All (λ t. s ≢ t) ss → AllDistinct ss → AllDistinct (cons_option (state_if_kept o s) ss)
  distinct_cons None s ss h rest = AllPairs-cons (λ a b. a ≢ b) s ss h rest
  distinct_cons (Some m) s ss h rest = rest

  -- the kept states are as distinct as the entries' states
  pub kept_distinct : (xs : List (Entry S M)) → ((i j : ℕ) (e f : Entry S M) → slice_get xs i ≡ Some e → slice_get xs j ≡ Some f → e.0 ≡ f.0 → i ≡ j) → AllDistinct (kept_states xs)
  kept_distinct [] apart = λ i j d low high. absurd (omega arith)
  kept_distinct (x ∷ xs) apart =
      distinct_cons x.1.mark x.0 (kept_states xs)
      (kept_all (λ t. x.0 ≢ t) xs (λ i e got none same. let at : 0 ≡ suc i = apart 0 (suc i) x e refl got same in absurd (omega (arith, at))))
      (kept_distinct xs (λ i j e f at_i at_j same. let at : suc i ≡ suc j = apart (suc i) (suc j) e f at_i at_j same in omega (arith, at)))

  list_of : Option M → S → List S
  list_of o s = cons_option (state_if_kept o s) []

  pub count_cut : (xs : List (Entry S M)) (e : Entry S M) (m : M) → e.1.mark ≡ Some m → length (kept_states (xs ++ e ∷ [])) ≡ length (kept_states xs)
  unfolding list_of
  count_cut xs e m is =
      let split : kept_states (xs ++ e ∷ []) ≡ kept_states xs ++ list_of e.1.mark e.0 = filter_map-append (λ (f : Entry S M). state_if_kept f.1.mark f.0) xs (e ∷ []) in
      let none : list_of e.1.mark e.0 ≡ [] = ap (λ o. list_of o e.0) is in
      let long : length (kept_states (xs ++ e ∷ [])) ≡ length (kept_states xs) + length (list_of e.1.mark e.0) = ap length split ∙ length-append (kept_states xs) (list_of e.1.mark e.0) in
      let empty : length (list_of e.1.mark e.0) ≡ 0 = ap length none in
      omega (arith, long, empty)

  pub count_kept : (xs : List (Entry S M)) (e : Entry S M) → e.1.mark ≡ None → length (kept_states (xs ++ e ∷ [])) ≡ length (kept_states xs) + 1
  unfolding list_of
  count_kept xs e is =
      let split : kept_states (xs ++ e ∷ []) ≡ kept_states xs ++ list_of e.1.mark e.0 = filter_map-append (λ (f : Entry S M). state_if_kept f.1.mark f.0) xs (e ∷ []) in
      let one : list_of e.1.mark e.0 ≡ e.0 ∷ [] = ap (λ o. list_of o e.0) is in
      let long : length (kept_states (xs ++ e ∷ [])) ≡ length (kept_states xs) + length (list_of e.1.mark e.0) = ap length split ∙ length-append (kept_states xs) (list_of e.1.mark e.0) in
      let single : length (list_of e.1.mark e.0) ≡ 1 = ap length one in
      omega (arith, long, single)
