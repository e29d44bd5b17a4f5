-- Atoms that are joined on one at a time: what is reached, and what is new of it.
use Rattle.std.proofs.Common.{◌≡◌, ℕ, ◌+◌, ◌<◌, ◌≤◌, Bool, true, false, eqb, not, ◌&&◌, ◌||◌, List, [], ◌∷◌, ◌++◌, length, take, get_or, refl, sym, ◌∙◌, ap, subst, inl, inr}
use Rattle.std.proofs.Math.Path.{fun_ext}
use Rattle.std.proofs.lemmas.Bool.{cases_eq, eq-eqb, eqb-true, ne_eqb}
use Rattle.std.proofs.lemmas.List.{take_all}
use Rattle.std.proofs.lemmas.List.Folds.{list_any-append, list_any_more}
use Rattle.grd_base.specs.declared.ids.AtomId.{AtomId}
use Rattle.grd_base.specs.Sets.{with_number, union}
use Rattle.strips_model.specs.Plans.{State, set_of}

-- the atoms so far are reached beside those from before, and noted where they were not reached before
pub record IsJoined (before noted so_far u v : State) : Type 0 where
  pub reached : u ≡ union before so_far
  pub fresh : (n : ℕ) → v n ≡ (noted n || (so_far n && not (before n)))

reached_old : (b s e : Bool) → (e ≡ true → (b || s) ≡ true) → (b || s) ≡ (b || (s || e))
reached_old true s e h = refl
reached_old false true e h = refl
reached_old false false true h = h refl
reached_old false false false h = refl

fresh_old : (k b s e : Bool) → (e ≡ true → (b || s) ≡ true) → (k || (s && not b)) ≡ (k || ((s || e) && not b))
fresh_old true b s e h = refl
fresh_old false b true e h = refl
fresh_old false true false true h = refl
fresh_old false true false false h = refl
fresh_old false false false true h = h refl
fresh_old false false false false h = refl

reached_new : (b s e : Bool) → (e || (b || s)) ≡ (b || (s || e))
reached_new true s true = refl
reached_new true s false = refl
reached_new false true true = refl
reached_new false true false = refl
reached_new false false true = refl
reached_new false false false = refl

fresh_new : (k b s e : Bool) → (e ≡ true → (b || s) ≡ false) → ((k || (s && not b)) || e) ≡ (k || ((s || e) && not b))
fresh_new true b s e h = refl
fresh_new false true true true h = h refl
fresh_new false true false true h = h refl
fresh_new false true true false h = refl
fresh_new false true false false h = refl
fresh_new false false true true h = refl
fresh_new false false true false h = refl
fresh_new false false false true h = refl
fresh_new false false false false h = refl

or_none : (b : Bool) → b ≡ (b || false)
or_none true = refl
or_none false = refl

-- before the first atom
pub joined_none : (before noted : State) → IsJoined before noted (set_of []) before noted
joined_none before noted = record {
  reached = fun_ext (λ n. or_none (before n));
  fresh = λ n. or_none (noted n);
}

-- behind the last
pub joined_all : (before noted u v : State) (xs : List AtomId) (i : ℕ) → length xs ≤ i → IsJoined before noted (set_of (take i xs)) u v → IsJoined before noted (set_of xs) u v
joined_all before noted u v xs i past joined = subst (λ (ys : List AtomId). IsJoined before noted (set_of ys) u v) (take_all i xs past) joined

eqb_comm : (m n : ℕ) → eqb m n ≡ eqb n m
eqb_comm m n = elim (cases_eq m n) [
  | inl same ↦ eq-eqb m n same ∙ sym (eq-eqb n m (sym same))
  | inr differ ↦ ne_eqb m n differ ∙ sym (ne_eqb n m (λ same. differ (sym same)))
]

module _ (before noted : State) (xs : List AtomId) (i : ℕ) (d : AtomId) (within : i < length xs) (reached : State) (fresh : List AtomId) where
  one_more : (n : ℕ) → set_of (take (i + 1) xs) n ≡ (set_of (take i xs) n || eqb (get_or xs i d).0 n)
  one_more n = list_any_more (λ (a : AtomId). eqb a.0 n) xs i d within

  reached_at : (v : Bool) → reached ≡ union before (set_of (take i xs)) → reached (get_or xs i d).0 ≡ v
      → (n : ℕ) → eqb (get_or xs i d).0 n ≡ true → (before n || set_of (take i xs) n) ≡ v
  reached_at v is at n same =
      subst (λ m. (before m || set_of (take i xs) m) ≡ v) (eqb-true (get_or xs i d).0 n same) (sym (ap (λ (s : State). s (get_or xs i d).0) is) ∙ at)

  -- an atom that was reached before
  pub joined_old : IsJoined before noted (set_of (take i xs)) reached (set_of fresh) → reached (get_or xs i d).0 ≡ true
      → IsJoined before noted (set_of (take (i + 1) xs)) reached (set_of fresh)
  joined_old joined at = record {
    reached = joined.reached ∙ fun_ext (λ n. reached_old (before n) (set_of (take i xs) n) (eqb (get_or xs i d).0 n) (reached_at true joined.reached at n)
        ∙ ap (λ b. before n || b) (sym (one_more n)));
    fresh = λ n. joined.fresh n ∙ fresh_old (noted n) (before n) (set_of (take i xs) n) (eqb (get_or xs i d).0 n) (reached_at true joined.reached at n)
        ∙ ap (λ b. noted n || (b && not (before n))) (sym (one_more n));
  }

  -- an atom that was not
  pub joined_new : IsJoined before noted (set_of (take i xs)) reached (set_of fresh) → reached (get_or xs i d).0 ≡ false
      → (reached' : State) (fresh' : List AtomId) → reached' ≡ with_number reached (get_or xs i d).0 → fresh' ≡ fresh ++ get_or xs i d ∷ []
      → IsJoined before noted (set_of (take (i + 1) xs)) reached' (set_of fresh')
  joined_new joined at reached' fresh' is noted_last = record {
    reached = is ∙ fun_ext (λ n. ap (λ b. b || reached n) (eqb_comm n (get_or xs i d).0)
        ∙ ap (λ (s : State). eqb (get_or xs i d).0 n || s n) joined.reached
        ∙ reached_new (before n) (set_of (take i xs) n) (eqb (get_or xs i d).0 n)
        ∙ ap (λ b. before n || b) (sym (one_more n)));
    fresh = λ n. ap (λ (all : List AtomId). set_of all n) noted_last
        ∙ list_any-append (λ (a : AtomId). eqb a.0 n) fresh (get_or xs i d ∷ [])
        ∙ ap (λ b. set_of fresh n || b) (sym (or_none (eqb (get_or xs i d).0 n)))
        ∙ ap (λ b. b || eqb (get_or xs i d).0 n) (joined.fresh n)
        ∙ fresh_new (noted n) (before n) (set_of (take i xs) n) (eqb (get_or xs i d).0 n) (reached_at false joined.reached at n)
        ∙ ap (λ b. noted n || (b && not (before n))) (sym (one_more n));
  }
