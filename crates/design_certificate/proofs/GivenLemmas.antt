-- The goals of the tables, gone through together with the numbers.
use Rattle.std.proofs.Common.{◌≡◌, ◌↔◌, ℕ, zero, suc, ◌+◌, ◌<◌, ◌≤◌, Bool, true, false, not, eqb, List, [], ◌∷◌, length, map, drop, get_or, refl, sym, ◌∙◌, ap, subst, inl, inr, arith, Option, Some, None}
use Rattle.std.specs.Prelude.{IsTrue}
use Rattle.std.proofs.lemmas.Bool.{false≢true, eqb-true, eq-eqb, cases_lt, cases_Bool}
use Rattle.std.proofs.lemmas.List.{drop_more, drop_all}
use Rattle.std.proofs.lemmas.Option.{slice_get-get_or}
use Rattle.grd_base.specs.declared.ids.GoalId.{GoalId}
use Rattle.design_certificate.specs.Live.{GoalTable, given_from, HasNumber}

abbrev pub goals_of : List GoalTable → List GoalId
goals_of tables = map (λ x. x.0) tables

abbrev pub number_at : ℕ → GoalId
number_at k = record { 0 = k }

module _ (costs : List (Option ℕ)) (k : ℕ) (within : k < length costs) where
  given_cases : (x : Option ℕ) → get_or costs k None ≡ x → (rest : List (Option ℕ)) → (HasNumber costs (number_at k) → given_from k (x ∷ rest) ≡ number_at k ∷ given_from (k + 1) rest)
      × ((HasNumber costs (number_at k) → ⊥) → given_from k (x ∷ rest) ≡ given_from (k + 1) rest)
  given_cases None is rest = (λ has. absurd (none has), λ _. refl)
    where
      none : HasNumber costs (number_at k) → ⊥
      none has = let e : Some None ≡ Some (Some has.0) = sym (ap (λ (o : Option ℕ). Some o) is) ∙ sym (slice_get-get_or costs k None within) ∙ has.1 in cc
  given_cases (Some c) is rest = (λ _. refl, λ none. absurd (none (c, slice_get-get_or costs k None within ∙ ap (λ (o : Option ℕ). Some o) is)))

  pub given_here : HasNumber costs (number_at k) → given_from k (drop k costs) ≡ number_at k ∷ given_from (k + 1) (drop (k + 1) costs)
  given_here has = ap (given_from k) (drop_more costs k None within) ∙ (given_cases (get_or costs k None) refl (drop (k + 1) costs)).0 has

  pub given_not : (HasNumber costs (number_at k) → ⊥) → given_from k (drop k costs) ≡ given_from (k + 1) (drop (k + 1) costs)
  given_not none = ap (given_from k) (drop_more costs k None within) ∙ (given_cases (get_or costs k None) refl (drop (k + 1) costs)).1 none

-- the first tables are those of the first goals with numbers
pub record AreListed (costs : List (Option ℕ)) (tables : List GoalTable) (at k : ℕ) : Type 0 where
  pub low : at ≤ length tables
  pub tells : (goals_of (drop at tables) ≡ given_from k (drop k costs)) ↔ (goals_of tables ≡ given_from 0 costs)

module _ (costs : List (Option ℕ)) (tables : List GoalTable) (at k : ℕ) (listed : AreListed costs tables at k) where
  pub listed_skip : k < length costs → (HasNumber costs (number_at k) → ⊥) → AreListed costs tables at (k + 1)
  listed_skip within none = record { low = listed.low; tells = subst (λ gs. (goals_of (drop at tables) ≡ gs) ↔ (goals_of tables ≡ given_from 0 costs)) (given_not costs k within none) listed.tells }

  pub listed_more : (d : GoalTable) → k < length costs → HasNumber costs (number_at k) → at < length tables → (get_or tables at d).0 ≡ number_at k → AreListed costs tables (at + 1) (k + 1)
  listed_more d within has more same = record {
    low = omega (arith, more);
    tells = (
      λ e. listed.tells.0 (front ∙ ap (λ g. g ∷ goals_of (drop (at + 1) tables)) same ∙ ap (λ gs. number_at k ∷ gs) e ∙ sym (given_here costs k within has)),
      λ e. tail (sym (front ∙ ap (λ g. g ∷ goals_of (drop (at + 1) tables)) same) ∙ listed.tells.1 e ∙ given_here costs k within has),
    );
  }
    where
      front : goals_of (drop at tables) ≡ (get_or tables at d).0 ∷ goals_of (drop (at + 1) tables)
      front = ap goals_of (drop_more tables at d more)

      tail : {xs ys : List GoalId} → number_at k ∷ xs ≡ number_at k ∷ ys → xs ≡ ys
      tail e = cc

  pub listed_none : k < length costs → HasNumber costs (number_at k) → at ≡ length tables → IsTrue false ↔ (goals_of tables ≡ given_from 0 costs)
  listed_none within has full = (λ h. absurd (false≢true h), λ e. absurd (apart (sym (ap goals_of (drop_all at tables (omega (arith, full)))) ∙ listed.tells.1 e ∙ given_here costs k within has)))
    where
      apart : {x : GoalId} {xs : List GoalId} → [] ≡ x ∷ xs → ⊥
      apart e = cc

  pub listed_other : (d : GoalTable) → k < length costs → HasNumber costs (number_at k) → at < length tables → ((get_or tables at d).0 ≡ number_at k → ⊥) → IsTrue false ↔ (goals_of tables ≡ given_from 0 costs)
  listed_other d within has more differ = (λ h. absurd (false≢true h), λ e. absurd (differ (head (sym (ap goals_of (drop_more tables at d more)) ∙ listed.tells.1 e ∙ given_here costs k within has))))
    where
      head : {x y : GoalId} {xs ys : List GoalId} → x ∷ xs ≡ y ∷ ys → x ≡ y
      head e = cc

  pub listed_end : length costs ≤ k → (b : Bool) → b ≡ eqb at (length tables) → IsTrue b ↔ (goals_of tables ≡ given_from 0 costs)
  listed_end past b is = (
    λ h.
        let full : at ≡ length tables = eqb-true at (length tables) (sym is ∙ h) in
        listed.tells.0 (ap goals_of (drop_all at tables (omega (arith, full))) ∙ sym (ap (given_from k) (drop_all k costs past))),
    λ e. is ∙ eq-eqb at (length tables) (elim (cases_lt at (length tables)) [
      | inl more ↦ absurd (apart at tables more (listed.tells.1 e ∙ ap (given_from k) (drop_all k costs past)))
      | inr full ↦ omega (arith, full, listed.low)
    ]),
  )
    where
      apart : (i : ℕ) (xs : List GoalTable) → i < length xs → goals_of (drop i xs) ≡ [] → ⊥
      apart i [] low e = absurd (omega (arith, low))
      apart zero (x ∷ xs) low e = cc
      apart (suc i) (x ∷ xs) low e = apart i xs (omega (arith, low)) e

-- what a test of two numbers tells
pub differ_told : (m n : ℕ) (b : Bool) → b ≡ not (eqb m n) → b ≡ true → m ≡ n → ⊥
differ_told m n b is yes_is same = false≢true (sym (ap not (eq-eqb m n same)) ∙ sym is ∙ yes_is)

pub same_told : (m n : ℕ) (b : Bool) → b ≡ not (eqb m n) → b ≡ false → m ≡ n
same_told m n b is out = elim (cases_Bool (eqb m n)) [
  | inl same ↦ eqb-true m n same
  | inr other ↦ absurd (false≢true (sym out ∙ is ∙ ap not other))
]

pub below : (m n : ℕ) → m ≤ n → (m ≡ n → ⊥) → m < n
below m n low differ = elim (cases_lt m n) [ inl less ↦ less | inr past ↦ absurd (differ (omega (arith, low, past))) ]
