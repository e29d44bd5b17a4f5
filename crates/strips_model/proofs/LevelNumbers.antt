-- The level that is computed is the level: a task's rounds each reach an atom until one reaches none, so no more
-- of them tell anything than there are atoms.
use Rattle.std.proofs.Common.{◌≡◌, ◌≤◌, ◌<◌, ◌⊎◌, ℕ, zero, suc, ◌+◌, Bool, true, false, cond, List, refl, sym, ◌∙◌, ap, subst, inl, inr, arith, Option, Some, None}
use Rattle.std.specs.Option.{option_map}
use mathlib.Core.Path.{fun_ext}
use Rattle.std.proofs.lemmas.Bool.{cases_Bool, cases_lt, cases_eq}
use Rattle.grd_base.specs.declared.ids.ActionId.{ActionId}
use Rattle.grd_base.specs.declared.ids.GoalId.{GoalId}
use Rattle.grd_base.specs.Sets.{IsSubset}
use Rattle.strips_model.specs.Values.{PlainTask, IsTask}
use Rattle.strips_model.specs.Plans.{State, goal_holds}
use Rattle.strips_model.specs.Levels.{grown, after_rounds, IsLevel, level_within, level_at, missing}
use Rattle.strips_model.proofs.LevelLaws.{grown_keeps, grown_high, rounds_shift, closed_never, level_same}

-- no more numbers below n are missing than there are
pub missing_few : (u : State) (n : ℕ) → missing u n ≤ n
missing_few u zero = omega arith
missing_few u (suc n) = elim (cases_Bool (u n)) [
  | inl is ↦ rw is (omega (arith, missing_few u n))
  | inr is ↦ rw is (omega (arith, missing_few u n))
]

-- in a greater set fewer numbers are missing
module _ (u v : State) (kept : (n : ℕ) → u n ≡ true → v n ≡ true) where
  one_missing : (n : ℕ) → cond (v n) 0 1 ≤ cond (u n) 0 1
  one_missing n = by (u n) (v n) (kept n)
    where
      by : (x y : Bool) → (x ≡ true → y ≡ true) → cond y 0 1 ≤ cond x 0 1
      by true y h = rw (h refl) (omega arith)
      by false true h = omega arith
      by false false h = omega arith

  missing_at_most : (n : ℕ) → missing v n ≤ missing u n
  missing_at_most zero = omega arith
  missing_at_most (suc n) = omega (arith, one_missing n, missing_at_most n)

  pub missing_fewer : (k : ℕ) → u k ≡ false → v k ≡ true → (n : ℕ) → k < n → missing v n < missing u n
  missing_fewer k out is zero below = absurd (omega arith)
  missing_fewer k out is (suc n) below = elim (cases_eq k n) [
    | inl same ↦
        let last : cond (v n) 0 1 < cond (u n) 0 1 = subst (λ (m : ℕ). cond (v m) 0 1 < cond (u m) 0 1) same (rw (out, is) (omega arith)) in
        omega (arith, last, missing_at_most n)
    | inr other ↦ omega (arith, one_missing n, missing_fewer k out is n (omega arith))
  ]

-- a larger set has some number below n that the other has not, or they are the same below n
differ : (u v : State) → IsSubset u v → (n : ℕ) → ((m : ℕ) → m < n → v m ≡ u m) ⊎ ((k : ℕ) × (k < n) × (u k ≡ false) × (v k ≡ true))
differ u v kept zero = inl (λ m low. absurd (omega arith))
differ u v kept (suc n) = elim (differ u v kept n) [
  | inr (k, low, out, is) ↦ inr (k, omega (arith, low), out, is)
  | inl same ↦
      let more : (v n ≡ u n) → (m : ℕ) → m < suc n → v m ≡ u m =
      λ last m low. elim (cases_eq m n) as (λ _. v m ≡ u m) [
        | inl here ↦ ap v here ∙ last ∙ ap u (sym here)
        | inr other ↦ same m (omega arith)
      ] in
      elim (cases_Bool (u n)) [
        | inl old ↦ inl (more (kept n old ∙ sym old))
        | inr out ↦ elim (cases_Bool (v n)) [
          | inl is ↦ inr (n, omega arith, out, is)
          | inr none ↦ inl (more (none ∙ sym out))
        ]
      ]
]

module _ (t : PlainTask) (task : IsTask t) (removed : List ActionId) where
  -- a round reaches nothing more, or fewer atoms are missing after it
  closed_or_fewer : (u : State) → (grown t removed u ≡ u) ⊎ (missing (grown t removed u) t.atoms < missing u t.atoms)
  closed_or_fewer u = elim (differ u (grown t removed u) (grown_keeps t removed u) t.atoms) [
    | inl same ↦ inl (fun_ext (λ n. elim (cases_lt n t.atoms) as (λ _. grown t removed u n ≡ u n) [
      | inl low ↦ same n low
      | inr high ↦ grown_high t task removed u n high
    ]))
    | inr (k, low, out, is) ↦ inr (missing_fewer u (grown t removed u) (grown_keeps t removed u) k out is t.atoms low)
  ]

  -- so many rounds reached as many atoms, or a round reaches nothing more
  closed_or_few : (s : State) (k : ℕ) → (grown t removed (after_rounds t removed s k) ≡ after_rounds t removed s k) ⊎ (k + missing (after_rounds t removed s k) t.atoms ≤ t.atoms)
  unfolding after_rounds
  closed_or_few s zero = inr (omega (arith, missing_few s t.atoms))
  closed_or_few s (suc k) = elim (closed_or_fewer (after_rounds t removed s k)) [
    | inl closed ↦ inl (ap (grown t removed) closed)
    | inr fewer ↦ elim (closed_or_few s k) [
      | inl closed ↦ inl (ap (grown t removed) closed)
      | inr few ↦ inr (omega (arith, few, fewer))
    ]
  ]

  -- after as many rounds as there are atoms, a round reaches nothing more
  pub rounds_end : (s : State) → grown t removed (after_rounds t removed s t.atoms) ≡ after_rounds t removed s t.atoms
  rounds_end s = elim (closed_or_few s t.atoms) [
    | inl closed ↦ closed
    | inr few ↦ elim (closed_or_fewer (after_rounds t removed s t.atoms)) [
      | inl closed ↦ closed
      | inr fewer ↦ absurd (omega (arith, few, fewer))
    ]
  ]

module _ (t : PlainTask) (g : GoalId) (removed : List ActionId) where
  -- a goal that holds has the level 0
  level_now : (s : State) → goal_holds t g s ≡ true → IsLevel t g removed s (Some 0)
  unfolding after_rounds
  level_now s holds = (holds, λ j low. absurd (omega arith))

  -- the level of a goal that does not hold is one more than after one round
  level_later : (s : State) (k : ℕ) → goal_holds t g s ≡ false → IsLevel t g removed (grown t removed s) (Some k) → IsLevel t g removed s (Some (suc k))
  unfolding after_rounds
  level_later s k leaves_open level = (ap (goal_holds t g) (sym (rounds_shift t removed s k)) ∙ level.0, at)
    where
      at : (j : ℕ) → j < suc k → goal_holds t g (after_rounds t removed s j) ≡ false
      at zero low = leaves_open
      at (suc j) low = ap (goal_holds t g) (sym (rounds_shift t removed s j)) ∙ level.1 j (omega (arith, low))

  -- a number that is found is the level, and at most as many rounds were tried
  within_level : (n : ℕ) (s : State) (k : ℕ) → level_within t g removed s n ≡ Some k → IsLevel t g removed s (Some k) × (k ≤ n)
  unfolding level_within
  within_level zero s k is = by (goal_holds t g s) refl is
    where
      by : (b : Bool) → goal_holds t g s ≡ b → cond b (Some 0) None ≡ Some k → IsLevel t g removed s (Some k) × (k ≤ zero)
      by true holds e = let same : 0 ≡ k = cc in subst (λ m. IsLevel t g removed s (Some m) × (m ≤ zero)) same (level_now s holds, omega arith)
      by false holds e = cc
  within_level (suc n) s k is = by (goal_holds t g s) refl (level_within t g removed (grown t removed s) n) is (within_level n (grown t removed s))
    where
      by : (b : Bool) → goal_holds t g s ≡ b → (o : Option ℕ) → cond b (Some 0) (option_map (λ m. suc m) o) ≡ Some k
          → ((m : ℕ) → o ≡ Some m → IsLevel t g removed (grown t removed s) (Some m) × (m ≤ n)) → IsLevel t g removed s (Some k) × (k ≤ suc n)
      by true holds o e rest = let same : 0 ≡ k = cc in subst (λ m. IsLevel t g removed s (Some m) × (m ≤ suc n)) same (level_now s holds, omega arith)
      by false holds None e rest = cc
      by false holds (Some m) e rest =
          let same : suc m ≡ k = cc in
          let x = rest m refl in
          subst (λ j. IsLevel t g removed s (Some j) × (j ≤ suc n)) same (level_later s m holds x.0, omega (arith, x.1))

  -- where none is found, the goal holds after none of the rounds that were tried
  within_none : (n : ℕ) (s : State) → level_within t g removed s n ≡ None → (j : ℕ) → j ≤ n → goal_holds t g (after_rounds t removed s j) ≡ false
  unfolding level_within after_rounds
  within_none zero s is = by (goal_holds t g s) refl is
    where
      by : (b : Bool) → goal_holds t g s ≡ b → cond {A = Option ℕ} b (Some 0) None ≡ None → (j : ℕ) → j ≤ zero → goal_holds t g (after_rounds t removed s j) ≡ false
      by true holds e j low = cc
      by false holds e zero low = holds
      by false holds e (suc j) low = absurd (omega (arith, low))
  within_none (suc n) s is = by (goal_holds t g s) refl (level_within t g removed (grown t removed s) n) is (within_none n (grown t removed s))
    where
      by : (b : Bool) → goal_holds t g s ≡ b → (o : Option ℕ) → cond b (Some 0) (option_map (λ m. suc m) o) ≡ None
          → (o ≡ None → (j : ℕ) → j ≤ n → goal_holds t g (after_rounds t removed (grown t removed s) j) ≡ false) → (j : ℕ) → j ≤ suc n → goal_holds t g (after_rounds t removed s j) ≡ false
      by true holds o e rest j low = cc
      by false holds (Some m) e rest j low = cc
      by false holds None e rest zero low = holds
      by false holds None e rest (suc j) low = ap (goal_holds t g) (sym (rounds_shift t removed s j)) ∙ rest refl j (omega (arith, low))

module _ (t : PlainTask) (g : GoalId) (removed : List ActionId) (s : State) where
  -- what is computed is the level
  pub level_at_is : IsTask t → IsLevel t g removed s (level_at t g removed s)
  level_at_is task = by (level_at t g removed s) refl
    where
      by : (level : Option ℕ) → level_at t g removed s ≡ level → IsLevel t g removed s level
      by None is = closed_never t g removed s t.atoms (rounds_end t task removed s) (within_none t g removed t.atoms s is)
      by (Some n) is = (within_level t g removed t.atoms s n is).0

  -- and no other is
  pub level_at_of : IsTask t → (level : Option ℕ) → IsLevel t g removed s level → level_at t g removed s ≡ level
  level_at_of task level is = level_same t g removed s (level_at t g removed s) level (level_at_is task) is

  -- a level is at most the number of atoms
  pub level_at_low : (n : ℕ) → level_at t g removed s ≡ Some n → n ≤ t.atoms
  level_at_low n is = (within_level t g removed t.atoms s n is).1
