-- Levels: what is reached grows, a sequence is within as many rounds as it has steps, and a goal has one level.
use Rattle.std.proofs.Common.{◌≡◌, ◌≤◌, ◌<◌, ℕ, zero, suc, ◌+◌, true, false, not, List, [], ◌∷◌, length, get_or, eqb, refl, sym, ◌∙◌, ap, subst, inl, inr, arith, Option, Some, None, ◌⊎◌, add-one, ◌&&◌}
use Rattle.std.specs.Prelude.{slice_get, All, IsTrue, IsSomeAnd}
use Rattle.std.specs.Option.{option_map_or, option_and_then}
use Rattle.std.specs.List.{enumerate_from}
use mathlib.Core.Path.{ap₂}
use Rattle.std.proofs.lemmas.Bool.{cases_Bool, false≢true, and_parts, and_from, or_cases, or_from, or_left, or_right, not-true, not_from_false, eqb-true, eq-eqb, ne_eqb, cases_lt, cases_eq, false_from_ne_true}
use Rattle.std.proofs.lemmas.List.Elements.{All-tail}
use Rattle.std.proofs.lemmas.List.Folds.{Any-from_list_any, list_any_at}
use Rattle.std.proofs.lemmas.List.FromFn.{length-enumerate_from, get_or-enumerate_from}
use Rattle.std.proofs.lemmas.Option.{slice_get_within, slice_get-get_or, get_or_from_slice_get}
use Rattle.grd_base.specs.declared.ids.AtomId.{AtomId}
use Rattle.grd_base.specs.declared.ids.ActionId.{ActionId}
use Rattle.grd_base.specs.declared.ids.GoalId.{GoalId}
use Rattle.grd_base.specs.Rising.{has_id}
use Rattle.grd_base.specs.Sets.{IsSubset}
use Rattle.strips_model.specs.Values.{GroundAction, Goal, PlainTask, IsActionBelow, IsTask}
use Rattle.strips_model.specs.Plans.{State, IsOver, set_of, has_all, can_apply, effect, satisfies, after, step_without, goal_holds, Reaches}
use Rattle.strips_model.specs.Levels.{joins, grown, after_rounds, IsLevel}
use Rattle.strips_model.proofs.MoveLemmas.{step_by}

-- the atoms that a set has are in each larger set
pub has_all_more : (s u : State) (xs : List AtomId) → IsSubset s u → has_all s xs ≡ true → has_all u xs ≡ true
has_all_more s u [] within h = refl
has_all_more s u (x ∷ xs) within h =
    let parts = and_parts (s x.0) (has_all s xs) h in
    and_from (u x.0) (has_all u xs) (within x.0 parts.0) (has_all_more s u xs within parts.1)

-- a goal that holds in a set holds in each larger one
pub goal_more : (t : PlainTask) (g : GoalId) (s u : State) → IsSubset s u → goal_holds t g s ≡ true → goal_holds t g u ≡ true
goal_more t g s u within h = cases (slice_get t.goals g.0) h
  where
    cases : (o : Option Goal) → option_map_or (λ goal. satisfies goal s) o false ≡ true → option_map_or (λ goal. satisfies goal u) o false ≡ true
    cases None h = absurd (false≢true h)
    cases (Some goal) h =
        let parts = and_parts (not goal.blocked) (has_all s goal.atoms) h in
        and_from (not goal.blocked) (has_all u goal.atoms) parts.0 (has_all_more s u goal.atoms within parts.1)

-- an action that applies in a set applies in each larger one
applies_more : (act : GroundAction) (s u : State) → IsSubset s u → can_apply act s ≡ true → can_apply act u ≡ true
applies_more act s u within h =
    let parts = and_parts (not act.blocked) (has_all s act.pre) h in
    and_from (not act.blocked) (has_all u act.pre) parts.0 (has_all_more s u act.pre within parts.1)

-- the atoms of a list are in a set that has all of them
pub set_within : (u : State) (xs : List AtomId) → has_all u xs ≡ true → IsSubset (set_of xs) u
set_within u [] h n member = absurd (false≢true member)
set_within u (x ∷ xs) h n member =
    let parts = and_parts (u x.0) (has_all u xs) h in
    elim (or_cases (eqb x.0 n) (set_of xs n) member) as (λ _. IsTrue (u n)) [
      | inl here ↦ subst (λ m. IsTrue (u m)) (eqb-true x.0 n here) parts.0
      | inr later ↦ set_within u xs parts.1 n later
    ]

-- and a set that has the atoms of a list has all of them
pub has_all_set : (u : State) (xs : List AtomId) → IsSubset (set_of xs) u → has_all u xs ≡ true
has_all_set u [] within = refl
has_all_set u (x ∷ xs) within =
    and_from (u x.0) (has_all u xs) (within x.0 (or_left (eqb x.0 x.0) (set_of xs x.0) (eq-eqb x.0 x.0 refl)))
    (has_all_set u xs (λ n member. within n (or_right (eqb x.0 n) (set_of xs n) member)))

-- an action of the task that is not removed and applies in the set
pub record IsActing (t : PlainTask) (removed : List ActionId) (u : State) (a : ActionId) (act : GroundAction) : Type 0 where
  pub at : slice_get t.actions a.0 ≡ Some act
  pub kept : has_id removed a ≡ false
  pub applies : can_apply act u ≡ true

module _ (t : PlainTask) (removed : List ActionId) where
  -- what an action adds that applies is reached in the next round
  pub grown_by : (u : State) (a : ActionId) (act : GroundAction) → IsActing t removed u a act → IsSubset (set_of act.add) (grown t removed u)
  unfolding grown
  grown_by u a act acts n adds =
      let d : ℕ × GroundAction = (a.0, act) in
      let within : a.0 < length t.actions = slice_get_within t.actions a.0 act acts.at in
      let long : length (enumerate_from 0 t.actions) ≡ length t.actions = length-enumerate_from 0 t.actions in
      let is : get_or (enumerate_from 0 t.actions) a.0 d ≡ (0 + a.0, get_or t.actions a.0 act) = get_or-enumerate_from 0 t.actions a.0 d within in
      let none : 0 + a.0 ≡ a.0 = omega arith in
      let same : (0 + a.0, get_or t.actions a.0 act) ≡ d = ap₂ (λ m x. (m, x)) none (get_or_from_slice_get t.actions a.0 act act acts.at) in
      let passes : joins removed u n d ≡ true = and_from (not (has_id removed a)) (can_apply act u && set_of act.add n) (not_from_false _ acts.kept) (and_from (can_apply act u) (set_of act.add n) acts.applies adds) in
      or_right (u n) _ (list_any_at (joins removed u n) (enumerate_from 0 t.actions) a.0 d (omega arith) (ap (joins removed u n) (is ∙ same) ∙ passes))

  -- what is reached in the next round was reached before, or an action adds it that applies
  pub grown_from : (u : State) (n : ℕ) → grown t removed u n ≡ true
      → (u n ≡ true) ⊎ ((a : ActionId) × (act : GroundAction) × IsActing t removed u a act × (set_of act.add n ≡ true))
  unfolding grown
  grown_from u n member = elim (or_cases (u n) _ member) [
    | inl old ↦ inl old
    | inr new ↦
        let xs = enumerate_from 0 t.actions in
        let m = Any-from_list_any (joins removed u n) xs new in
        let k = m.0 in
        let long : length xs ≡ length t.actions = length-enumerate_from 0 t.actions in
        let within : k < length t.actions = omega (arith, m.2) in
        let act = get_or t.actions k m.1.1 in
        let is : get_or xs k m.1 ≡ (0 + k, act) = get_or-enumerate_from 0 t.actions k m.1 within in
        let none : 0 + k ≡ k = omega arith in
        let joined : joins removed u n (k, act) ≡ true = ap (λ i. joins removed u n (i, act)) (sym none) ∙ ap (joins removed u n) (sym is ∙ m.3) ∙ m.4 in
        let parts = and_parts (not (has_id removed (record { 0 = k }))) (can_apply act u && set_of act.add n) joined in
        let both = and_parts (can_apply act u) (set_of act.add n) parts.1 in
        inr (record { 0 = k }, act, record { at = slice_get-get_or t.actions k m.1.1 within; kept = not-true _ parts.0; applies = both.0 }, both.1)
  ]

  -- what was reached stays
  pub grown_keeps : (u : State) → IsSubset u (grown t removed u)
  unfolding grown
  grown_keeps u n member = or_left (u n) _ member

  -- a larger set grows to a larger one
  pub grown_mono : (u v : State) → IsSubset u v → IsSubset (grown t removed u) (grown t removed v)
  grown_mono u v within n member = elim (grown_from u n member) as (λ _. IsTrue (grown t removed v n)) [
    | inl old ↦ grown_keeps v n (within n old)
    | inr (a, act, acts, adds) ↦ grown_by v a act (record { at = acts.at; kept = acts.kept; applies = applies_more act u v within acts.applies }) n adds
  ]

  -- one round more
  pub round_next : (s : State) (k : ℕ) → after_rounds t removed s (k + 1) ≡ grown t removed (after_rounds t removed s k)
  unfolding after_rounds
  round_next s k = ap (after_rounds t removed s) (add-one k)

  -- later rounds reach more
  pub rounds_rise : (s : State) (i j : ℕ) → i ≤ j → IsSubset (after_rounds t removed s i) (after_rounds t removed s j)
  unfolding after_rounds
  rounds_rise s i zero low n member = let same : i ≡ zero = omega arith in subst (λ k. IsTrue (after_rounds t removed s k n)) same member
  rounds_rise s i (suc j) low n member = elim (cases_eq i (suc j)) as (λ _. IsTrue (after_rounds t removed s (suc j) n)) [
    | inl same ↦ subst (λ k. IsTrue (after_rounds t removed s k n)) same member
    | inr other ↦ grown_keeps (after_rounds t removed s j) n (rounds_rise s i j (omega arith) n member)
  ]

  -- rounds from the set after one round are one more
  pub rounds_shift : (s : State) (k : ℕ) → after_rounds t removed (grown t removed s) k ≡ grown t removed (after_rounds t removed s k)
  unfolding after_rounds
  rounds_shift s zero = refl
  rounds_shift s (suc k) = ap (grown t removed) (rounds_shift s k)

  -- a step is within one round
  pub step_grown : (s v u : State) (a : ActionId) → IsSubset s v → step_without t removed s a ≡ Some u → IsSubset u (grown t removed v)
  step_grown s v u a within is n member =
      let x = step_by t removed s a u is in
      let act = x.action in
      let there : effect act s n ≡ true = ap (λ w. w n) (sym x.leads) ∙ member in
      elim (or_cases (not (set_of act.del n) && s n) (set_of act.add n) there) as (λ _. IsTrue (grown t removed v n)) [
        | inl old ↦ grown_keeps v n (within n (and_parts (not (set_of act.del n)) (s n) old).1)
        | inr new ↦ grown_by v a act (record { at = x.at; kept = x.kept; applies = applies_more act s v within x.applies }) n new
      ]

  -- a sequence from within a set is within as many rounds from it as it has steps
  sequence_within : (p : List ActionId) (s v u : State) → IsSubset s v → after t removed s p ≡ Some u → IsSubset u (after_rounds t removed v (length p))
  unfolding after after_rounds
  sequence_within [] s v u within is = let same : s ≡ u = cc in subst (λ w. IsSubset w v) same within
  sequence_within (a ∷ q) s v u within is = by (step_without t removed s a) refl is (λ w. sequence_within q w (grown t removed v) u)
    where
      by : (o : Option State) → step_without t removed s a ≡ o → option_and_then (λ w. after t removed w q) o ≡ Some u
          → ((w : State) → IsSubset w (grown t removed v) → after t removed w q ≡ Some u → IsSubset u (after_rounds t removed (grown t removed v) (length q)))
          → IsSubset u (grown t removed (after_rounds t removed v (length q)))
      by None at h rest = cc
      by (Some w) at h rest = λ n member. ap (λ f. f n) (sym (rounds_shift v (length q))) ∙ rest w (step_grown s v w a within at) h n member

  -- a sequence is within as many rounds as it has steps
  pub rounds_hold : (s u : State) (p : List ActionId) → after t removed s p ≡ Some u → IsSubset u (after_rounds t removed s (length p))
  rounds_hold s u p = sequence_within p s s u (λ n member. member)

module _ (t : PlainTask) (g : GoalId) (removed : List ActionId) (s : State) where
  -- a goal that a sequence reaches holds after as many rounds
  reached_holds : (p : List ActionId) → Reaches t g removed s p → goal_holds t g (after_rounds t removed s (length p)) ≡ true
  reached_holds p reaches = by (after t removed s p) refl reaches
    where
      by : (o : Option State) → after t removed s p ≡ o → IsSomeAnd o (λ u. IsTrue (goal_holds t g u)) → goal_holds t g (after_rounds t removed s (length p)) ≡ true
      by None is h = absurd h
      by (Some u) is h = goal_more t g u (after_rounds t removed s (length p)) (rounds_hold t removed s u p is) h

  -- no sequence to the goal is shorter than its level
  pub level_steps : (n : ℕ) → IsLevel t g removed s (Some n) → (p : List ActionId) → Reaches t g removed s p → n ≤ length p
  level_steps n level p reaches = elim (cases_lt (length p) n) [
    | inl low ↦ absurd (false≢true (sym (level.1 (length p) low) ∙ reached_holds p reaches))
    | inr high ↦ high
  ]

  -- and where it has none, none leads to the goal
  pub level_none : IsLevel t g removed s None → (p : List ActionId) → Reaches t g removed s p → ⊥
  level_none level p reaches = false≢true (sym (level (length p)) ∙ reached_holds p reaches)

  -- where a round reaches nothing more, no later one does
  pub stays : (k j : ℕ) → grown t removed (after_rounds t removed s k) ≡ after_rounds t removed s k → k ≤ j → after_rounds t removed s j ≡ after_rounds t removed s k
  unfolding after_rounds
  stays k zero closed low = let same : k ≡ zero = omega arith in ap (after_rounds t removed s) (sym same)
  stays k (suc j) closed low = elim (cases_eq k (suc j)) [
    | inl same ↦ ap (after_rounds t removed s) (sym same)
    | inr other ↦ ap (grown t removed) (stays k j closed (omega arith)) ∙ closed
  ]

  -- a goal that did not hold until a round reaches nothing more never does
  pub closed_never : (k : ℕ) → grown t removed (after_rounds t removed s k) ≡ after_rounds t removed s k
      → ((j : ℕ) → j ≤ k → goal_holds t g (after_rounds t removed s j) ≡ false) → IsLevel t g removed s None
  closed_never k closed before j = elim (cases_lt j k) [
    | inl low ↦ before j (omega arith)
    | inr high ↦ ap (goal_holds t g) (stays k j closed high) ∙ before k (omega arith)
  ]

  -- a goal has one level
  pub level_same : (a b : Option ℕ) → IsLevel t g removed s a → IsLevel t g removed s b → a ≡ b
  level_same None None x y = refl
  level_same None (Some n) x y = absurd (false≢true (sym (x n) ∙ y.0))
  level_same (Some m) None x y = absurd (false≢true (sym (y m) ∙ x.0))
  level_same (Some m) (Some n) x y = elim (cases_eq m n) [
    | inl same ↦ ap Some same
    | inr other ↦ elim (cases_lt m n) [
      | inl low ↦ absurd (false≢true (sym (y.1 m low) ∙ x.0))
      | inr high ↦ absurd (false≢true (sym (x.1 n (omega arith)) ∙ y.0))
    ]
  ]

-- what is not in a list of atoms below the bound
none_past : (bound : ℕ) (xs : List AtomId) → All (λ a. a.0 < bound) xs → (n : ℕ) → bound ≤ n → set_of xs n ≡ false
none_past bound [] below n high = refl
none_past bound (x ∷ xs) below n high =
    let first : x.0 < bound = below 0 x (omega arith) in
    or_from (eqb x.0 n) (set_of xs n) (ne_eqb x.0 n (omega arith)) (none_past bound xs (All-tail (λ (a : AtomId). a.0 < bound) x xs below) n high)

module _ (t : PlainTask) (task : IsTask t) (removed : List ActionId) where
  -- a round reaches no number past the atoms
  pub grown_high : (u : State) (n : ℕ) → t.atoms ≤ n → grown t removed u n ≡ u n
  grown_high u n high = elim (cases_Bool (grown t removed u n)) [
    | inl is ↦ elim (grown_from t removed u n is) [
      | inl old ↦ is ∙ sym old
      | inr (a, act, acts, adds) ↦
          let within : a.0 < length t.actions = slice_get_within t.actions a.0 act acts.at in
          let same : get_or t.actions a.0 act ≡ act = get_or_from_slice_get t.actions a.0 act act acts.at in
          let below : IsActionBelow t.atoms act = subst (IsActionBelow t.atoms) same (task.actions a.0 act within) in
          absurd (false≢true (sym (none_past t.atoms act.add below.add.below n high) ∙ adds))
    ]
    | inr is ↦ is ∙ sym (false_from_ne_true (u n) (λ old. false≢true (sym is ∙ grown_keeps t removed u n old)))
  ]

  -- so the rounds from a state over the task stay over it
  pub rounds_over : (s : State) → IsOver t s → (k : ℕ) → IsOver t (after_rounds t removed s k)
  unfolding after_rounds
  rounds_over s over zero n high = over n high
  rounds_over s over (suc k) n high = grown_high (after_rounds t removed s k) n high ∙ rounds_over s over k n high

-- what a step leads to, and each subset of it, is within one round of any set that contains the state
pub step_within : (t : PlainTask) (removed : List ActionId) (s v u w : State) (a : ActionId) → step_without t removed s a ≡ Some v → IsSubset u v → IsSubset s w → IsSubset u (grown t removed w)
step_within t removed s v u w a is within contains n member = step_grown t removed s w v a contains is n (within n member)
