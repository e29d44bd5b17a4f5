-- Sequences without one set of actions and without another.
use Rattle.std.proofs.Common.{◌≡◌, ℕ, ◌≤◌, Bool, true, false, List, [], ◌∷◌, length, refl, sym, ◌∙◌, ap, subst, inl, inr, arith, Option, Some, None}
use Rattle.std.specs.Prelude.{IsTrue, IsSomeAnd}
use Rattle.std.specs.Option.{option_and_then}
use Rattle.std.proofs.lemmas.Bool.{false≢true}
use Rattle.grd_base.specs.declared.ids.ActionId.{ActionId}
use Rattle.grd_base.specs.declared.ids.GoalId.{GoalId}
use Rattle.grd_base.specs.Rising.{has_id}
use Rattle.strips_model.specs.Values.{PlainTask}
use Rattle.strips_model.specs.Plans.{State, after, step_without, goal_holds, Reaches, IsCost}
use Rattle.strips_model.proofs.MoveLemmas.{step_by}
use Rattle.strips_model.proofs.StepLemmas.{kept_step}
use Rattle.design_certificate.specs.Designs.{AreAmong, AreOutside}
use Rattle.design_certificate.proofs.ListLemmas.{member_cases, member_first, member_later, not_both}

pub some_and : {X : Type 0} (o : Option X) (P : X → Type 0) → IsSomeAnd o P → (x : X) × (o ≡ Some x) × P x
some_and None P h = absurd h
some_and (Some x) P h = (x, refl, h)

-- the first step of a sequence, and what is left
pub first_of : (t : PlainTask) (removed : List ActionId) (s : State) (a : ActionId) (p : List ActionId) (u : State) → after t removed s (a ∷ p) ≡ Some u
    → (x : State) × (step_without t removed s a ≡ Some x) × (after t removed x p ≡ Some u)
unfolding after
first_of t removed s a p u e = by (step_without t removed s a) refl e
  where
    by : (o : Option State) → step_without t removed s a ≡ o → option_and_then (λ x. after t removed x p) o ≡ Some u
        → (x : State) × (step_without t removed s a ≡ Some x) × (after t removed x p ≡ Some u)
    by None is h = cc
    by (Some x) is h = (x, is, h)

pub next_of : (t : PlainTask) (removed : List ActionId) (s x : State) (a : ActionId) (p : List ActionId) → step_without t removed s a ≡ Some x
    → after t removed s (a ∷ p) ≡ after t removed x p
unfolding after
next_of t removed s x a p e = ap (option_and_then (λ y. after t removed y p)) e

module _ (t : PlainTask) (removed other : List ActionId) where
  -- a step by an action that is not in the other set is one without that set
  step_other : (s x : State) (a : ActionId) → step_without t removed s a ≡ Some x → has_id other a ≡ false → step_without t other s a ≡ Some x
  step_other s x a e free = kept_step t other s a free ∙ sym (kept_step t removed s a (step_by t removed s a x e).kept) ∙ e

  -- and so is a sequence that has none of its actions
  pub after_other : (s u : State) (p : List ActionId) → after t removed s p ≡ Some u → AreOutside p other → after t other s p ≡ Some u
  unfolding after
  after_other s u [] e free = e
  after_other s u (a ∷ p) e free =
      let f = first_of t removed s a p u e in
      next_of t other s f.0 a p (step_other s f.0 a f.1 (free a (member_first a p))) ∙ after_other f.0 u p f.2 (λ b member. free b (member_later a p b member))

  pub reaches_other : (g : GoalId) (s : State) (p : List ActionId) → Reaches t g removed s p → AreOutside p other → Reaches t g other s p
  reaches_other g s p reaches free =
      let x = some_and (after t removed s p) (λ u. IsTrue (goal_holds t g u)) reaches in
      subst (λ o. IsSomeAnd o (λ u. IsTrue (goal_holds t g u))) (sym (after_other s x.0 p x.1 free)) x.2

-- a sequence without the removed actions has none of them
pub after_free : (t : PlainTask) (removed : List ActionId) (s u : State) (p : List ActionId) → after t removed s p ≡ Some u → AreOutside p removed
after_free t removed s u [] e b member = absurd (false≢true member)
after_free t removed s u (a ∷ p) e b member =
    let f = first_of t removed s a p u e in
    elim (member_cases a p b member) as (λ _. has_id removed b ≡ false) [
      | inl here ↦ subst (λ x. has_id removed x ≡ false) here (step_by t removed s a f.0 f.1).kept
      | inr later ↦ after_free t removed f.0 u p f.2 b later
    ]

pub reaches_free : (t : PlainTask) (g : GoalId) (removed : List ActionId) (s : State) (p : List ActionId) → Reaches t g removed s p → AreOutside p removed
reaches_free t g removed s p reaches =
    let x = some_and (after t removed s p) (λ u. IsTrue (goal_holds t g u)) reaches in
    after_free t removed s x.0 p x.1

-- a list outside a set is outside each smaller one
pub outside_fewer : (xs fewer more : List ActionId) → AreAmong fewer more → AreOutside xs more → AreOutside xs fewer
outside_fewer xs fewer more among free a member = by (has_id fewer a) refl
  where
    by : (b : Bool) → has_id fewer a ≡ b → has_id fewer a ≡ false
    by true is = absurd (not_both (has_id more a) (among a is) (free a member))
    by false is = is

pub same_cost : (t : PlainTask) (g : GoalId) (removed : List ActionId) (c d : ℕ) → IsCost t g removed (Some c) → IsCost t g removed (Some d) → c ≡ d
same_cost t g removed c d h k =
    let low : c ≤ length k.0.0 = h.1 k.0.0 k.0.2 in
    let high : d ≤ length h.0.0 = k.1 h.0.0 h.0.2 in
    omega (arith, h.0.1, k.0.1)

-- the first step of a sequence that reaches a goal, and what its rest reaches
pub reaches_first : (t : PlainTask) (g : GoalId) (removed : List ActionId) (s : State) (a : ActionId) (q : List ActionId) → Reaches t g removed s (a ∷ q)
    → (u : State) × (step_without t removed s a ≡ Some u) × Reaches t g removed u q
reaches_first t g removed s a q reaches =
    let x = some_and (after t removed s (a ∷ q)) (λ u. IsTrue (goal_holds t g u)) reaches in
    let f = first_of t removed s a q x.0 x.1 in
    (f.0, f.1, subst (λ o. IsSomeAnd o (λ u. IsTrue (goal_holds t g u))) (sym f.2) x.2)
