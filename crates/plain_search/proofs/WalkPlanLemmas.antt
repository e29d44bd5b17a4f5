-- Sequences of steps with no action removed.
use Rattle.std.proofs.Common.{◌≡◌, ℕ, ◌<◌, ◌≤◌, cond, List, [], ◌∷◌, ◌++◌, length, reverse, append_assoc, refl, sym, ◌∙◌, ap, inl, inr, Option, Some, None, Result, Ok, Err}
use Rattle.std.proofs.lemmas.List.{reverse-append}
use Rattle.plain_search.specs.Walks.{Visit, AreWays}
use Rattle.std.specs.Prelude.{slice_get, IsSomeAnd, IsErrAnd, All}
use Rattle.std.specs.Option.{option_and_then}
use Rattle.std.proofs.lemmas.Bool.{cases_lt}
use Rattle.std.proofs.lemmas.Option.{slice_get_past}
use Rattle.std.proofs.lemmas.List.Elements.{All-cons, All-nil}
use Rattle.grd_base.specs.declared.ids.ActionId.{ActionId}
use Rattle.strips_model.specs.Values.{PlainTask}
use Rattle.strips_model.specs.Plans.{State, after, step, step_without, can_apply, effect}

pub some_same : {X : Type 0} (x y : X) → Some x ≡ Some y → x ≡ y
some_same x y e = cc

pub some_and : {X : Type 0} (o : Option X) (P : X → Type 0) → IsSomeAnd o P → (x : X) × (o ≡ Some x) × P x
some_and None P h = absurd h
some_and (Some x) P h = (x, refl, h)

-- the first step and what is left
after_first : (t : PlainTask) (s : State) (a : ActionId) (p : List ActionId) → after t [] s (a ∷ p) ≡ option_and_then (λ u. after t [] u p) (step t s a)
unfolding after step_without
after_first t s a p = refl

-- one more action at the end
pub after_push : (t : PlainTask) (s : State) (p : List ActionId) (a : ActionId) → after t [] s (p ++ a ∷ []) ≡ option_and_then (λ u. step t u a) (after t [] s p)
unfolding after step_without
after_push t s [] a = last (step t s a)
  where
    last : (o : Option State) → option_and_then (λ (u : State). Some u) o ≡ o
    last None = refl
    last (Some u) = refl
after_push t s (b ∷ p) a = go (λ u. after_push t u p a) (step t s b)
  where
    go : ((u : State) → after t [] u (p ++ a ∷ []) ≡ option_and_then (λ x. step t x a) (after t [] u p)) → (o : Option State)
        → option_and_then (λ u. after t [] u (p ++ a ∷ [])) o ≡ option_and_then (λ u. step t u a) (option_and_then (λ u. after t [] u p) o)
    go ih None = refl
    go ih (Some u) = ih u

pub after_nothing : (t : PlainTask) (s : State) → after t [] s [] ≡ Some s
unfolding after
after_nothing t s = refl

-- there is a step only by an action of the task
pub no_action : (t : PlainTask) (s : State) (a : ActionId) → length t.actions ≤ a.0 → step t s a ≡ None
unfolding step
no_action t s a past = ap (option_and_then (λ act. cond (can_apply act s) (Some (effect act s)) None)) (slice_get_past t.actions a.0 past)

-- the first step of a sequence that leads to a state
pub first_step : (t : PlainTask) (s : State) (a : ActionId) (p : List ActionId) (u : State) → after t [] s (a ∷ p) ≡ Some u → (x : State) × (step t s a ≡ Some x) × (after t [] x p ≡ Some u)
first_step t s a p u e = by (step t s a) refl (sym (after_first t s a p) ∙ e)
  where
    by : (o : Option State) → step t s a ≡ o → option_and_then (λ x. after t [] x p) o ≡ Some u → (x : State) × (step t s a ≡ Some x) × (after t [] x p ≡ Some u)
    by None is h = cc
    by (Some x) is h = (x, is, h)

-- a sequence that leads to a state is one of actions of the task
pub all_actions : (t : PlainTask) (s u : State) (p : List ActionId) → after t [] s p ≡ Some u → All (λ a. a.0 < length t.actions) p
all_actions t s u [] e = All-nil (λ a. a.0 < length t.actions)
all_actions t s u (a ∷ p) e =
    let f = first_step t s a p u e in
    let rest : All (λ b. b.0 < length t.actions) p = all_actions t f.0 u p f.2 in
    let here : a.0 < length t.actions = elim (cases_lt a.0 (length t.actions)) [
      | inl low ↦ low
      | inr past ↦ absurd (let none : step t s a ≡ None = no_action t s a past in let some : step t s a ≡ Some f.0 = f.1 in cc)
    ] in
    All-cons (λ b. b.0 < length t.actions) a p here rest

-- a plan that is put together from its end, one visit further back
pub way_back : (path : ℕ → List ActionId) (vs : List Visit) (at : ℕ) (v : Visit) (back more whole : List ActionId) (parent : ℕ) (action : ActionId) → AreWays path vs → 0 < at
    → slice_get vs at ≡ Some v → v.parent ≡ parent → v.action ≡ action → more ≡ back ++ action ∷ [] → whole ≡ path at ++ reverse back → whole ≡ path parent ++ reverse more
way_back path vs at v back more whole parent action ways positive here is_parent is_action is_more is =
    is ∙ ap (λ p. p ++ reverse back) (ways.later at v positive here) ∙ append_assoc (path v.parent) (v.action ∷ []) (reverse back)
    ∙ (λ i. path (is_parent i) ++ (is_action i ∷ reverse back)) ∙ ap (λ p. path parent ++ p) (sym (reverse-append back (action ∷ [])))
    ∙ ap (λ p. path parent ++ reverse p) (sym is_more)

-- a fault that is passed on
pub passed_on : {T U E : Type 0} (r : Result T E) (x e : E) → IsErrAnd r (λ y. y ≡ x) → r ≡ Err e → ◌≡◌ {A = Result U E} (Err x) (Err e)
passed_on (Ok y) x e h is = absurd h
passed_on (Err y) x e h is = let same : y ≡ e = cc in ap Err (sym h ∙ same)
