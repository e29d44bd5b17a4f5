-- What layers tell of the optimal plans: each of their states is visited, as deep as it comes in the plan.
use Rattle.std.proofs.Common.{◌≡◌, ℕ, ◌+◌, ◌<◌, ◌≤◌, ◌⊎◌, false, List, [], ◌∷◌, ◌++◌, length, get_or, refl, sym, ◌∙◌, ap, inl, inr, arith, Option, Some, None}
use Rattle.std.specs.Prelude.{slice_get, IsSomeAnd, IsTrue}
use Rattle.std.specs.Option.{option_and_then, option_map, option_map_or}
use Rattle.std.proofs.lemmas.List.{length-append, length_push}
use Rattle.std.proofs.lemmas.Bool.{cases_lt, false≢true}
use Rattle.std.proofs.lemmas.Option.{slice_get_within, slice_get_past, slice_get_read}
use mathlib.Core.Path.{subst}
use Rattle.grd_base.specs.declared.ids.ActionId.{ActionId}
use Rattle.grd_base.specs.declared.ids.GoalId.{GoalId}
use Rattle.strips_model.specs.Values.{PlainTask}
use Rattle.strips_model.specs.Plans.{State, after, step, step_without, start_of, goal_holds, satisfies, Reaches, IsCost, IsPlan}
use Rattle.plain_search.specs.Walks.{Visit, HasVisit}
use Rattle.plain_search.specs.Live.{AreDeep, IsAt, IsVisited, LeadsTo, EndsAt, IsLive}
use Rattle.plain_search.proofs.WalkPlanLemmas.{some_same, some_and, after_push, after_nothing, no_action, first_step}

-- a first step, and what follows it
pub next_step : (t : PlainTask) (s u : State) (a : ActionId) (p : List ActionId) → step t s a ≡ Some u → after t [] s (a ∷ p) ≡ after t [] u p
unfolding after step_without
next_step t s u a p e = ap (option_and_then (λ x. after t [] x p)) e

pub after_joined : (t : PlainTask) (s x : State) (p q : List ActionId) → after t [] s p ≡ Some x → after t [] s (p ++ q) ≡ after t [] x q
after_joined t s x [] q e = ap (λ y. after t [] y q) (some_same s x (sym (after_nothing t s) ∙ e))
after_joined t s x (a ∷ p) q e =
    let f = first_step t s a p x e in
    next_step t s f.0 a (p ++ q) f.1 ∙ after_joined t f.0 x p q f.2

pub after_parted : (t : PlainTask) (s u : State) (p q : List ActionId) → after t [] s (p ++ q) ≡ Some u → (x : State) × (after t [] s p ≡ Some x) × (after t [] x q ≡ Some u)
after_parted t s u [] q e = (s, after_nothing t s, e)
after_parted t s u (a ∷ p) q e =
    let f = first_step t s a (p ++ q) u e in
    let r = after_parted t f.0 u p q f.2 in
    (r.0, next_step t s f.0 a p f.1 ∙ r.1, r.2)

pub reaches_joined : (t : PlainTask) (g : GoalId) (s x : State) (p q : List ActionId) → after t [] s p ≡ Some x → Reaches t g [] x q → Reaches t g [] s (p ++ q)
reaches_joined t g s x p q e r = subst (λ o. IsSomeAnd o (λ u. IsTrue (goal_holds t g u))) (sym (after_joined t s x p q e)) r

pub reaches_parted : (t : PlainTask) (g : GoalId) (s : State) (p q : List ActionId) → Reaches t g [] s (p ++ q) → (x : State) × (after t [] s p ≡ Some x) × Reaches t g [] x q
reaches_parted t g s p q r =
    let u = some_and (after t [] s (p ++ q)) (λ x. IsTrue (goal_holds t g x)) r in
    let x = after_parted t s u.0 p q u.1 in
    (x.0, x.1, subst (λ o. IsSomeAnd o (λ y. IsTrue (goal_holds t g y))) (sym x.2) u.2)

-- one step, and then a sequence to the goal
pub reaches_next : (t : PlainTask) (g : GoalId) (s x : State) (a : ActionId) (q : List ActionId) → step t s a ≡ Some x → Reaches t g [] x q → Reaches t g [] s (a ∷ q)
reaches_next t g s x a q e r = subst (λ o. IsSomeAnd o (λ u. IsTrue (goal_holds t g u))) (sym (next_step t s x a q e)) r

pub reaches_first : (t : PlainTask) (g : GoalId) (s : State) (a : ActionId) (q : List ActionId) → Reaches t g [] s (a ∷ q) → (x : State) × (step t s a ≡ Some x) × Reaches t g [] x q
reaches_first t g s a q r =
    let u = some_and (after t [] s (a ∷ q)) (λ x. IsTrue (goal_holds t g x)) r in
    let x = first_step t s a q u.0 u.1 in
    (x.0, x.1, subst (λ o. IsSomeAnd o (λ y. IsTrue (goal_holds t g y))) (sym x.2) u.2)

pub holds_there : (t : PlainTask) (g : GoalId) (s : State) → Reaches t g [] s [] → IsTrue (goal_holds t g s)
holds_there t g s r = subst (λ o. IsSomeAnd o (λ u. IsTrue (goal_holds t g u))) (after_nothing t s) r

pub reaches_here : (t : PlainTask) (g : GoalId) (s : State) → IsTrue (goal_holds t g s) → Reaches t g [] s []
reaches_here t g s h = subst (λ o. IsSomeAnd o (λ u. IsTrue (goal_holds t g u))) (sym (after_nothing t s)) h

pub same_cost : (t : PlainTask) (g : GoalId) (c d : ℕ) → IsCost t g [] (Some c) → IsCost t g [] (Some d) → c ≡ d
same_cost t g c d h k =
    let low : c ≤ length k.0.0 = h.1 k.0.0 k.0.2 in
    let high : d ≤ length h.0.0 = k.1 h.0.0 h.0.2 in
    omega (arith, h.0.1, k.0.1)

-- only a goal of the task has a plan
pub goal_of_task : (t : PlainTask) (g : GoalId) (p : List ActionId) → IsPlan t g [] p → g.0 < length t.goals
goal_of_task t g p plan = elim (cases_lt g.0 (length t.goals)) [
  | inl low ↦ low
  | inr past ↦ absurd (
      let u = some_and (after t [] (start_of t) p) (λ x. IsTrue (goal_holds t g x)) plan in
      let never : goal_holds t g u.0 ≡ false = ap (λ o. option_map_or (λ goal. satisfies goal u.0) o false) (slice_get_past t.goals g.0 past) in
      false≢true (sym never ∙ u.2))
]

module _ (t : PlainTask) (vs : List Visit) (depths : List ℕ) (deep : AreDeep t vs depths) where
  pub depth_is : (k : ℕ) (s : State) (d : ℕ) → IsAt vs depths k s d → d ≡ length (deep.layered.path k)
  depth_is k s d is = some_same d (length (deep.layered.path k)) (sym is.deep ∙ deep.layered.depth k (slice_get_within vs k is.visit is.there))

  pub path_leads : (k : ℕ) (s : State) (d : ℕ) → IsAt vs depths k s d → after t [] (start_of t) (deep.layered.path k) ≡ Some s
  path_leads k s d is = deep.layered.leads k is.visit is.there ∙ ap Some is.state

  -- each state is visited once
  pub same_place : (j k : ℕ) (v w : Visit) → slice_get vs j ≡ Some v → slice_get vs k ≡ Some w → v.state ≡ w.state → j ≡ k
  same_place j k v w at_v at_w same = elim (cases_lt j k) [
    | inl low ↦ absurd (deep.layered.differ j k v w low at_v at_w same)
    | inr past ↦ elim (cases_lt k j) [
      | inl high ↦ absurd (deep.layered.differ k j w v high at_w at_v (sym same))
      | inr equal ↦ omega arith
    ]
  ]

  -- what a sequence leads to is visited, if the sequence is no longer than the layers are deep
  covered : (q : List ActionId) (j : ℕ) (v : Visit) (n : ℕ) (u : State) → slice_get vs j ≡ Some v → length (deep.layered.path j) ≤ n → n + length q ≤ deep.steps
      → after t [] v.state q ≡ Some u → HasVisit deep.layered.path vs u (n + length q)
  covered [] j v n u at short fits e = record { place = j; visit = v; at = at; state = some_same v.state u (sym (after_nothing t v.state) ∙ e); short = omega arith }
  covered (a ∷ q) j v n u at short fits e =
      let s = first_step t v.state a q u e in
      let x = deep.layered.closed j v a s.0 at (omega arith) s.1 in
      let h = covered q x.place x.visit (n + 1) u x.at (omega (arith, x.short)) (omega arith) (subst (λ y. after t [] y q ≡ Some u) (sym x.state) s.2) in
      record { place = h.place; visit = h.visit; at = h.at; state = h.state; short = omega (arith, h.short) }

  -- a state of an optimal plan is visited, and no deeper or less deep than it comes in the plan
  pub exact : (g : GoalId) (c : ℕ) (q rest : List ActionId) (u : State) → IsCost t g [] (Some c) → after t [] (start_of t) q ≡ Some u → Reaches t g [] u rest
      → length q + length rest ≡ c → IsVisited vs depths u (length q)
  exact g c q rest u cost leads reaches long =
      let first = deep.layered.first in
      let within : c ≤ deep.steps = deep.within g c cost in
      let x = covered q first.place first.visit 0 u first.at first.short (omega arith) (subst (λ y. after t [] y q ≡ Some u) (sym first.state) leads) in
      let back : after t [] (start_of t) (deep.layered.path x.place) ≡ Some u = deep.layered.leads x.place x.visit x.at ∙ ap Some x.state in
      let least : c ≤ length (deep.layered.path x.place ++ rest) = cost.1 (deep.layered.path x.place ++ rest) (reaches_joined t g (start_of t) u (deep.layered.path x.place) rest back reaches) in
      let same : length (deep.layered.path x.place) ≡ length q = omega (arith, x.short, length-append (deep.layered.path x.place) rest) in
      (x.place, record { visit = x.visit; there = x.at; state = x.state; deep = deep.layered.depth x.place (slice_get_within vs x.place x.visit x.at) ∙ ap Some same })

  -- a goal is live where the next state has it live
  pub live_back : (s : State) (d : ℕ) (a : ActionId) (place : ℕ) (g : GoalId) (to : LeadsTo t vs depths s d a place) → IsLive t to.state (d + 1) g → IsLive t s d g
  live_back s d a place g to is = record {
    cost = is.cost;
    least = is.least;
    rest = a ∷ is.rest;
    reaches = reaches_next t g s to.state a is.rest to.step is.reaches;
    adds_up = omega (arith, is.adds_up);
  }

  pub live_end : (s : State) (d : ℕ) (g : GoalId) → EndsAt t s d g → IsLive t s d g
  live_end s d g is = record { cost = d; least = is.0; rest = []; reaches = reaches_here t g s is.1; adds_up = omega arith }

  -- a live goal holds, or some action leads to a visited state that has it live
  pub live_on : (s : State) (d : ℕ) (g : GoalId) → IsVisited vs depths s d → IsLive t s d g
      → EndsAt t s d g ⊎ ((a : ActionId) × (place : ℕ) × (to : LeadsTo t vs depths s d a place) × (a.0 < length t.actions) × IsLive t to.state (d + 1) g)
  live_on s d g at is = by is.rest is.reaches is.adds_up
    where
      by : (rest : List ActionId) → Reaches t g [] s rest → d + length rest ≡ is.cost
          → EndsAt t s d g ⊎ ((a : ActionId) × (place : ℕ) × (to : LeadsTo t vs depths s d a place) × (a.0 < length t.actions) × IsLive t to.state (d + 1) g)
      by [] reaches long = inl (subst (λ c. IsCost t g [] (Some c)) (omega arith) is.least, holds_there t g s reaches)
      by (a ∷ rest) reaches long =
          let f = reaches_first t g s a rest reaches in
          let p : List ActionId = deep.layered.path at.0 in
          let is_d : d ≡ length p = depth_is at.0 s d at.1 in
          let leads : after t [] (start_of t) (p ++ a ∷ []) ≡ Some f.0 =
          after_push t (start_of t) p a ∙ ap (option_and_then (λ u. step t u a)) (path_leads at.0 s d at.1) ∙ f.1 in
          let next = exact g is.cost (p ++ a ∷ []) rest f.0 is.least leads f.2 (omega (arith, length_push p a)) in
          let deeper : length (p ++ a ∷ []) ≡ d + 1 = omega (arith, length_push p a) in
          let within : a.0 < length t.actions = elim (cases_lt a.0 (length t.actions)) [
            | inl low ↦ low
            | inr past ↦ absurd (let none : step t s a ≡ None = no_action t s a past in let some : step t s a ≡ Some f.0 = f.1 in cc)
          ] in
          let to : LeadsTo t vs depths s d a next.0 = record { state = f.0; step = f.1; deeper = subst (λ n. IsAt vs depths next.0 f.0 n) deeper next.1 } in
          inr (a, next.0, to, within, record { cost = is.cost; least = is.least; rest = rest; reaches = f.2; adds_up = omega arith })

  -- a visited state that a step leads to is one step deeper, or no deeper
  pub one_deeper : (s u : State) (d e : ℕ) (a : ActionId) (place : ℕ) → IsVisited vs depths s d → step t s a ≡ Some u → IsAt vs depths place u e → d < e → e ≡ d + 1
  one_deeper s u d e a place at to next deeper =
      let p = deep.layered.path in
      let is_d : d ≡ length (p at.0) = depth_is at.0 s d at.1 in
      let is_e : e ≡ length (p place) = depth_is place u e next in
      let within : length (p place) ≤ deep.steps = deep.layered.within place (slice_get_within vs place next.visit next.there) in
      let x = deep.layered.closed at.0 at.1.visit a u at.1.there (omega arith) (ap (λ y. step t y a) at.1.state ∙ to) in
      let same : x.place ≡ place = same_place x.place place x.visit next.visit x.at next.there (x.state ∙ sym next.state) in
      let alike : length (p x.place) ≡ length (p place) = ap (λ k. length (p k)) same in
      omega (arith, x.short)

  -- a visited state that a step leads to, and that is deeper
  pub leads_deeper : (s u : State) (d e : ℕ) (a : ActionId) (place : ℕ) → IsVisited vs depths s d → step t s a ≡ Some u → IsAt vs depths place u e → d < e → LeadsTo t vs depths s d a place
  leads_deeper s u d e a place at to next deeper = record { state = u; step = to; deeper = subst (λ n. IsAt vs depths place u n) (one_deeper s u d e a place at to next deeper) next }

  -- where it is no deeper, the step leads to no deeper place
  pub leads_no_deeper : (s u : State) (d e : ℕ) (a : ActionId) (place : ℕ) → step t s a ≡ Some u → IsAt vs depths place u e → e ≤ d → (k : ℕ) → LeadsTo t vs depths s d a k → ⊥
  leads_no_deeper s u d e a place to next low k leads =
      let alike : leads.state ≡ u = some_same leads.state u (sym leads.step ∙ to) in
      let same : k ≡ place = same_place k place leads.deeper.visit next.visit leads.deeper.there next.there (leads.deeper.state ∙ alike ∙ sym next.state) in
      let deep : d + 1 ≡ e = some_same (d + 1) e (sym leads.deeper.deep ∙ ap (slice_get depths) same ∙ next.deep) in
      omega arith

-- a state is at the place that a look-up gave, and as deep as that place
pub found_at : (vs : List Visit) (depths : List ℕ) (place : ℕ) (u : State) (e : ℕ) → option_map (λ (v : Visit). v.state) (slice_get vs place) ≡ Some u
    → length depths ≡ length vs → e ≡ get_or depths place e → IsAt vs depths place u e
found_at vs depths place u e is same there = by (slice_get vs place) refl is
  where
    by : (o : Option Visit) → slice_get vs place ≡ o → option_map (λ (v : Visit). v.state) o ≡ Some u → IsAt vs depths place u e
    by None at h = cc
    by (Some v) at h = record {
      visit = v;
      there = at;
      state = some_same v.state u h;
      deep = slice_get_read depths (length depths) place e refl (omega (arith, slice_get_within vs place v at)) there;
    }
