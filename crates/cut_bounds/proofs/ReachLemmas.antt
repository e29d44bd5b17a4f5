-- A sequence that reaches the goal takes an action of the cut of each set that contains its start and
-- leaves the goal open, and of disjoint cuts it takes different actions.
use Rattle.std.proofs.Common.{◌≡◌, zero, suc, ◌+◌, ◌≤◌, Bool, true, false, not, ◌&&◌, get_or, List, [], ◌∷◌, length, refl, sym, ◌∙◌, ap, subst, inl, inr, arith, Option, Some, None}
use Rattle.std.specs.Prelude.{IsSomeAnd, IsTrue, Contains, All, AllPairs, Any}
use Rattle.std.specs.Option.{option_and_then, option_map_or}
use Rattle.std.proofs.lemmas.Bool.{cases_Bool, false≢true, and_parts, and_from, or_cases, not_from_false}
use Rattle.std.proofs.lemmas.List.Elements.{All-tail}
use Rattle.std.proofs.lemmas.Map.Made.{Contains-tail}
use Rattle.grd_base.specs.declared.ids.ActionId.{ActionId}
use Rattle.grd_base.specs.declared.ids.GoalId.{GoalId}
use Rattle.grd_base.specs.Rising.{has_id}
use Rattle.grd_base.specs.Sets.{IsSubset}
use Rattle.strips_model.specs.Values.{GroundAction, PlainTask}
use Rattle.strips_model.specs.Plans.{State, set_of, has_all, can_apply, effect, after, step_without, goal_holds, Reaches}
use Rattle.strips_model.specs.Cuts.{leads_out, cut, AreDisjoint}
use Rattle.strips_model.proofs.LevelLaws.{has_all_more, goal_more, set_within}
use Rattle.strips_model.proofs.MoveLemmas.{IsStepBy, step_by}

-- some action of the sequence passes the test
abbrev pub Meets : (ActionId → Bool) → List ActionId → Type 0
Meets c p = Any (λ a. IsTrue (c a)) p

-- an element behind the first is kept
kept_behind : (x b : ActionId) (p q : List ActionId) → (Contains p b → Contains q b) → Contains (x ∷ p) b → Contains (x ∷ q) b
kept_behind x b p q keeps (zero, within, is) = (zero, omega arith, is)
kept_behind x b p q keeps (suc k, within, is) = let there = keeps (k, omega arith, is) in (suc there.0, omega (arith, there.1), there.2)

-- the sequence with one place of the action left out
left_out : (a : ActionId) (p : List ActionId) → Contains p a
    → (q : List ActionId) × (length p ≡ length q + 1) × ((b : ActionId) → (a ≡ b → ⊥) → Contains p b → Contains q b)
left_out a [] there = absurd (omega (arith, there.1))
left_out a (x ∷ p) (zero, within, is) = (p, omega arith, λ b differ. Contains-tail x p b (λ same. differ (sym is ∙ same)))
left_out a (x ∷ p) (suc k, within, is) =
    let rest = left_out a p (k, omega arith, is) in
    (x ∷ rest.0, omega (arith, rest.1), λ b differ. kept_behind x b p rest.0 (rest.2 b differ))

module _ {X : Type 0} (f : X → ActionId → Bool) where
  -- tests that share no action with the first are met by the other actions
  still_met : (x : X) (a : ActionId) (p q : List ActionId) → IsTrue (f x a) → ((b : ActionId) → (a ≡ b → ⊥) → Contains p b → Contains q b)
      → (ys : List X) → All (λ y. AreDisjoint (f x) (f y)) ys → All (λ y. Meets (f y) p) ys → All (λ y. Meets (f y) q) ys
  still_met x a p q passes keeps ys apart meet k d within =
      let m = meet k d within in
      let differ : a ≡ m.1 → ⊥ = λ same. apart k d within a passes (subst (λ b. IsTrue (f (get_or ys k d) b)) (sym same) m.4) in
      let there = keeps m.1 differ (m.0, m.2, m.3) in
      (there.0, m.1, there.1, there.2, m.4)

  -- of disjoint tests a sequence meets no more than it has actions
  pub disjoint_met : (xs : List X) (p : List ActionId) → All (λ x. Meets (f x) p) xs → AllPairs (λ x y. AreDisjoint (f x) (f y)) xs → length xs ≤ length p
  disjoint_met [] p meet apart = omega arith
  disjoint_met (x ∷ xs) p meet apart =
      let m = meet 0 x (omega arith) in
      let rest = left_out m.1 p (m.0, m.2, m.3) in
      let later = still_met x m.1 p rest.0 m.4 rest.2 xs (λ k d within. apart 0 (suc k) d (omega arith) (omega arith)) (All-tail (λ y. Meets (f y) p) x xs meet) in
      let fewer : length xs ≤ length rest.0 = disjoint_met xs rest.0 later (λ i j d low high. apart (suc i) (suc j) d (omega arith) (omega arith)) in
      omega (arith, rest.1)

-- an action that adds nothing outside the set stays within it
effect_within : (act : GroundAction) (s u : State) → IsSubset s u → has_all u act.add ≡ true → IsSubset (effect act s) u
effect_within act s u within adds n member =
    elim (or_cases (not (set_of act.del n) && s n) (set_of act.add n) member) as (λ _. IsTrue (u n)) [
      | inl old ↦ within n (and_parts (not (set_of act.del n)) (s n) old).1
      | inr new ↦ set_within u act.add adds n new
    ]

module _ (t : PlainTask) (g : GoalId) (removed : List ActionId) where
  -- the first step of a sequence that reaches the goal, and what its rest reaches
  pub first_step : (s : State) (a : ActionId) (q : List ActionId) → Reaches t g removed s (a ∷ q)
      → (u : State) × (step_without t removed s a ≡ Some u) × Reaches t g removed u q
  unfolding after
  first_step s a q reaches = cases (step_without t removed s a) refl reaches
    where
      cases : (o : Option State) → step_without t removed s a ≡ o → IsSomeAnd (option_and_then (λ u. after t removed u q) o) (λ u. IsTrue (goal_holds t g u))
          → (u : State) × (step_without t removed s a ≡ Some u) × IsSomeAnd (after t removed u q) (λ u. IsTrue (goal_holds t g u))
      cases None is h = absurd h
      cases (Some u) is h = (u, is, h)

  -- a step from within a set that adds an atom outside it is by an action of the cut
  in_cut : (s v u : State) (a : ActionId) (x : IsStepBy t removed s a u) → IsSubset s v → has_all v x.action.add ≡ false → cut t removed v a ≡ true
  unfolding cut
  in_cut s v u a x within adds =
      let parts = and_parts (not x.action.blocked) (has_all s x.action.pre) x.applies in
      let applies : can_apply x.action v ≡ true = and_from (not x.action.blocked) (has_all v x.action.pre) parts.0 (has_all_more s v x.action.pre within parts.1) in
      let leads : leads_out v x.action ≡ true = and_from (can_apply x.action v) (not (has_all v x.action.add)) applies (not_from_false _ adds) in
      and_from (not (has_id removed a)) _ (not_from_false _ x.kept) (ap (λ o. option_map_or (leads_out v) o false) x.at ∙ leads)

  -- a sequence from within a set that leaves the goal open takes an action of the cut
  pub cut_met : (p : List ActionId) (s v : State) → IsSubset s v → goal_holds t g v ≡ false → Reaches t g removed s p → Meets (cut t removed v) p
  unfolding after
  cut_met [] s v within leaves_open reaches = absurd (false≢true (sym leaves_open ∙ goal_more t g s v within reaches))
  cut_met (a ∷ q) s v within leaves_open reaches =
      let next = first_step s a q reaches in
      let x = step_by t removed s a next.0 next.1 in
      elim (cases_Bool (has_all v x.action.add)) [
        | inl adds ↦
            let inside : IsSubset next.0 v = subst (λ u. IsSubset u v) (sym x.leads) (effect_within x.action s v within adds) in
            let m = cut_met q next.0 v inside leaves_open next.2 in
            (suc m.0, m.1, omega (arith, m.2), m.3, m.4)
        | inr adds ↦ (0, a, omega arith, refl, in_cut s v next.0 a x within adds)
      ]
