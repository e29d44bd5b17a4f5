-- Rounds over candidates: they reach what a round of all actions reaches, and leave the candidates of the next.
use Rattle.std.proofs.Common.{◌≡◌, ◌↔◌, ◌⊎◌, ◌==◌, ℕ, ◌+◌, ◌<◌, ◌≤◌, Bool, true, false, not, ◌&&◌, ◌||◌, List, [], ◌∷◌, length, take, get_or, refl, sym, ◌∙◌, ap, subst, inl, inr, arith, Option, Some, None}
use Rattle.std.specs.Prelude.{slice_get, Contains, All, IsTrue}
use Rattle.std.specs.Option.{option_map_or}
use Rattle.std.specs.List.{list_any, list_all, enumerate_from}
use Rattle.std.proofs.Math.Path.{fun_ext}
use Rattle.std.proofs.lemmas.Bool.{cases_Bool, or_cases, or_parts, or_left, or_right, and_parts, and_from, and_cases, and_left, false≢true, both_ways, not-true, not_from_false, false_from_ne_true, eq-eqb, eqb-true}
use Rattle.std.proofs.lemmas.Option.{slice_get_within, slice_get-get_or, get_or_from_slice_get}
use Rattle.std.proofs.lemmas.List.{take_all, get_or_default}
use Rattle.std.proofs.lemmas.List.FromFn.{get_or-enumerate_from, length-enumerate_from}
use Rattle.std.proofs.lemmas.List.Folds.{list_any_at, list_all_at, list_any_more}
use Rattle.std.proofs.lemmas.List.Elements.{All-weaker, All-contains, All-contains_itself, Contains-append_right}
use Rattle.grd_base.specs.declared.ids.AtomId.{AtomId}
use Rattle.grd_base.specs.declared.ids.ActionId.{ActionId}
use Rattle.grd_base.specs.Rising.{has_id}
use Rattle.grd_base.specs.Sets.{union}
use Rattle.strips_model.specs.Values.{GroundAction, PlainTask, IsTask, IsActionBelow}
use Rattle.strips_model.specs.Plans.{State, set_of, has_all, can_apply, is_step}
use Rattle.strips_model.specs.Index.{listed}
use Rattle.strips_model.specs.Levels.{joins, grown}
use Rattle.level_bounds.proofs.FilingLemmas.{usable_parts, usable_from, action_below, or_false}
use Rattle.strips_model.specs.Levels.{missing}
use Rattle.strips_model.proofs.LevelNumbers.{missing_fewer}
use Rattle.level_bounds.specs.Waves.{is_usable, AreFiled, AreReady, is_added, IsGrowth}

module _ {X : Type 0} (p : X → Bool) where
  -- an element that passes the test settles it
  any_has : (xs : List X) (x : X) → Contains xs x → p x ≡ true → list_any p xs ≡ true
  any_has xs x there passes = list_any_at p xs there.0 x there.1 (ap p there.2 ∙ passes)

  any_from : (xs : List X) → list_any p xs ≡ true → (x : X) × Contains xs x × (p x ≡ true)
  any_from [] h = absurd (false≢true h)
  any_from (x ∷ xs) h = elim (or_cases (p x) (list_any p xs) h) [
    | inl here ↦ (x, (0, omega arith, refl), here)
    | inr later ↦
        let from = any_from xs later in
        (from.0, Contains-append_right (x ∷ []) xs from.0 from.1, from.2)
  ]

  all_from : (xs : List X) → list_all p xs ≡ false → (x : X) × Contains xs x × (p x ≡ false)
  all_from [] h = absurd (false≢true (sym h))
  all_from (x ∷ xs) h = elim (and_cases (p x) (list_all p xs) h) [
    | inl here ↦ (x, (0, omega arith, refl), here)
    | inr later ↦
        let from = all_from xs later in
        (from.0, Contains-append_right (x ∷ []) xs from.0 from.1, from.2)
  ]

  all_has : (xs : List X) (x : X) → Contains xs x → list_all p xs ≡ true → p x ≡ true
  all_has xs x there all = elim (cases_Bool (p x)) [
    | inl passes ↦ passes
    | inr fails ↦ absurd (both_ways (list_all p xs) (list_all_at p xs there.0 x there.1 (ap p there.2 ∙ fails)) all)
  ]

-- an atom of a list
number_in : (xs : List AtomId) (n : ℕ) → set_of xs n ≡ true → Contains xs (record { 0 = n })
number_in xs n is =
    let from = any_from (λ (a : AtomId). a.0 == n) xs is in
    subst (Contains xs) (ap (λ k. record { 0 = k }) (eqb-true from.0.0 n from.2)) from.1

in_set : (xs : List AtomId) (a : AtomId) → Contains xs a → set_of xs a.0 ≡ true
in_set xs a there = any_has (λ (b : AtomId). b.0 == a.0) xs a there (eq-eqb a.0 a.0 refl)

-- where all atoms of a list are in the set, each of them is
has_each : (u : State) (xs : List AtomId) (n : ℕ) → has_all u xs ≡ true → set_of xs n ≡ true → u n ≡ true
has_each u xs n all is = all_has (λ (a : AtomId). u a.0) xs (record { 0 = n }) (number_in xs n is) all

-- where not all are, one is not
lacks_one : (u : State) (xs : List AtomId) → has_all u xs ≡ false → (n : ℕ) × (set_of xs n ≡ true) × (u n ≡ false)
lacks_one u xs h =
    let from = all_from (λ (a : AtomId). u a.0) xs h in
    (from.0.0, in_set xs from.0 from.1, from.2)

-- and where one is not, not all are
lacks : (u : State) (xs : List AtomId) (n : ℕ) → set_of xs n ≡ true → u n ≡ false → has_all u xs ≡ false
lacks u xs n is out = elim (cases_Bool (has_all u xs)) [
  | inl all ↦ absurd (both_ways (u n) out (has_each u xs n all is))
  | inr h ↦ h
]

-- two tests with the same true case are the same
same_test : (x y : Bool) → (x ≡ true → y ≡ true) → (y ≡ true → x ≡ true) → x ≡ y
same_test true y to from = sym (to refl)
same_test false true to from = from refl
same_test false false to from = refl

-- whether an action of the task applies
step_at : (t : PlainTask) (u : State) (a : ActionId) (act : GroundAction) → slice_get t.actions a.0 ≡ Some act → is_step t u a ≡ can_apply act u
unfolding is_step
step_at t u a act at = ap (λ o. option_map_or (λ x. can_apply x u) o false) at

-- what an action of the task adds
added_at : (t : PlainTask) (u : State) (n : ℕ) (a : ActionId) (act : GroundAction) → slice_get t.actions a.0 ≡ Some act → can_apply act u ≡ true → set_of act.add n ≡ true
    → is_added t u n a ≡ true
added_at t u n a act at can adds =
    and_from (is_step t u a) _ (step_at t u a act at ∙ can) (ap (λ o. option_map_or (λ (x : GroundAction). set_of x.add n) o false) at ∙ adds)

-- what is added comes of an action of the task that applies
added_by : (t : PlainTask) (u : State) (n : ℕ) (a : ActionId) → is_added t u n a ≡ true
    → (act : GroundAction) × (slice_get t.actions a.0 ≡ Some act) × (can_apply act u ≡ true) × (set_of act.add n ≡ true)
unfolding is_step
added_by t u n a h =
    let parts = and_parts (is_step t u a) _ h in
    by (slice_get t.actions a.0) refl parts.0 parts.1
  where
    by : (o : Option GroundAction) → slice_get t.actions a.0 ≡ o → option_map_or (λ act. can_apply act u) o false ≡ true → option_map_or (λ act. set_of act.add n) o false ≡ true
        → (act : GroundAction) × (slice_get t.actions a.0 ≡ Some act) × (can_apply act u ≡ true) × (set_of act.add n ≡ true)
    by None at can adds = absurd (false≢true can)
    by (Some act) at can adds = (act, at, can, adds)

-- an action of the task stands with its number among all
numbered_in : (acts : List GroundAction) (i : ℕ) (act : GroundAction) → slice_get acts i ≡ Some act → Contains (enumerate_from 0 acts) (i, act)
numbered_in acts i act at =
    let within : i < length acts = slice_get_within acts i act at in
    let zero : 0 + i ≡ i = omega arith in
    let pair : get_or (enumerate_from 0 acts) i (i, act) ≡ (i, act) =
    get_or-enumerate_from 0 acts i (i, act) within ∙ ap (λ (k : ℕ). (k, get_or acts i act)) zero ∙ ap (λ (x : GroundAction). (i, x)) (get_or_from_slice_get acts i act act at) in
    (i, omega (arith, length-enumerate_from 0 acts, within), pair)

numbered_from : (acts : List GroundAction) (x : ℕ × GroundAction) → Contains (enumerate_from 0 acts) x → slice_get acts x.0 ≡ Some x.1
numbered_from acts x there =
    let within : there.0 < length acts = omega (arith, length-enumerate_from 0 acts, there.1) in
    let is : (0 + there.0, get_or acts there.0 x.1) ≡ x = sym (get_or-enumerate_from 0 acts there.0 x within) ∙ there.2 in
    let number : there.0 ≡ x.0 = omega (arith, ap (λ (y : ℕ × GroundAction). y.0) is) in
    let action : get_or acts there.0 x.1 ≡ x.1 = ap (λ (y : ℕ × GroundAction). y.1) is in
    subst (λ (k : ℕ). slice_get acts k ≡ Some x.1) number (slice_get-get_or acts there.0 x.1 within ∙ ap Some action)

module _ (t : PlainTask) (u : State) (candidates : List ActionId) (v : State) (fresh : List AtomId) (growth : IsGrowth t u candidates v fresh) where
  -- each atom of the set stays in it
  kept : (n : ℕ) → u n ≡ true → v n ≡ true
  kept n old = growth.reached_all n ∙ or_left (u n) _ old

  -- where no atom is fresh, nothing is new
  pub same_without_fresh : fresh ≡ [] → v ≡ u
  same_without_fresh none = fun_ext (λ n. same_test (v n) (u n) (by n) (kept n))
    where
      by : (n : ℕ) → v n ≡ true → u n ≡ true
      by n is = elim (cases_Bool (u n)) [
        | inl old ↦ old
        | inr out ↦ absurd (false≢true (ap (λ xs. set_of xs n) (sym none) ∙ growth.fresh_all n ∙ and_from (v n) _ is (not_from_false _ out)))
      ]

  -- a fresh atom is one of the task's
  pub fresh_below : IsTask t → All (λ a. a.0 < t.atoms) fresh
  fresh_below is = All-weaker (Contains fresh) (λ a. a.0 < t.atoms) (λ a there. by a (in_set fresh a there)) fresh (All-contains_itself fresh)
    where
      by : (a : AtomId) → set_of fresh a.0 ≡ true → a.0 < t.atoms
      by a is_fresh =
          let new = and_parts (v a.0) _ (sym (growth.fresh_all a.0) ∙ is_fresh) in
          elim (or_cases (u a.0) (list_any (is_added t u a.0) candidates) (sym (growth.reached_all a.0) ∙ new.0)) [
            | inl old ↦ absurd (both_ways (u a.0) (not-true _ new.1) old)
            | inr added ↦
                let from = any_from (is_added t u a.0) candidates added in
                let adds = added_by t u a.0 from.0 from.2 in
                let below : IsActionBelow t.atoms adds.0 = action_below t is from.0 adds.0 adds.1 in
                All-contains (λ (b : AtomId). b.0 < t.atoms) adds.0.add a below.add.below (number_in adds.0.add a.0 adds.3)
          ]

  -- where some atom is fresh, fewer are missing
  pub fewer_missing : All (λ a. a.0 < t.atoms) fresh → 0 < length fresh → missing v t.atoms < missing u t.atoms
  fewer_missing below some =
      let a : AtomId = get_or fresh 0 (record { 0 = 0 }) in
      let is_fresh : set_of fresh a.0 ≡ true = in_set fresh a (0, some, get_or_default fresh 0 a (record { 0 = 0 }) some) in
      let new = and_parts (v a.0) _ (sym (growth.fresh_all a.0) ∙ is_fresh) in
      missing_fewer u v kept a.0 (not-true _ new.1) new.0 t.atoms (below 0 (record { 0 = 0 }) some)

-- each usable action is in the list of every atom that it needs
abbrev pub AllListed : PlainTask → List ActionId → List (List ActionId) → Type 0
AllListed t removed lists = (a : ActionId) (act : GroundAction) → slice_get t.actions a.0 ≡ Some act → is_usable t removed a ≡ true → (n : ℕ) → set_of act.pre n ≡ true → Contains (listed lists n) a

listed_all : (t : PlainTask) (removed free : List ActionId) (lists : List (List ActionId)) → AreFiled t removed (length t.actions) free lists → AllListed t removed lists
listed_all t removed free lists filed a act at may n needs = filed.found_listed a act at (slice_get_within t.actions a.0 act at) may n needs

module _ (t : PlainTask) (removed : List ActionId) (u : State) (candidates : List ActionId) (ready : AreReady t removed u candidates) where
  usable_in : (a : ActionId) → Contains candidates a → is_usable t removed a ≡ true
  usable_in a there = All-contains (λ b. is_usable t removed b ≡ true) candidates a ready.usable there

  -- each candidate is one of the task's
  pub candidates_below : All (λ a. a.0 < length t.actions) candidates
  candidates_below = All-weaker (λ a. is_usable t removed a ≡ true) (λ a. a.0 < length t.actions) (λ a may.
      let parts = usable_parts t removed a may in
      slice_get_within t.actions a.0 parts.0 parts.1) candidates ready.usable

  module _ (v : State) (fresh : List AtomId) (growth : IsGrowth t u candidates v fresh) where
    -- a round over the candidates is one over all actions
    pub round_is_grown : v ≡ grown t removed u
    unfolding grown
    round_is_grown = fun_ext (λ n. same_test (v n) (u n || list_any (joins removed u n) (enumerate_from 0 t.actions)) (to n) (from n))
      where
        to : (n : ℕ) → v n ≡ true → (u n || list_any (joins removed u n) (enumerate_from 0 t.actions)) ≡ true
        to n h = elim (or_cases (u n) (list_any (is_added t u n) candidates) (sym (growth.reached_all n) ∙ h)) [
          | inl old ↦ or_left (u n) _ old
          | inr new ↦
              let by = any_from (is_added t u n) candidates new in
              let kept = and_parts (not (has_id removed by.0)) _ (usable_in by.0 by.1) in
              let adds = added_by t u n by.0 by.2 in
              or_right (u n) _ (any_has (joins removed u n) (enumerate_from 0 t.actions) (by.0.0, adds.0) (numbered_in t.actions by.0.0 adds.0 adds.1)
              (and_from (not (has_id removed by.0)) _ kept.0 (and_from (can_apply adds.0 u) _ adds.2 adds.3)))
        ]

        joined : (n : ℕ) → u n ≡ false → (x : ℕ × GroundAction) → Contains (enumerate_from 0 t.actions) x → joins removed u n x ≡ true → v n ≡ true
        joined n out x there h =
            let a : ActionId = record { 0 = x.0 } in
            let at : slice_get t.actions a.0 ≡ Some x.1 = numbered_from t.actions x there in
            let parts = and_parts (not (has_id removed a)) _ h in
            let more = and_parts (can_apply x.1 u) _ parts.1 in
            let free : x.1.blocked ≡ false = not-true _ (and_parts (not x.1.blocked) _ more.0).0 in
            let among : Contains candidates a = ready.all_in a x.1 at (usable_from t removed a x.1 at (not-true _ parts.0) free) (step_at t u a x.1 at ∙ more.0) (lacks u x.1.add n more.1 out) in
            growth.reached_all n ∙ or_right (u n) _ (any_has (is_added t u n) candidates a among (added_at t u n a x.1 at more.0 more.1))

        from : (n : ℕ) → (u n || list_any (joins removed u n) (enumerate_from 0 t.actions)) ≡ true → v n ≡ true
        from n h = elim (cases_Bool (u n)) [
          | inl old ↦ growth.reached_all n ∙ or_left (u n) _ old
          | inr out ↦ elim (or_cases (u n) (list_any (joins removed u n) (enumerate_from 0 t.actions)) h) [
            | inl old ↦ absurd (both_ways (u n) out old)
            | inr new ↦
                let by = any_from (joins removed u n) (enumerate_from 0 t.actions) new in
                joined n out by.0 by.1 by.2
          ]
        ]

    -- where each usable action is in the lists of the atoms that it needs, one that applies after the round, and
    -- adds something new, is in the list of a fresh atom
    pub ready_along : (lists : List (List ActionId)) → AllListed t removed lists
        → (a : ActionId) (act : GroundAction) → slice_get t.actions a.0 ≡ Some act → is_usable t removed a ≡ true → is_step t v a ≡ true → has_all v act.add ≡ false
        → (n : ℕ) × (set_of fresh n ≡ true) × Contains (listed lists n) a
    ready_along lists filed a act at may applies open_add =
        let new = lacks_one v act.add open_add in
        let can : can_apply act v ≡ true = sym (step_at t v a act at) ∙ applies in
        let parts = and_parts (not act.blocked) (has_all v act.pre) can in
        let not_new = or_parts (u new.0) _ (sym (growth.reached_all new.0) ∙ new.2) in
        let before : (can_apply act u ≡ true) → ⊥ = λ could.
        let among : Contains candidates a = ready.all_in a act at may (step_at t u a act at ∙ could) (lacks u act.add new.0 new.1 not_new.0) in
        both_ways (list_any (is_added t u new.0) candidates) not_new.1 (any_has (is_added t u new.0) candidates a among (added_at t u new.0 a act at could new.1)) in
        let needs : has_all u act.pre ≡ false = false_from_ne_true _ (λ all. before (and_from (not act.blocked) _ parts.0 all)) in
        let lacking = lacks_one u act.pre needs in
        let is_fresh : set_of fresh lacking.0 ≡ true =
        growth.fresh_all lacking.0 ∙ and_from (v lacking.0) _ (has_each v act.pre lacking.0 parts.1 lacking.1) (not_from_false _ lacking.2) in
        (lacking.0, is_fresh, filed a act at may lacking.0 lacking.1)

    -- the actions in the lists of the fresh atoms are the candidates of the next round
    pub ready_next : (free : List ActionId) (lists : List (List ActionId)) → AreFiled t removed (length t.actions) free lists
        → (next : List ActionId) → ((a : ActionId) → Contains next a ↔ ((n : ℕ) × IsTrue (set_of fresh n) × Contains (listed lists n) a)) → AreReady t removed v next
    ready_next free lists filed next are = record {
      usable = All-weaker (Contains next) (λ a. is_usable t removed a ≡ true) (λ a there.
          let by = (are a).0 there in
          All-contains (λ b. is_usable t removed b ≡ true) (listed lists by.0) a (filed.listed_usable by.0) by.2) next (All-contains_itself next);
      all_in = λ a act at may applies more. (are a).1 (ready_along lists (listed_all t removed free lists filed) a act at may applies more);
    }

-- the actions that need nothing, and those that need an atom of the set, are the candidates of the first round
pub ready_start : (t : PlainTask) (removed : List ActionId) (u : State) (free : List ActionId) (lists : List (List ActionId)) → AreFiled t removed (length t.actions) free lists
    → (candidates : List ActionId) → ((a : ActionId) → Contains candidates a ↔ (Contains free a ⊎ ((n : ℕ) × IsTrue (u n) × Contains (listed lists n) a)))
    → AreReady t removed u candidates
ready_start t removed u free lists filed candidates are = record {
  usable = All-weaker (Contains candidates) (λ a. is_usable t removed a ≡ true) (λ a there. good a ((are a).0 there)) candidates (All-contains_itself candidates);
  all_in = λ a act at may applies more.
      (are a).1 (found a act at may (and_parts (not act.blocked) (has_all u act.pre) (sym (step_at t u a act at) ∙ applies)).1 act.pre refl);
}
  where
    good : (a : ActionId) → Contains free a ⊎ ((n : ℕ) × IsTrue (u n) × Contains (listed lists n) a) → is_usable t removed a ≡ true
    good a (inl apart) = All-contains (λ b. is_usable t removed b ≡ true) free a filed.apart apart
    good a (inr by) = All-contains (λ b. is_usable t removed b ≡ true) (listed lists by.0) a (filed.listed_usable by.0) by.2

    found : (a : ActionId) (act : GroundAction) → slice_get t.actions a.0 ≡ Some act → is_usable t removed a ≡ true → has_all u act.pre ≡ true
        → (pre : List AtomId) → act.pre ≡ pre → Contains free a ⊎ ((n : ℕ) × IsTrue (u n) × Contains (listed lists n) a)
    found a act at may all [] none = inl (filed.found_apart a act at (slice_get_within t.actions a.0 act at) may none)
    found a act at may all (x ∷ pre) some =
        let needed : set_of act.pre x.0 ≡ true = ap (λ xs. set_of xs x.0) some ∙ or_left (x.0 == x.0) _ (eq-eqb x.0 x.0 refl) in
        inr (x.0, has_each u act.pre x.0 all needed, filed.found_listed a act at (slice_get_within t.actions a.0 act at) may x.0 needed)

or_assoc : (a b c : Bool) → ((a || b) || c) ≡ (a || (b || c))
or_assoc true b c = refl
or_assoc false b c = refl

-- before the first candidate nothing is new
pub growth_none : (t : PlainTask) (u v : State) → v ≡ u → IsGrowth t u [] v []
growth_none t u v same = record {
  reached_all = λ n. ap (λ s. s n) same ∙ or_false (u n);
  fresh_all = λ n. none (u n) ∙ ap (λ b. b && not (u n)) (sym (ap (λ s. s n) same));
}
  where
    none : (b : Bool) → false ≡ (b && not b)
    none true = refl
    none false = refl

module _ (t : PlainTask) (u : State) (candidates : List ActionId) (i : ℕ) (d : ActionId) (within : i < length candidates) (v : State) (fresh : List AtomId) (growth : IsGrowth t u (take i candidates) v fresh) where
  more_parts : (n : ℕ) → list_any (is_added t u n) (take (i + 1) candidates) ≡ (list_any (is_added t u n) (take i candidates) || is_added t u n (get_or candidates i d))
  more_parts n = list_any_more (is_added t u n) candidates i d within

  -- one more candidate that does not apply adds nothing
  pub growth_out : is_step t u (get_or candidates i d) ≡ false → IsGrowth t u (take (i + 1) candidates) v fresh
  growth_out out = record {
    reached_all = λ n. growth.reached_all n ∙ ap (λ b. u n || b) (sym (more_parts n ∙ ap (λ b. list_any (is_added t u n) (take i candidates) || b) (and_left (is_step t u (get_or candidates i d)) _ out) ∙ sym (or_false _)));
    fresh_all = growth.fresh_all;
  }

  -- one that applies adds its atoms
  pub growth_in : (act : GroundAction) → slice_get t.actions (get_or candidates i d).0 ≡ Some act → is_step t u (get_or candidates i d) ≡ true
      → (atoms : List AtomId) → atoms ≡ act.add → (w : State) (more : List AtomId) → w ≡ union v (set_of atoms) → ((n : ℕ) → set_of more n ≡ (set_of fresh n || (set_of atoms n && not (v n))))
      → IsGrowth t u (take (i + 1) candidates) w more
  growth_in act at applies atoms same w more joined new = record {
    reached_all = λ n.
        let a : ActionId = get_or candidates i d in
        let adds : is_added t u n a ≡ set_of atoms n =
        ap (λ b. b && option_map_or (λ (x : GroundAction). set_of x.add n) (slice_get t.actions a.0) false) applies
        ∙ ap (λ o. option_map_or (λ (x : GroundAction). set_of x.add n) o false) at ∙ ap (λ l. set_of l n) (sym same) in
        ap (λ s. s n) joined ∙ ap (λ b. b || set_of atoms n) (growth.reached_all n) ∙ or_assoc (u n) _ _ ∙ ap (λ b. u n || b) (sym (more_parts n ∙ ap (λ b. list_any (is_added t u n) (take i candidates) || b) adds));
    fresh_all = λ n. new n ∙ ap (λ b. b || (set_of atoms n && not (v n))) (growth.fresh_all n)
        ∙ both (u n) (v n) (set_of atoms n) (λ old. growth.reached_all n ∙ or_left (u n) _ old) ∙ ap (λ b. b && not (u n)) (sym (ap (λ s. s n) joined));
  }
    where
      both : (x y z : Bool) → (x ≡ true → y ≡ true) → ((y && not x) || (z && not y)) ≡ ((y || z) && not x)
      both true true true h = refl
      both true true false h = refl
      both true false z h = absurd (false≢true (h refl))
      both false true true h = refl
      both false true false h = refl
      both false false true h = refl
      both false false false h = refl

pub growth_all : (t : PlainTask) (u v : State) (candidates : List ActionId) (fresh : List AtomId) (i : ℕ) → length candidates ≤ i → IsGrowth t u (take i candidates) v fresh → IsGrowth t u candidates v fresh
growth_all t u v candidates fresh i past growth = subst (λ cs. IsGrowth t u cs v fresh) (take_all i candidates past) growth
