-- The greatest common sequence: how the live goals are gathered, and what they tell of all sequences.
use Rattle.std.proofs.Common.{◌≡◌, ℕ, zero, suc, ◌+◌, ◌<◌, ◌≤◌, ◌⊎◌, ◌||◌, Bool, true, false, List, [], ◌∷◌, length, map, get_or, refl, sym, ◌∙◌, ap, inl, inr, arith, Option, Some, None}
use Rattle.std.specs.Prelude.{slice_get, IsTrue, IfNone, ◌↔◌}
use Rattle.std.specs.Option.{option_map, option_eq}
use Rattle.std.proofs.lemmas.List.{length-append, length-map, length-set}
use Rattle.std.proofs.lemmas.Bool.{cases_lt, cases_eq, false≢true, eqb-true, eqb-false}
use Rattle.std.proofs.lemmas.Option.{slice_get_within, slice_get-get_or}
use Rattle.std.proofs.Math.Dec.{eqb}
use Rattle.std.proofs.Math.ListN.{set}
use mathlib.Core.Path.{subst}
use Rattle.grd_base.specs.declared.ids.ActionId.{ActionId}
use Rattle.grd_base.specs.declared.ids.GoalId.{GoalId}
use Rattle.grd_base.specs.declared.bits.Bits.{Bits}
use Rattle.grd_base.specs.Bits.{members}
use Rattle.grd_base.specs.Sets.{Set, union}
use Rattle.strips_model.specs.Values.{PlainTask}
use Rattle.strips_model.specs.Plans.{State, after, step, start_of, IsCost, IsPlan}
use Rattle.strips_model.specs.Common.{BeginsOptimal, IsCommon, HasPlan, IsWcd, IsRight, AreRight}
use Rattle.plain_search.specs.Walks.{Visit}
use Rattle.plain_search.specs.Live.{AreCosts, CostsAtMost, AreDeep, IsAt, IsVisited, LeadsTo, EndsAt, IsLive, AreLive, IsLiveFrom, IsLiveDeeper, Gathers, MissesBy, HasFewLive, ShareAt, AreFewFrom}
use Rattle.plain_search.proofs.MoveLemmas.{IsGap}
use Rattle.plain_search.proofs.WalkPlaceLemmas.{same_at, at_of_map}
use Rattle.plain_search.proofs.WalkPlanLemmas.{some_same}
use Rattle.plain_search.proofs.LiveLemmas.{reaches_parted, goal_of_task, same_cost, depth_is, live_back, live_end, live_on, exact}

pub same_goal : (g h : GoalId) → g.0 ≡ h.0 → g ≡ h
same_goal g h e = ap (λ n. record { 0 = n }) e

or_cases : (a b : Bool) → IsTrue (a || b) → IsTrue a ⊎ IsTrue b
or_cases true b h = inl refl
or_cases false b h = inr h

or_first : (a b : Bool) → IsTrue a → IsTrue (a || b)
or_first true b h = refl
or_first false b h = absurd (false≢true h)

or_second : (a b : Bool) → IsTrue b → IsTrue (a || b)
or_second true b h = refl
or_second false b h = h

-- a cost that is compared with a number
same_some : (o : Option ℕ) (n : ℕ) → option_eq eqb o (Some n) ≡ true → o ≡ Some n
same_some None n h = absurd (false≢true h)
same_some (Some m) n h = ap Some (eqb-true m n h)

other_some : (o : Option ℕ) (n : ℕ) → option_eq eqb o (Some n) ≡ false → o ≡ Some n → ⊥
other_some None n h e = cc
other_some (Some m) n h e = eqb-false m n h (some_number m n e)
  where
    some_number : (x y : ℕ) → Some x ≡ Some y → x ≡ y
    some_number x y p = cc

module _ {X : Type 0} where
  set_same : (xs : List X) (k : ℕ) (x : X) → k < length xs → slice_get (set xs k x) k ≡ Some x
  set_same [] k x h = absurd (omega arith)
  set_same (y ∷ xs) zero x h = refl
  set_same (y ∷ xs) (suc k) x h = set_same xs k x (omega arith)

  set_other : (xs : List X) (j k : ℕ) (x : X) → (k ≡ j → ⊥) → slice_get (set xs j x) k ≡ slice_get xs k
  set_other [] j k x ne = refl
  set_other (y ∷ xs) zero zero x ne = absurd (ne refl)
  set_other (y ∷ xs) zero (suc k) x ne = refl
  set_other (y ∷ xs) (suc j) zero x ne = refl
  set_other (y ∷ xs) (suc j) (suc k) x ne = set_other xs j k x (λ e. ne (ap suc e))

-- what was found for the goals tells their costs
pub right_costs : (t : PlainTask) (found : List (Option (List ActionId))) → AreRight t [] found → AreCosts t (map (option_map length) found)
right_costs t found right = record {
  each_goal = length-map found (option_map length) ∙ right.each_goal;
  right = λ k c at.
      let x = at_of_map (option_map length) found k c at in
      by k c x.0 x.2 (right.right k x.0 x.1);
}
  where
    by : (k : ℕ) (c : Option ℕ) (x : Option (List ActionId)) → option_map length x ≡ c → IsRight t (record { 0 = k }) [] x → IsCost t (record { 0 = k }) [] c
    by k c None e h = subst (λ d. IsCost t (record { 0 = k }) [] d) e h
    by k c (Some plan) e h = subst (λ d. IsCost t (record { 0 = k }) [] d) e h.1

module _ (t : PlainTask) (costs : List (Option ℕ)) (are : AreCosts t costs) where
  -- a goal with a plan has its cost at its place
  pub cost_there : (g : GoalId) → HasPlan t g [] → (c : ℕ) × (slice_get costs g.0 ≡ Some (Some c)) × IsCost t g [] (Some c)
  cost_there g has =
      let within : g.0 < length t.goals = goal_of_task t g has.0 has.1 in
      let at : g.0 < length costs = omega (arith, are.each_goal) in
      some (get_or costs g.0 None) (slice_get-get_or costs g.0 None at)
    where
      some : (x : Option ℕ) → slice_get costs g.0 ≡ Some x → (c : ℕ) × (slice_get costs g.0 ≡ Some (Some c)) × IsCost t g [] (Some c)
      some None e = absurd (are.right g.0 None e has.0 has.1)
      some (Some c) e = (c, e, are.right g.0 (Some c) e)

  pub costed : (g : GoalId) (c : ℕ) → IsCost t g [] (Some c) → slice_get costs g.0 ≡ Some (Some c)
  costed g c cost =
      let there = cost_there g (cost.0.0, cost.0.2) in
      there.1 ∙ ap (λ n. Some (Some n)) (same_cost t g there.0 c there.2 cost)

  -- whether the goal costs so much, by what stands at its place
  pub cost_is : (g : GoalId) (c : ℕ) → g.0 < length costs → option_eq eqb (get_or costs g.0 None) (Some c) ≡ true → IsCost t g [] (Some c)
  cost_is g c within same = are.right g.0 (Some c) (slice_get-get_or costs g.0 None within ∙ ap Some (same_some (get_or costs g.0 None) c same))

  pub cost_is_not : (g : GoalId) (c : ℕ) → g.0 < length costs → option_eq eqb (get_or costs g.0 None) (Some c) ≡ false → IsCost t g [] (Some c) → ⊥
  cost_is_not g c within other cost =
      other_some (get_or costs g.0 None) c other (some_same (get_or costs g.0 None) (Some c) (sym (slice_get-get_or costs g.0 None within) ∙ costed g c cost))

  -- a bound on the costs at their places bounds each goal's cost
  pub all_within : (most : ℕ) → ((k c : ℕ) → slice_get costs k ≡ Some (Some c) → c ≤ most) → (g : GoalId) → CostsAtMost t most g
  all_within most bound g c cost = bound g.0 c (costed g c cost)

-- the state and the depth at a place
pub same_state : (vs : List Visit) (depths : List ℕ) (place : ℕ) (s u : State) (d e : ℕ) → IsAt vs depths place s d → IsAt vs depths place u e → s ≡ u
same_state vs depths place s u d e p q = sym p.state ∙ ap (λ (v : Visit). v.state) (same_at vs place p.visit q.visit p.there q.there) ∙ q.state

pub same_depth : (vs : List Visit) (depths : List ℕ) (place : ℕ) (s u : State) (d e : ℕ) → IsAt vs depths place s d → IsAt vs depths place u e → d ≡ e
same_depth vs depths place s u d e p q = some_same d e (sym p.deep ∙ q.deep)

-- sets of live goals
module _ (t : PlainTask) (vs : List Visit) (depths : List ℕ) (s : State) (d : ℕ) where
  pub gathers_none : (set : Set) → ((g : GoalId) → IsTrue (set g.0) ↔ EndsAt t s d g) → AreDeep t vs depths → Gathers t vs depths s d 0 set
  gathers_none set is deep = record {
    sound = λ g h. live_end t vs depths deep s d g ((is g).0 h);
    ends = λ g h. (is g).1 h;
    steps = λ g a place to low live. absurd (omega arith);
  }

  -- an action that leads to no deeper state
  pub gathers_pass : (part : ℕ) (set : Set) → Gathers t vs depths s d part set → ((place : ℕ) → LeadsTo t vs depths s d (record { 0 = part }) place → ⊥) → Gathers t vs depths s d (part + 1) set
  gathers_pass part set is none = record {
    sound = is.sound;
    ends = is.ends;
    steps = λ g a place to low live. elim (cases_lt a.0 part) [
      | inl old ↦ is.steps g a place to old live
      | inr past ↦
          let same : a.0 ≡ part = omega arith in
          absurd (none place (subst (λ n. LeadsTo t vs depths s d (record { 0 = n }) place) same to))
    ];
  }

  -- an action that leads to a deeper state, whose live goals are put in
  pub gathers_join : AreDeep t vs depths → (part : ℕ) (set more : Set) (place : ℕ) → Gathers t vs depths s d part set
      → (to : LeadsTo t vs depths s d (record { 0 = part }) place) → AreLive t to.state (d + 1) more → Gathers t vs depths s d (part + 1) (union set more)
  gathers_join deep part set more place is to are = record {
    sound = λ g h. elim (or_cases (set g.0) (more g.0) h) [
      | inl old ↦ is.sound g old
      | inr new ↦ live_back t vs depths deep s d (record { 0 = part }) place g to ((are g).0 new)
    ];
    ends = λ g h. or_first (set g.0) (more g.0) (is.ends g h);
    steps = λ g a other by low live. elim (cases_lt a.0 part) [
      | inl old ↦ or_first (set g.0) (more g.0) (is.steps g a other by old live)
      | inr past ↦
          let same : a.0 ≡ part = omega arith in
          let alike : by.state ≡ to.state = some_same by.state to.state (sym by.step ∙ ap (λ n. step t s (record { 0 = n })) same ∙ to.step) in
          or_second (set g.0) (more g.0) ((are g).1 (subst (λ u. IsLive t u (d + 1) g) alike live))
    ];
  }

  -- the actions that are passed over lead nowhere
  pub gathers_on : (part more : ℕ) (set : Set) → IsGap t part more → Gathers t vs depths s d part set → Gathers t vs depths s d more set
  gathers_on part more set gap is = record { sound = is.sound; ends = is.ends; steps = λ g a place to low live. is.steps g a place to (gap s to.state a to.step low) live }

  pub leads_within : (a : ActionId) (place : ℕ) (live : List (Bits 1)) → LeadsTo t vs depths s d a place → IsLiveDeeper t vs depths d live → place < length live
  leads_within a place live to known = omega (arith, known.each_place, slice_get_within vs place to.deeper.visit to.deeper.there)

  -- the set at the place that the action leads to tells what is live there
  live_there : (a : ActionId) (place : ℕ) (live : List (Bits 1)) (b : Bits 1) (to : LeadsTo t vs depths s d a place) → IsLiveDeeper t vs depths d live → AreLive t to.state (d + 1) (members (get_or live place b))
  live_there a place live b to known = known.tells place to.state (d + 1) (get_or live place b) (omega arith) to.deeper (slice_get-get_or live place b (leads_within a place live to known))

  pub tells_live : (g : GoalId) (a : ActionId) (place : ℕ) (live : List (Bits 1)) (b : Bits 1) (to : LeadsTo t vs depths s d a place) → IsLiveDeeper t vs depths d live
      → members (get_or live place b) g.0 ≡ true → IsLive t to.state (d + 1) g
  tells_live g a place live b to known = (live_there a place live b to known g).0

  pub tells_none : (g : GoalId) (a : ActionId) (place : ℕ) (live : List (Bits 1)) (b : Bits 1) (to : LeadsTo t vs depths s d a place) → IsLiveDeeper t vs depths d live
      → members (get_or live place b) g.0 ≡ false → (k : ℕ) (by : LeadsTo t vs depths s d a k) → IsLive t by.state (d + 1) g → ⊥
  tells_none g a place live b to known none k by is =
      let alike : by.state ≡ to.state = some_same by.state to.state (sym by.step ∙ to.step) in
      false≢true (sym none ∙ (live_there a place live b to known g).1 (subst (λ u. IsLive t u (d + 1) g) alike is))

  -- the goals of the set at the place that the action leads to are put in
  pub gathers_put : AreDeep t vs depths → (part : ℕ) (set more : Set) (place : ℕ) (live : List (Bits 1)) (b : Bits 1) → Gathers t vs depths s d part set
      → LeadsTo t vs depths s d (record { 0 = part }) place → IsLiveDeeper t vs depths d live → more ≡ union set (members (get_or live place b)) → Gathers t vs depths s d (part + 1) more
  gathers_put deep part set more place live b is to known same =
      let are = live_there (record { 0 = part }) place live b to known in
      subst (λ x. Gathers t vs depths s d (part + 1) x) (sym same) (gathers_join deep part set (members (get_or live place b)) place is to are)

  pub gathers_all : AreDeep t vs depths → (part : ℕ) (set : Set) → IsVisited vs depths s d → length t.actions ≤ part → Gathers t vs depths s d part set → AreLive t s d set
  gathers_all deep part set at all is g = (
    is.sound g,
    λ live. elim (live_on t vs depths deep s d g at live) [
      | inl end ↦ is.ends g end
      | inr next ↦ is.steps g next.0 next.1 next.2 (omega (arith, next.3)) next.4
    ],
  )

  pub misses_more : (g : GoalId) (part : ℕ) → MissesBy t vs depths s d g part
      → ((place : ℕ) (to : LeadsTo t vs depths s d (record { 0 = part }) place) → IsLive t to.state (d + 1) g → ⊥) → MissesBy t vs depths s d g (part + 1)
  misses_more g part below here a place to low live = elim (cases_lt a.0 part) [
    | inl old ↦ below a place to old live
    | inr past ↦
        let same : a.0 ≡ part = omega arith in
        let by : LeadsTo t vs depths s d (record { 0 = part }) place = record { state = to.state; step = ap (λ n. step t s (record { 0 = n })) (sym same) ∙ to.step; deeper = to.deeper } in
        here place by live
  ]

  pub misses_on : (g : GoalId) (part more : ℕ) → IsGap t part more → MissesBy t vs depths s d g part → MissesBy t vs depths s d g more
  misses_on g part more gap misses a place to low live = misses a place to (gap s to.state a to.step low) live

  pub misses_all : AreDeep t vs depths → (g : GoalId) (part place : ℕ) → IsAt vs depths place s d → length t.actions ≤ part → MissesBy t vs depths s d g part
      → (u : State) (e : ℕ) → IsAt vs depths place u e → IsLive t u e g → EndsAt t u e g
  misses_all deep g part place at all misses u e there live =
      let to_u : s ≡ u = same_state vs depths place s u d e at there in
      let to_e : d ≡ e = same_depth vs depths place s u d e at there in
      let here : IsLive t s d g = subst (λ n. IsLive t s n g) (sym to_e) (subst (λ y. IsLive t y e g) (sym to_u) live) in
      let end : EndsAt t s d g = elim (live_on t vs depths deep s d g (place, at) here) [
        | inl end ↦ end
        | inr next ↦ absurd (misses next.0 next.1 next.2 (omega (arith, next.3)) next.4)
      ] in
      subst (λ n. EndsAt t u n g) to_e (subst (λ y. EndsAt t y d g) to_u end)

module _ (t : PlainTask) (vs : List Visit) (depths : List ℕ) (deep : AreDeep t vs depths) where
  -- a deeper place stands behind
  pub behind : (j k : ℕ) (s u : State) (d e : ℕ) → IsAt vs depths j s d → IsAt vs depths k u e → d < e → j < k
  behind j k s u d e at next deeper =
      elim (cases_lt j k) [
        | inl low ↦ low
        | inr past ↦ absurd (
            let is_d = depth_is t vs depths deep j s d at in
            let is_e = depth_is t vs depths deep k u e next in
            omega (arith, is_d, is_e, deep.layered.rise k j past (slice_get_within vs j at.visit at.there)))
      ]

  pub live_deeper : (place : ℕ) (s : State) (d first : ℕ) (live : List (Bits 1)) → IsAt vs depths place s d → first ≤ place + 1 → IsLiveFrom t vs depths first live → IsLiveDeeper t vs depths d live
  live_deeper place s d first live at low is = record {
    each_place = is.each_place;
    tells = λ k u e b deeper next here.
        let back : place < k = behind place k s u d e at next deeper in
        is.tells k u e b (omega arith) next here;
  }

  -- a common sequence leads to a visited state where both goals are live
  begins_live : (g : GoalId) (q : List ActionId) → BeginsOptimal t g [] q → (x : State) × (after t [] (start_of t) q ≡ Some x) × IsLive t x (length q) g × IsVisited vs depths x (length q)
  begins_live g q begins =
      let plan : List ActionId = begins.0 in
      let rest : List ActionId = begins.2.0 in
      let long : length q + length rest ≡ length plan = omega (arith, ap length begins.2.1, length-append q rest) in
      let r = reaches_parted t g (start_of t) q rest (subst (λ p. IsPlan t g [] p) begins.2.1 begins.1.0) in
      (r.0, r.1, record { cost = length plan; least = begins.1.1; rest = rest; reaches = r.2; adds_up = long }, exact t vs depths deep g (length plan) q rest r.0 begins.1.1 r.1 r.2 long)

  -- two goals are in the one order or in the other
  few_other : (s : State) (d : ℕ) (g h : GoalId) → HasFewLive t s d → (g ≡ h → ⊥) → IsLive t s d g → IsLive t s d h → ⊥
  few_other s d g h few differ live also = elim (cases_lt g.0 h.0) [
    | inl low ↦ few g h low live also
    | inr past ↦ elim (cases_eq g.0 h.0) [
      | inl same ↦ differ (same_goal g h same)
      | inr other ↦ few h g (omega arith) also live
    ]
  ]

  -- behind a place there are no two live goals: no common sequence is longer than the place is deep
  pub greatest : (place : ℕ) (s : State) (d : ℕ) → IsAt vs depths place s d → AreFewFrom t vs depths (place + 1) → (i j : GoalId) (q : List ActionId) → IsCommon t [] i j q → length q ≤ d
  greatest place s d at few i j q common =
      let x = begins_live i q common.first in
      let y = begins_live j q common.second in
      let same : y.0 ≡ x.0 = some_same y.0 x.0 (sym y.1 ∙ x.1) in
      elim (cases_lt place x.3.0) [
        | inl back ↦ absurd (few_other x.0 (length q) i j (few x.3.0 x.0 (length q) (omega arith) x.3.1) common.different x.2 (subst (λ u. IsLive t u (length q) j) same y.2))
        | inr front ↦
            let is_q = depth_is t vs depths deep x.3.0 x.0 (length q) x.3.1 in
            let is_d = depth_is t vs depths deep place s d at in
            omega (arith, is_q, is_d, deep.layered.rise x.3.0 place front (slice_get_within vs place at.visit at.there))
      ]

  pub few_plans : (costs : List (Option ℕ)) → AreCosts t costs → AreFewFrom t vs depths 0 → IsWcd t [] None
  few_plans costs are few i j differ has_i has_j =
      let first = deep.layered.first in
      let at : IsAt vs depths first.place (start_of t) 0 = record {
        visit = first.visit;
        there = first.at;
        state = first.state;
        deep = deep.layered.depth first.place (slice_get_within vs first.place first.visit first.at) ∙ ap Some (omega (arith, first.short));
      } in
      few_other (start_of t) 0 i j (few first.place (start_of t) 0 (omega arith) at) differ (live_start i has_i) (live_start j has_j)
    where
      live_start : (g : GoalId) → HasPlan t g [] → IsLive t (start_of t) 0 g
      live_start g has =
          let c = cost_there t costs are g has in
          record { cost = c.0; least = c.2; rest = c.2.0.0; reaches = c.2.0.2; adds_up = omega (arith, c.2.0.1) }

-- the place before the settled ones
module _ (t : PlainTask) (vs : List Visit) (depths : List ℕ) (place : ℕ) (s : State) (d : ℕ) (at : IsAt vs depths place s d) (b : Bits 1) (are : AreLive t s d (members b)) where
  pub settled : (live : List (Bits 1)) → place < length live → IsLiveFrom t vs depths (place + 1) live → IsLiveFrom t vs depths place (set live place b)
  settled live within is = record {
    each_place = length-set live place b ∙ is.each_place;
    tells = λ k u e c low there here. elim (cases_eq k place) [
      | inl same ↦
          let at_place : IsAt vs depths place u e = subst (λ n. IsAt vs depths n u e) same there in
          let to_u : s ≡ u = same_state vs depths place s u d e at at_place in
          let to_e : d ≡ e = same_depth vs depths place s u d e at at_place in
          let to_c : b ≡ c = some_same b c (sym (set_same live place b within) ∙ ap (slice_get (set live place b)) (sym same) ∙ here) in
          subst (λ n. AreLive t u n (members c)) to_e (subst (λ y. AreLive t y d (members c)) to_u (subst (λ x. AreLive t s d (members x)) to_c are))
      | inr other ↦ is.tells k u e c (omega arith) there (sym (set_other live place k b other) ∙ here)
    ];
  }

  pub shared_at : (bound : ℕ) → bound ≤ 64 → (g h : GoalId) → (g.0 < h.0) × (h.0 < bound) × IsTrue (members b g.0) × IsTrue (members b h.0) → ShareAt t vs depths place g h
  shared_at bound few g h two = record { state = s; depth = d; here = at; rise = two.0; low = omega (arith, two.1); first = (are g).0 two.2; second = (are h).0 two.3 }

  pub few_settled : ((m n : ℕ) → m < n → n < length t.goals → IsTrue (members b m) → IsTrue (members b n) → ⊥) → AreFewFrom t vs depths (place + 1) → AreFewFrom t vs depths place
  few_settled none few k u e low there g h rise live also = elim (cases_eq k place) [
    | inl same ↦
        let at_place : IsAt vs depths place u e = subst (λ n. IsAt vs depths n u e) same there in
        let to_s : u ≡ s = same_state vs depths place u s e d at_place at in
        let to_d : e ≡ d = same_depth vs depths place u s e d at_place at in
        let here : (x : GoalId) → IsLive t u e x → IsTrue (members b x.0) = λ x l. (are x).1 (subst (λ n. IsLive t s n x) to_d (subst (λ y. IsLive t y e x) to_s l)) in
        none g.0 h.0 rise (goal_of_task t h also.least.0.0 also.least.0.2) (here g live) (here h also)
    | inr other ↦ few k u e (omega arith) there g h rise live also
  ]

pub if_none : {X : Type 0} (o : Option X) (P Q : Type 0) → IfNone o P → (P → Q) → IfNone o Q
if_none None P Q h f = f h
if_none (Some x) P Q h f = h

pub live_later : (t : PlainTask) (vs : List Visit) (depths : List ℕ) (j k : ℕ) (live : List (Bits 1)) → j ≤ k → IsLiveFrom t vs depths j live → IsLiveFrom t vs depths k live
live_later t vs depths j k live le is = record { each_place = is.each_place; tells = λ i s d b low at here. is.tells i s d b (omega arith) at here }
