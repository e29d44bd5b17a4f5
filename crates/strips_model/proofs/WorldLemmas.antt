-- A world and its task: the sequences that can be taken are the same, and so are the fluent atoms behind them.
use Rattle.std.proofs.Common.{◌≡◌, ◌<◌, ◌≤◌, ℕ, zero, suc, ◌+◌, Bool, true, false, not, cond, List, [], ◌∷◌, ◌++◌, length, get_or, eqb, refl, sym, ◌∙◌, ap, subst, arith, Option, Some, None, ◌&&◌, ◌||◌, ◌↔◌}
use Rattle.std.specs.Prelude.{slice_get, map, All, Contains, IsTrue, IsSomeAnd}
use Rattle.std.specs.Option.{option_map, option_map_or, option_and_then}
use mathlib.Core.Path.{ap₂}
use Rattle.std.proofs.lemmas.Bool.{false≢true, and_parts, and_from, not-true, not_from_false, eqb-true, eq-eqb, ne_eqb}
use Rattle.std.proofs.lemmas.List.Elements.{All-tail}
use Rattle.std.proofs.lemmas.List.Folds.{list_any-append, list_all-append, list_any_at}
use Rattle.std.proofs.lemmas.List.Sums.{list_all-from_AllPass}
use Rattle.std.proofs.lemmas.Option.{slice_get_within, get_or_from_slice_get, slice_get-map}
use Rattle.grd_base.specs.declared.ids.AtomId.{AtomId}
use Rattle.grd_base.specs.declared.ids.ActionId.{ActionId}
use Rattle.grd_base.specs.declared.ids.GoalId.{GoalId}
use Rattle.grd_base.specs.Rising.{has_id}
use Rattle.grd_base.specs.Sets.{Set, minus}
use Rattle.strips_model.specs.Values.{Goal, WorldAction, PlainWorld, AreAtoms, IsWorldAction, IsWorld}
use Rattle.strips_model.specs.Plans.{State, set_of, has_all, can_apply, effect, satisfies, after, step, step_without, goal_holds, start_of, IsPlan}
use Rattle.strips_model.specs.Worlds.{places_of, complements, task_action, task_of_world}
use Rattle.strips_model.specs.WorldPlans.{has_none, world_can_apply, world_effect, world_step, world_step_without, world_after, world_goal_holds, world_end, IsWorldPlan, IsSameEnd}
use Rattle.strips_model.proofs.LevelLaws.{set_within}

-- two tests are the same where each passes as the other does
same_test : (a b : Bool) → (a ≡ true → b ≡ true) → (b ≡ true → a ≡ true) → a ≡ b
same_test true b to from = sym (to refl)
same_test false true to from = from refl
same_test false false to from = refl

set_append : (xs ys : List AtomId) (n : ℕ) → set_of (xs ++ ys) n ≡ (set_of xs n || set_of ys n)
set_append xs ys n = list_any-append (λ a. eqb a.0 n) xs ys

has_all_append : (s : State) (xs ys : List AtomId) → has_all s (xs ++ ys) ≡ (has_all s xs && has_all s ys)
has_all_append s xs ys = list_all-append (λ a. s a.0) xs ys

-- no atom of a list over so many is past them
set_past : (f n : ℕ) (xs : List AtomId) → All (λ a. a.0 < f) xs → f ≤ n → set_of xs n ≡ false
set_past f n [] below past = refl
set_past f n (x ∷ xs) below past =
    ap₂ ◌||◌ (ne_eqb x.0 n (let lt : x.0 < f = below 0 x (omega arith) in omega arith)) (set_past f n xs (All-tail (λ a. a.0 < f) x xs below) past)

-- states with the same atoms below f have the same of a list's
has_all_same : (f : ℕ) (s u : State) (xs : List AtomId) → ((n : ℕ) → n < f → s n ≡ u n) → All (λ a. a.0 < f) xs → has_all s xs ≡ has_all u xs
has_all_same f s u [] same below = refl
has_all_same f s u (x ∷ xs) same below =
    ap₂ ◌&&◌ (same x.0 (below 0 x (omega arith))) (has_all_same f s u xs same (All-tail (λ a. a.0 < f) x xs below))

-- the members of a state of whose list it has none
none_false : (s : State) (xs : List AtomId) (n : ℕ) → has_none s xs ≡ true → set_of xs n ≡ true → s n ≡ false
none_false s [] n none member = absurd (false≢true member)
none_false s (x ∷ xs) n none member =
    let parts = and_parts (not (s x.0)) (has_none s xs) none in
    by (eqb x.0 n) refl member parts.0 (none_false s xs n parts.1)
  where
    by : (b : Bool) → eqb x.0 n ≡ b → (b || set_of xs n) ≡ true → not (s x.0) ≡ true → (set_of xs n ≡ true → s n ≡ false) → s n ≡ false
    by true same member here rest = ap s (sym (eqb-true x.0 n same)) ∙ not-true (s x.0) here
    by false other member here rest = rest member

-- the places at which a test passes, as a set

module _ (p : AtomId → Bool) where
  place_before : (b n : ℕ) (xs : List AtomId) → n < b → set_of (places_of p b xs) n ≡ false
  place_before b n [] lt = refl
  place_before b n (x ∷ xs) lt = each (p x) (place_before (b + 1) n xs (omega arith))
    where
      each : (t : Bool) → set_of (places_of p (b + 1) xs) n ≡ false
          → set_of (cond t (record { 0 = b } ∷ places_of p (b + 1) xs) (places_of p (b + 1) xs)) n ≡ false
      each true rest = ap₂ ◌||◌ (ne_eqb b n (omega arith)) rest
      each false rest = rest

  place_at : (b : ℕ) (xs : List AtomId) (j : ℕ) (d : AtomId) → j < length xs → set_of (places_of p b xs) (b + j) ≡ p (get_or xs j d)
  place_at b [] j d lt = absurd (omega arith)
  place_at b (x ∷ xs) zero d lt = each (p x)
    where
      each : (t : Bool) → set_of (cond t (record { 0 = b } ∷ places_of p (b + 1) xs) (places_of p (b + 1) xs)) (b + 0) ≡ t
      each true = ap (λ c. c || set_of (places_of p (b + 1) xs) (b + 0)) (eq-eqb b (b + 0) (omega arith))
      each false = place_before (b + 1) (b + 0) xs (omega arith)
  place_at b (x ∷ xs) (suc j) d lt = each (p x) (subst (λ m. set_of (places_of p (b + 1) xs) m ≡ p (get_or xs j d)) next (place_at (b + 1) xs j d (omega arith)))
    where
      next : (b + 1) + j ≡ b + suc j
      next = omega arith

      each : (t : Bool) → set_of (places_of p (b + 1) xs) (b + suc j) ≡ p (get_or xs j d)
          → set_of (cond t (record { 0 = b } ∷ places_of p (b + 1) xs) (places_of p (b + 1) xs)) (b + suc j) ≡ p (get_or xs j d)
      each true rest = ap (λ c. c || set_of (places_of p (b + 1) xs) (b + suc j)) (ne_eqb b (b + suc j) (omega arith)) ∙ rest
      each false rest = rest

  has_places : (u : State) (b : ℕ) (xs : List AtomId)
      → ((j : ℕ) (d : AtomId) → j < length xs → p (get_or xs j d) ≡ true → u (b + j) ≡ true) → has_all u (places_of p b xs) ≡ true
  has_places u b [] each = refl
  has_places u b (x ∷ xs) each =
      by (p x) refl (has_places u (b + 1) xs (λ j d lt passes. let next : b + suc j ≡ (b + 1) + j = omega arith in
      subst (λ m. u m ≡ true) next (each (suc j) d (omega arith) passes)))
    where
      here : p x ≡ true → u b ≡ true
      here passes = let first : b + 0 ≡ b = omega arith in subst (λ m. u m ≡ true) first (each 0 x (omega arith) passes)

      by : (t : Bool) → p x ≡ t → has_all u (places_of p (b + 1) xs) ≡ true
          → has_all u (cond t (record { 0 = b } ∷ places_of p (b + 1) xs) (places_of p (b + 1) xs)) ≡ true
      by true passes rest = and_from (u b) (has_all u (places_of p (b + 1) xs)) (here passes) rest
      by false passes rest = rest

-- a state of the task is as one of the world: it has the same fluent atoms, and a complement where its atom is false
record Mirrors (w : PlainWorld) (s u : State) : Type 0 where
  fluent : (n : ℕ) → n < w.fluents → s n ≡ u n
  other : (k : ℕ) (d : AtomId) → k < length w.watched → u (w.fluents + k) ≡ not (s (get_or w.watched k d).0)

-- two ends, in the world and in the task
abbrev MirrorEnds : PlainWorld → Option State → Option State → Type 0
MirrorEnds w None None = Unit {0}
MirrorEnds w (Some s) (Some u) = Mirrors w s u
MirrorEnds w x y = ⊥

module _ (w : PlainWorld) (is_world : IsWorld w) where
  complement_before : (c : Set) (n : ℕ) → n < w.fluents → set_of (complements w c) n ≡ false
  complement_before c n lt = place_before (λ a. c a.0) w.fluents n w.watched lt

  complement_at : (c : Set) (k : ℕ) (d : AtomId) → k < length w.watched → set_of (complements w c) (w.fluents + k) ≡ c (get_or w.watched k d).0
  complement_at c k d lt = place_at (λ a. c a.0) w.fluents w.watched k d lt

  -- what must be false is so exactly where its complements are true
  absent_same : (s u : State) (xs : List AtomId) → Mirrors w s u → All (Contains w.watched) xs → has_none s xs ≡ has_all u (complements w (set_of xs))
  absent_same s u xs mirrors watched = same_test _ _
      (λ none. has_places (λ a. set_of xs a.0) u w.fluents w.watched
      (λ j d lt member. mirrors.other j d lt ∙ not_from_false _ (none_false s xs _ none member)))
      (λ all. list_all-from_AllPass (λ a. not (s a.0)) xs (λ i d lt. by i d lt (watched i d lt) all))
    where
      by : (i : ℕ) (d : AtomId) → i < length xs → Contains w.watched (get_or xs i d) → has_all u (complements w (set_of xs)) ≡ true → not (s (get_or xs i d).0) ≡ true
      by i d lt (k, in_watched, same) all =
          let a : AtomId = get_or xs i d in
          let listed : set_of xs a.0 ≡ true = list_any_at (λ b. eqb b.0 a.0) xs i d lt (eq-eqb a.0 a.0 refl) in
          let member : set_of (complements w (set_of xs)) (w.fluents + k) ≡ true = complement_at (set_of xs) k a in_watched ∙ ap (λ b. set_of xs b.0) same ∙ listed in
          sym (ap (λ b. not (s b.0)) same) ∙ sym (mirrors.other k a in_watched) ∙ set_within u (complements w (set_of xs)) all (w.fluents + k) member

  -- an action applies in both or in neither
  applies_same : (act : WorldAction) (s u : State) → IsWorldAction w act → Mirrors w s u → world_can_apply act s ≡ can_apply (task_action w act) u
  applies_same act s u over mirrors =
      ap (λ b. not act.blocked && b)
      (ap₂ ◌&&◌ (has_all_same w.fluents s u act.pre mirrors.fluent over.pre.below) (absent_same s u act.absent mirrors over.watched)
      ∙ sym (has_all_append u act.pre (complements w (set_of act.absent))))

  -- and leads to states that are so again
  effect_same : (act : WorldAction) (s u : State) → IsWorldAction w act → Mirrors w s u → Mirrors w (world_effect act s) (effect (task_action w act) u)
  effect_same act s u over mirrors = record {
    fluent = λ n lt. sym (
        ap₂ (λ del add. (not del && u n) || add)
        (set_append act.del (complements w (set_of act.add)) n ∙ ap (λ b. set_of act.del n || b) (complement_before (set_of act.add) n lt) ∙ or_none (set_of act.del n))
        (set_append act.add (complements w (minus (set_of act.del) (set_of act.add))) n
        ∙ ap (λ b. set_of act.add n || b) (complement_before (minus (set_of act.del) (set_of act.add)) n lt) ∙ or_none (set_of act.add n))
        ∙ ap (λ b. (not (set_of act.del n) && b) || set_of act.add n) (sym (mirrors.fluent n lt)));
    other = λ k d lt.
        let a : ℕ = (get_or w.watched k d).0 in
        ap₂ (λ del add. (not del && u (w.fluents + k)) || add)
        (set_append act.del (complements w (set_of act.add)) (w.fluents + k)
        ∙ ap₂ ◌||◌ (set_past w.fluents (w.fluents + k) act.del over.del.below (omega arith)) (complement_at (set_of act.add) k d lt))
        (set_append act.add (complements w (minus (set_of act.del) (set_of act.add))) (w.fluents + k)
        ∙ ap₂ ◌||◌ (set_past w.fluents (w.fluents + k) act.add over.add.below (omega arith)) (complement_at (minus (set_of act.del) (set_of act.add)) k d lt))
        ∙ ap (λ b. (not (set_of act.add a) && b) || (not (set_of act.add a) && set_of act.del a)) (mirrors.other k d lt)
        ∙ turned (set_of act.del a) (set_of act.add a) (s a);
  }
    where
      or_none : (b : Bool) → (b || false) ≡ b
      or_none true = refl
      or_none false = refl

      turned : (del add before : Bool) → ((not add && not before) || (not add && del)) ≡ not ((not del && before) || add)
      turned true true true = refl
      turned true true false = refl
      turned true false true = refl
      turned true false false = refl
      turned false true true = refl
      turned false true false = refl
      turned false false true = refl
      turned false false false = refl

  start_same : Mirrors w (set_of w.init) (start_of (task_of_world w))
  start_same = record {
    fluent = λ n lt. sym (set_append w.init (complements w missing) n ∙ ap (λ b. set_of w.init n || b) (complement_before missing n lt) ∙ or_none (set_of w.init n));
    other = λ k d lt.
        set_append w.init (complements w missing) (w.fluents + k)
        ∙ ap₂ ◌||◌ (set_past w.fluents (w.fluents + k) w.init is_world.init.below (omega arith)) (complement_at missing k d lt);
  }
    where
      missing : Set
      missing n = not (set_of w.init n)

      or_none : (b : Bool) → (b || false) ≡ b
      or_none true = refl
      or_none false = refl

  step_same : (s u : State) (a : ActionId) → Mirrors w s u → MirrorEnds w (world_step w s a) (step (task_of_world w) u a)
  unfolding world_step step
  step_same s u a mirrors = by (slice_get w.actions a.0) refl (slice_get-map (task_action w) w.actions a.0)
    where
      taken : (act : WorldAction) → IsWorldAction w act → (b : Bool) → can_apply (task_action w act) u ≡ b
          → MirrorEnds w (cond b (Some (world_effect act s)) None) (cond (can_apply (task_action w act) u) (Some (effect (task_action w act) u)) None)
      taken act over true e = subst (λ c. MirrorEnds w (Some (world_effect act s)) (cond c (Some (effect (task_action w act) u)) None)) (sym e) (effect_same act s u over mirrors)
      taken act over false e = subst (λ c. MirrorEnds w None (cond c (Some (effect (task_action w act) u)) None)) (sym e) tt

      by : (o : Option WorldAction) → slice_get w.actions a.0 ≡ o → slice_get (map (task_action w) w.actions) a.0 ≡ option_map (task_action w) (slice_get w.actions a.0)
          → MirrorEnds w (option_and_then (λ act. cond (world_can_apply act s) (Some (world_effect act s)) None) o)
          (option_and_then (λ act. cond (can_apply act u) (Some (effect act u)) None) (slice_get (map (task_action w) w.actions) a.0))
      by None at mapped = subst (λ x. MirrorEnds w None (option_and_then (λ act. cond (can_apply act u) (Some (effect act u)) None) x)) (sym (mapped ∙ ap (option_map (task_action w)) at)) tt
      by (Some act) at mapped =
          let over : IsWorldAction w act = subst (IsWorldAction w) (get_or_from_slice_get w.actions a.0 act act at) (is_world.actions a.0 act (slice_get_within w.actions a.0 act at)) in
          subst (λ x. MirrorEnds w (cond (world_can_apply act s) (Some (world_effect act s)) None) (option_and_then (λ act. cond (can_apply act u) (Some (effect act u)) None) x))
          (sym (mapped ∙ ap (option_map (task_action w)) at))
          (taken act over (world_can_apply act s) (sym (applies_same act s u over mirrors)))

  without_same : (removed : List ActionId) (s u : State) (a : ActionId) → Mirrors w s u → MirrorEnds w (world_step_without w removed s a) (step_without (task_of_world w) removed u a)
  unfolding world_step_without step_without
  without_same removed s u a mirrors = by (has_id removed a)
    where
      by : (b : Bool) → MirrorEnds w (cond b None (world_step w s a)) (cond b None (step (task_of_world w) u a))
      by true = tt
      by false = step_same s u a mirrors

  after_same : (removed : List ActionId) (p : List ActionId) (s u : State) → Mirrors w s u → MirrorEnds w (world_after w removed s p) (after (task_of_world w) removed u p)
  unfolding world_after after
  after_same removed [] s u mirrors = mirrors
  after_same removed (a ∷ p) s u mirrors =
      by (λ v v2 same. after_same removed p v v2 same) (world_step_without w removed s a) (step_without (task_of_world w) removed u a) (without_same removed s u a mirrors)
    where
      by : ((v v2 : State) → Mirrors w v v2 → MirrorEnds w (world_after w removed v p) (after (task_of_world w) removed v2 p))
          → (x y : Option State) → MirrorEnds w x y
          → MirrorEnds w (option_and_then (λ v. world_after w removed v p) x) (option_and_then (λ v. after (task_of_world w) removed v p) y)
      by rest None None same = tt
      by rest None (Some v) same = absurd same
      by rest (Some v) None same = absurd same
      by rest (Some v) (Some v2) same = rest v v2 same

  -- from the start: both or neither, and then with the same fluent atoms
  pub ends_same : (removed p : List ActionId) → IsSameEnd w (world_end w removed p) (after (task_of_world w) removed (start_of (task_of_world w)) p)
  ends_same removed p = by (world_end w removed p) (after (task_of_world w) removed (start_of (task_of_world w)) p)
      (after_same removed p (set_of w.init) (start_of (task_of_world w)) start_same)
    where
      by : (x y : Option State) → MirrorEnds w x y → IsSameEnd w x y
      by None None same = tt
      by None (Some u) same = absurd same
      by (Some s) None same = absurd same
      by (Some s) (Some u) same = same.fluent

  -- the same goals hold
  goal_same : (g : GoalId) (s u : State) → ((n : ℕ) → n < w.fluents → s n ≡ u n) → world_goal_holds w g s ≡ goal_holds (task_of_world w) g u
  goal_same g s u same = by (slice_get w.goals g.0) refl
    where
      by : (o : Option Goal) → slice_get w.goals g.0 ≡ o → option_map_or (λ goal. satisfies goal s) o false ≡ option_map_or (λ goal. satisfies goal u) o false
      by None at = refl
      by (Some goal) at =
          let over : AreAtoms w.fluents goal.atoms = subst (λ (x : Goal). AreAtoms w.fluents x.atoms) (get_or_from_slice_get w.goals g.0 goal goal at) (is_world.goals g.0 goal (slice_get_within w.goals g.0 goal at)) in
          ap (λ b. not goal.blocked && b) (has_all_same w.fluents s u goal.atoms same over.below)

  -- so the plans are the same
  pub plans_same : (g : GoalId) (removed p : List ActionId) → IsWorldPlan w g removed p ↔ IsPlan (task_of_world w) g removed p
  plans_same g removed p = by (world_end w removed p) (after (task_of_world w) removed (start_of (task_of_world w)) p) (ends_same removed p)
    where
      by : (x y : Option State) → IsSameEnd w x y
          → IsSomeAnd x (λ s. IsTrue (world_goal_holds w g s)) ↔ IsSomeAnd y (λ u. IsTrue (goal_holds (task_of_world w) g u))
      by None None same = ((λ h. h), (λ h. h))
      by None (Some u) same = absurd same
      by (Some s) None same = absurd same
      by (Some s) (Some u) same = ((λ h. sym (goal_same g s u same) ∙ h), (λ h. goal_same g s u same ∙ h))
