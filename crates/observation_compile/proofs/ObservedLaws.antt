-- The observed task: each of its states stands for a state of the task with so many observations made,
-- so its plans read as the plans that embed the observations, and each of those is read so.
use mathlib.Core.Path.{ap₂}
use Rattle.std.proofs.Common.{◌≡◌, ◌↔◌, ◌⊎◌, ◌≤◌, ◌<◌, ◌&&◌, ◌||◌, ℕ, zero, suc, ◌+◌, ◌-◌, Bool, true, false, cond, not, List, [], ◌∷◌, ◌++◌, length, map, drop, get_or, eqb, refl, sym, ◌∙◌, ap, subst, inl, inr, arith, Option, Some, None, add-zero}
use Rattle.std.specs.Prelude.{slice_get, All, IsTrue, IsSomeAnd}
use Rattle.std.specs.Option.{option_map, option_map_or, option_and_then, unwrap_or}
use Rattle.std.proofs.lemmas.Bool.{false≢true, and_parts, and_from, or_from, or_left, or_right, eq-eqb, ne_eqb, cases_lt, lt-ltb, le-ltb}
use Rattle.std.proofs.lemmas.List.{length-map, drop_more, drop_all}
use Rattle.std.proofs.lemmas.List.Elements.{All-tail}
use Rattle.std.proofs.lemmas.List.Folds.{list_all-append, list_any-append, list_any_none}
use Rattle.std.proofs.lemmas.Option.{slice_get_within, slice_get-get_or, get_or_from_slice_get, slice_get-map}
use Rattle.grd_base.specs.declared.ids.AtomId.{AtomId}
use Rattle.grd_base.specs.declared.ids.ActionId.{ActionId}
use Rattle.grd_base.specs.declared.ids.GoalId.{GoalId}
use Rattle.strips_model.specs.Values.{GroundAction, Goal, PlainTask, AreAtoms, IsActionBelow, IsTask}
use Rattle.strips_model.specs.Agents.{Embeds}
use Rattle.strips_model.specs.Plans.{State, set_of, has_all, can_apply, effect, step, step_without, after, satisfies, goal_holds, start_of, Reaches, IsPlan, IsCost, IsRecognised}
use Rattle.strips_model.proofs.StepLemmas.{kept_step}
use Rattle.strips_model.proofs.MoveLemmas.{step_by}
use Rattle.strips_model.specs.Observed.{atom_of, atom_before, with_more, copy_of, no_action, copies_of, goal_with, observed_task, read_as}

-- a list of atoms below the bound has no atom past it
none_past : (bound : ℕ) (xs : List AtomId) → All (λ a. a.0 < bound) xs → (n : ℕ) → bound ≤ n → set_of xs n ≡ false
none_past bound xs below n high = list_any_none (λ (a : AtomId). eqb a.0 n) xs (λ i d within. ne_eqb (get_or xs i d).0 n (omega (arith, high, below i d within)))

-- two sets that agree below the bound have the same of the atoms below it
same_below : (bound : ℕ) (s u : State) (xs : List AtomId) → All (λ a. a.0 < bound) xs → ((n : ℕ) → n < bound → u n ≡ s n) → has_all u xs ≡ has_all s xs
same_below bound s u [] below same = refl
same_below bound s u (x ∷ xs) below same =
    ap₂ ◌&&◌ (same x.0 (below 0 x (omega arith))) (same_below bound s u xs (All-tail (λ (a : AtomId). a.0 < bound) x xs below) same)

or_none : (b : Bool) → (b || false) ≡ b
or_none true = refl
or_none false = refl

-- what an action leaves of an atom past the bound
effect_past : (bound : ℕ) (act : GroundAction) (u : State) (m : ℕ) → All (λ a. a.0 < bound) act.del → bound ≤ m → effect act u m ≡ (u m || set_of act.add m)
effect_past bound act u m below high = ap (λ b. (not b && u m) || set_of act.add m) (none_past bound act.del below m high)

-- the set of a list with one more atom behind it
set_more : (xs : List AtomId) (a : AtomId) (n : ℕ) → set_of (xs ++ a ∷ []) n ≡ (set_of xs n || eqb a.0 n)
set_more xs a n = list_any-append (λ (b : AtomId). eqb b.0 n) xs (a ∷ []) ∙ ap (λ b. set_of xs n || b) (or_none (eqb a.0 n))

-- the observed state stands for the state with the first k observations made
record Stands (t : PlainTask) (s u : State) (k : ℕ) : Type 0 where
  plain : (n : ℕ) → n < t.atoms → u n ≡ s n
  made : (i : ℕ) → i < k → u (t.atoms + i) ≡ true
  ahead : (i : ℕ) → k ≤ i → u (t.atoms + i) ≡ false

-- the start stands for the start with none made
start_stands : (t : PlainTask) (os : List ActionId) → IsTask t → Stands t (start_of t) (start_of (observed_task t os)) 0
start_stands t os task = record {
  plain = λ n low. refl;
  made = λ i low. absurd (omega (arith, low));
  ahead = λ i high. none_past t.atoms t.init task.init.below (t.atoms + i) (omega arith);
}

module _ (t : PlainTask) (s u : State) (k : ℕ) (stands : Stands t s u k) where
  -- the atom before an observation is true exactly where those before it are made
  has_before : (xs : List AtomId) (j : ℕ) → has_all u (with_more xs (atom_before t j)) ≡ true → (has_all u xs ≡ true) × (j ≤ k)
  has_before xs zero h = (h, omega arith)
  has_before xs (suc j) h =
      let parts = and_parts (has_all u xs) (has_all u (atom_of t j ∷ [])) (sym (list_all-append (λ (a : AtomId). u a.0) xs (atom_of t j ∷ [])) ∙ h) in
      let is : u (t.atoms + j) ≡ true = (and_parts (u (t.atoms + j)) true parts.1).0 in (
        parts.0,
        elim (cases_lt j k) [
          | inl low ↦ omega (arith, low)
          | inr high ↦ absurd (false≢true (sym (stands.ahead j high) ∙ is))
        ],
      )

  from_before : (xs : List AtomId) (j : ℕ) → has_all u xs ≡ true → j ≤ k → has_all u (with_more xs (atom_before t j)) ≡ true
  from_before xs zero h low = h
  from_before xs (suc j) h low =
      list_all-append (λ (a : AtomId). u a.0) xs (atom_of t j ∷ [])
      ∙ and_from (has_all u xs) (has_all u (atom_of t j ∷ [])) h (and_from (u (t.atoms + j)) true (stands.made j (omega (arith, low))) refl)

  module _ (act : GroundAction) (below : IsActionBelow t.atoms act) where
    -- an action of the task applies alike
    applies_same : can_apply act u ≡ can_apply act s
    applies_same = ap (λ b. not act.blocked && b) (same_below t.atoms s u act.pre below.pre.below stands.plain)

    -- its copy applies where it does and the observations before are made
    copy_applies : (j : ℕ) → can_apply (copy_of t j act) u ≡ true → (can_apply act s ≡ true) × (j ≤ k)
    copy_applies j h =
        let parts = and_parts (not act.blocked) _ h in
        let before = has_before act.pre j parts.1 in
        (sym applies_same ∙ and_from (not act.blocked) (has_all u act.pre) parts.0 before.0, before.1)

    applies_copy : (j : ℕ) → can_apply act s ≡ true → j ≤ k → can_apply (copy_of t j act) u ≡ true
    applies_copy j h low =
        let parts = and_parts (not act.blocked) (has_all u act.pre) (applies_same ∙ h) in
        and_from (not act.blocked) (has_all u (with_more act.pre (atom_before t j))) parts.0 (from_before act.pre j parts.1 low)

    -- after the action as many observations are made
    plain_stands : Stands t (effect act s) (effect act u) k
    plain_stands = record {
      plain = λ n low. ap (λ b. (not (set_of act.del n) && b) || set_of act.add n) (stands.plain n low);
      made = λ i low.
          let high : t.atoms ≤ t.atoms + i = omega arith in
          effect_past t.atoms act u (t.atoms + i) below.del.below high ∙ or_left (u (t.atoms + i)) (set_of act.add (t.atoms + i)) (stands.made i low);
      ahead = λ i past.
          let high : t.atoms ≤ t.atoms + i = omega arith in
          effect_past t.atoms act u (t.atoms + i) below.del.below high
          ∙ or_from (u (t.atoms + i)) (set_of act.add (t.atoms + i)) (stands.ahead i past) (none_past t.atoms act.add below.add.below (t.atoms + i) high);
    }

    -- after its copy that observation is made as well
    copy_stands : (j l : ℕ) → k ≤ l → j < l → ((i : ℕ) → k ≤ i → i < l → i ≡ j) → Stands t (effect act s) (effect (copy_of t j act) u) l
    copy_stands j l more new only = record {
      plain = λ n low.
          let other : eqb (t.atoms + j) n ≡ false = ne_eqb (t.atoms + j) n (omega (arith, low)) in
          let adds : set_of (copy_of t j act).add n ≡ set_of act.add n = set_more act.add (atom_of t j) n ∙ ap (λ b. set_of act.add n || b) other ∙ or_none (set_of act.add n) in
          ap₂ (λ b c. (not (set_of act.del n) && b) || c) (stands.plain n low) adds;
      made = λ i low.
          let m = t.atoms + i in
          let high : t.atoms ≤ t.atoms + i = omega arith in
          effect_past t.atoms (copy_of t j act) u m below.del.below high ∙ elim (cases_lt i k) as (λ _. (u m || set_of (copy_of t j act).add m) ≡ true) [
            | inl old ↦ or_left (u m) (set_of (copy_of t j act).add m) (stands.made i old)
            | inr past ↦
                let same : i ≡ j = only i past low in
                or_right (u m) (set_of (copy_of t j act).add m) (set_more act.add (atom_of t j) m
                ∙ or_right (set_of act.add m) (eqb (t.atoms + j) m) (eq-eqb (t.atoms + j) m (ap (λ n. t.atoms + n) (sym same))))
          ];
      ahead = λ i past.
          let m = t.atoms + i in
          let high : t.atoms ≤ t.atoms + i = omega arith in
          effect_past t.atoms (copy_of t j act) u m below.del.below high
          ∙ or_from (u m) (set_of (copy_of t j act).add m) (stands.ahead i (omega (arith, more, past)))
          (set_more act.add (atom_of t j) m ∙ or_from (set_of act.add m) (eqb (t.atoms + j) m) (none_past t.atoms act.add below.add.below m high) (ne_eqb (t.atoms + j) m (omega (arith, new, past))));
    }

-- a place in the first of two lists, and one in the second
get_first : {X : Type 0} (xs ys : List X) (i : ℕ) → i < length xs → slice_get (xs ++ ys) i ≡ slice_get xs i
get_first [] ys i within = absurd (omega (arith, within))
get_first (x ∷ xs) ys zero within = refl
get_first (x ∷ xs) ys (suc i) within = get_first xs ys i (omega (arith, within))

get_second : {X : Type 0} (xs ys : List X) (i j : ℕ) → i ≡ length xs + j → slice_get (xs ++ ys) i ≡ slice_get ys j
get_second [] ys i j at = let same : i ≡ j = omega (arith, at) in ap (slice_get ys) same
get_second (x ∷ xs) ys zero j at = absurd (omega (arith, at))
get_second (x ∷ xs) ys (suc i) j at = get_second xs ys i j (omega (arith, at))

-- the action of an observation
abbrev observed_action : PlainTask → ActionId → GroundAction
observed_action t o = unwrap_or (slice_get t.actions o.0) no_action

-- the copies in their order
get_copy : (t : PlainTask) (k : ℕ) (os : List ActionId) (j : ℕ) (d : ActionId) → j < length os → slice_get (copies_of t k os) j ≡ Some (copy_of t (k + j) (observed_action t (get_or os j d)))
get_copy t k [] j d within = absurd (omega (arith, within))
get_copy t k (o ∷ os) zero d within = ap (λ n. Some (copy_of t n (observed_action t o))) (sym (add-zero k))
get_copy t k (o ∷ os) (suc j) d within =
    let same : suc k + j ≡ k + suc j = omega arith in
    get_copy t (suc k) os j d (omega (arith, within)) ∙ ap (λ n. Some (copy_of t n (observed_action t (get_or os j d)))) same

length-copies : (t : PlainTask) (k : ℕ) (os : List ActionId) → length (copies_of t k os) ≡ length os
length-copies t k [] = refl
length-copies t k (o ∷ os) = ap suc (length-copies t (suc k) os)

-- a step by an action that applies
step_from : (t : PlainTask) (s : State) (a : ActionId) (act : GroundAction) → slice_get t.actions a.0 ≡ Some act → can_apply act s ≡ true → step_without t [] s a ≡ Some (effect act s)
unfolding step
step_from t s a act at can =
    kept_step t [] s a refl
    ∙ ap (option_and_then (λ x. cond (can_apply x s) (Some (effect x s)) None)) at
    ∙ ap (λ b. cond b (Some (effect act s)) None) can

-- a step more before a sequence that reaches the goal
reaches_more : (t : PlainTask) (g : GoalId) (s v : State) (a : ActionId) (p : List ActionId) → step_without t [] s a ≡ Some v → Reaches t g [] v p → Reaches t g [] s (a ∷ p)
unfolding after
reaches_more t g s v a p is h = subst (λ o. IsSomeAnd (option_and_then (λ w. after t [] w p) o) (λ w. IsTrue (goal_holds t g w))) (sym is) h

-- what a sequence embeds, each longer one does
embeds_later : (os : List ActionId) (a : ActionId) (p : List ActionId) → Embeds os p → Embeds os (a ∷ p)
embeds_later [] a p h = tt
embeds_later (o ∷ os) a p h = inr h

-- the empty sequence embeds no observation
embeds_none : (os : List ActionId) (k : ℕ) → Embeds (drop k os) [] → length os ≤ k
embeds_none os k h = elim (cases_lt k (length os)) [
  | inl within ↦ absurd (subst (λ xs. Embeds xs []) (drop_more os k (record { 0 = 0 }) within) h)
  | inr all ↦ all
]

-- the first action is the next observation, or is passed over
embeds_first : (os : List ActionId) (k : ℕ) (a : ActionId) (p : List ActionId) → Embeds (drop k os) (a ∷ p)
    → ((k < length os) × (get_or os k a ≡ a) × Embeds (drop (k + 1) os) p) ⊎ Embeds (drop k os) p
embeds_first os k a p h = elim (cases_lt k (length os)) [
  | inl within ↦
      let there = drop_more os k a within in
      elim (subst (λ xs. Embeds xs (a ∷ p)) there h) [ inl both ↦ inl (within, both.0, both.1) | inr later ↦ inr (subst (λ xs. Embeds xs p) (sym there) later) ]
  | inr all ↦ inr (subst (λ xs. Embeds xs p) (sym (drop_all k os all)) tt)
]

-- a place within a list has one element
get_or_within : {X : Type 0} (xs : List X) (i : ℕ) (d e : X) → i < length xs → get_or xs i d ≡ get_or xs i e
get_or_within xs i d e within = get_or_from_slice_get xs i (get_or xs i e) d (slice_get-get_or xs i e within)

module _ (t : PlainTask) (os : List ActionId) (task : IsTask t) where
  action_below : (a : ActionId) (act : GroundAction) → slice_get t.actions a.0 ≡ Some act → IsActionBelow t.atoms act
  action_below a act at =
      subst (IsActionBelow t.atoms) (get_or_from_slice_get t.actions a.0 act act at) (task.actions a.0 act (slice_get_within t.actions a.0 act at))

  -- the actions of the observed task: the task's own, and then the copies
  own_action : (a : ActionId) → a.0 < length t.actions → slice_get (observed_task t os).actions a.0 ≡ slice_get t.actions a.0
  own_action a own = get_first t.actions (copies_of t 0 os) a.0 own

  copied_action : (a d : ActionId) (j : ℕ) → a.0 ≡ length t.actions + j → j < length os → slice_get (observed_task t os).actions a.0 ≡ Some (copy_of t j (observed_action t (get_or os j d)))
  copied_action a d j at within =
      let same : 0 + j ≡ j = omega arith in
      get_second t.actions (copies_of t 0 os) a.0 j at ∙ get_copy t 0 os j d within ∙ ap (λ n. Some (copy_of t n (observed_action t (get_or os j d)))) same

  read_own : (a : ActionId) → a.0 < length t.actions → read_as t os a ≡ a
  read_own a own = ap (λ b. cond b a (get_or os (a.0 - length t.actions) a)) (lt-ltb a.0 (length t.actions) own)

  read_copy : (a : ActionId) (j : ℕ) → a.0 ≡ length t.actions + j → read_as t os a ≡ get_or os j a
  read_copy a j at =
      let same : a.0 - length t.actions ≡ j = omega (arith, at) in
      let past : length t.actions ≤ a.0 = omega (arith, at) in
      ap (λ b. cond b a (get_or os (a.0 - length t.actions) a)) (le-ltb a.0 (length t.actions) past) ∙ ap (λ n. get_or os n a) same

  -- what a step of the observed task reads as
  record ReadsAs (s u : State) (k : ℕ) (a : ActionId) : Type 0 where
    state : State
    count : ℕ
    leads : step_without t [] s (read_as t os a) ≡ Some state
    stands : Stands t state u count
    few : count ≤ length os
    made : (count ≡ k) ⊎ ((count ≡ k + 1) × (k < length os) × (read_as t os a ≡ get_or os k a))

  step_reads : (s u v : State) (k : ℕ) (a : ActionId) → Stands t s u k → k ≤ length os → step_without (observed_task t os) [] u a ≡ Some v → ReadsAs s v k a
  step_reads s u v k a stands few is =
      let x = step_by (observed_task t os) [] u a v is in
      elim (cases_lt a.0 (length t.actions)) [
        | inl own ↦
            let at : slice_get t.actions a.0 ≡ Some x.action = sym (own_action a own) ∙ x.at in
            let below = action_below a x.action at in
            let can : can_apply x.action s ≡ true = sym (applies_same t s u k stands x.action below) ∙ x.applies in record {
              state = effect x.action s;
              count = k;
              leads = ap (step_without t [] s) (read_own a own) ∙ step_from t s a x.action at can;
              stands = subst (λ w. Stands t (effect x.action s) w k) (sym x.leads) (plain_stands t s u k stands x.action below);
              few = few;
              made = inl refl;
            }
        | inr past ↦
            let j = a.0 - length t.actions in
            let place : a.0 ≡ length t.actions + j = omega (arith, past) in
            let within : j < length os = omega (
              arith,
              slice_get_within (copies_of t 0 os) j x.action (sym (get_second t.actions (copies_of t 0 os) a.0 j place) ∙ x.at),
              length-copies t 0 os,
            ) in
            let o = get_or os j a in
            let copied : Some x.action ≡ Some (copy_of t j (observed_action t o)) = sym x.at ∙ copied_action a a j place within in
            let same : x.action ≡ copy_of t j (observed_action t o) = cc in
            copy_reads s u v k a stands few j within place o refl (slice_get t.actions o.0) refl
            (ap (λ act. can_apply act u) (sym same) ∙ x.applies) (x.leads ∙ ap (λ act. effect act u) same)
      ]
    where
      copy_reads : (s u v : State) (k : ℕ) (a : ActionId) → Stands t s u k → k ≤ length os → (j : ℕ) → j < length os → a.0 ≡ length t.actions + j → (o : ActionId) → get_or os j a ≡ o
          → (found : Option GroundAction) → slice_get t.actions o.0 ≡ found → can_apply (copy_of t j (unwrap_or found no_action)) u ≡ true → v ≡ effect (copy_of t j (unwrap_or found no_action)) u → ReadsAs s v k a
      copy_reads s u v k a stands few j within place o is_o None at can leads = absurd (false≢true can)
      copy_reads s u v k a stands few j within place o is_o (Some act) at can leads =
          let below = action_below o act at in
          let applies = copy_applies t s u k stands act below j can in
          let low : j ≤ k = applies.1 in
          let reads : read_as t os a ≡ o = read_copy a j place ∙ is_o in
          let moves : step_without t [] s (read_as t os a) ≡ Some (effect act s) = ap (step_without t [] s) reads ∙ step_from t s o act at applies.0 in
          elim (cases_lt j k) [
            | inl made_before ↦ record {
              state = effect act s;
              count = k;
              leads = moves;
              stands = subst (λ w. Stands t (effect act s) w k) (sym leads) (copy_stands t s u k stands act below j k (omega arith) made_before (λ i past lower. absurd (omega (arith, past, lower))));
              few = few;
              made = inl refl;
            }
            | inr not_before ↦
                let next : j ≡ k = omega (arith, low, not_before) in record {
                  state = effect act s;
                  count = k + 1;
                  leads = moves;
                  stands = subst (λ w. Stands t (effect act s) w (k + 1)) (sym leads)
                      (copy_stands t s u k stands act below j (k + 1) (omega arith) (omega (arith, next)) (λ i past lower. omega (arith, next, past, lower)));
                  few = omega (arith, within, next);
                  made = inr (refl, omega (arith, within, next), read_copy a j place ∙ ap (λ n. get_or os n a) next);
                }
          ]

  -- a step of the observed task that reads as an action and leads to a state that stands for the other
  record Performs (s u : State) (l : ℕ) (a : ActionId) : Type 0 where
    by : ActionId
    state : State
    leads : step_without (observed_task t os) [] u by ≡ Some state
    stands : Stands t s state l
    reads : read_as t os by ≡ a

  -- the action itself
  own_performs : (s u v : State) (k : ℕ) (a : ActionId) → Stands t s u k → step_without t [] s a ≡ Some v → Performs v u k a
  own_performs s u v k a stands is =
      let x = step_by t [] s a v is in
      let own : a.0 < length t.actions = slice_get_within t.actions a.0 x.action x.at in
      let below = action_below a x.action x.at in
      let at : slice_get (observed_task t os).actions a.0 ≡ Some x.action = own_action a own ∙ x.at in record {
        by = a;
        state = effect x.action u;
        leads = step_from (observed_task t os) u a x.action at (applies_same t s u k stands x.action below ∙ x.applies);
        stands = subst (λ w. Stands t w (effect x.action u) k) (sym x.leads) (plain_stands t s u k stands x.action below);
        reads = read_own a own;
      }

  -- the copy for the next observation, where that is the action
  copy_performs : (s u v : State) (k : ℕ) (a : ActionId) → Stands t s u k → k < length os → get_or os k a ≡ a → step_without t [] s a ≡ Some v → Performs v u (k + 1) a
  copy_performs s u v k a stands within next is =
      let x = step_by t [] s a v is in
      let below = action_below a x.action x.at in
      let b : ActionId = record { 0 = length t.actions + k } in
      let same : observed_action t (get_or os k a) ≡ x.action = ap (observed_action t) next ∙ ap (λ o. unwrap_or o no_action) x.at in
      let at : slice_get (observed_task t os).actions b.0 ≡ Some (copy_of t k x.action) = copied_action b a k refl within ∙ ap (λ act. Some (copy_of t k act)) same in
      let reads : read_as t os b ≡ a = read_copy b k refl ∙ get_or_within os k b a within ∙ next in record {
        by = b;
        state = effect (copy_of t k x.action) u;
        leads = step_from (observed_task t os) u b (copy_of t k x.action) at (applies_copy t s u k stands x.action below k x.applies (omega arith));
        stands = subst (λ w. Stands t w (effect (copy_of t k x.action) u) (k + 1)) (sym x.leads)
            (copy_stands t s u k stands x.action below k (k + 1) (omega arith) (omega arith) (λ i past lower. omega (arith, past, lower)));
        reads = reads;
      }

  -- an observed goal holds exactly where the goal does and all observations are made
  goal_below : (g : GoalId) (goal : Goal) → slice_get t.goals g.0 ≡ Some goal → All (λ a. a.0 < t.atoms) goal.atoms
  goal_below g goal at =
      (subst (λ (x : Goal). AreAtoms t.atoms x.atoms) (get_or_from_slice_get t.goals g.0 goal goal at) (task.goals g.0 goal (slice_get_within t.goals g.0 goal at))).below

  observed_goal : (g : GoalId) → slice_get (observed_task t os).goals g.0 ≡ option_map (goal_with t (length os)) (slice_get t.goals g.0)
  observed_goal g = slice_get-map (goal_with t (length os)) t.goals g.0

  goal_reads : (g : GoalId) (s u : State) (k : ℕ) → Stands t s u k → goal_holds (observed_task t os) g u ≡ true → (goal_holds t g s ≡ true) × (length os ≤ k)
  goal_reads g s u k stands h = cases (slice_get t.goals g.0) refl (ap (λ o. option_map_or (λ goal. satisfies goal u) o false) (sym (observed_goal g)) ∙ h)
    where
      cases : (o : Option Goal) → slice_get t.goals g.0 ≡ o → option_map_or (λ goal. satisfies goal u) (option_map (goal_with t (length os)) o) false ≡ true
          → (option_map_or (λ goal. satisfies goal s) o false ≡ true) × (length os ≤ k)
      cases None at h = absurd (false≢true h)
      cases (Some goal) at h =
          let parts = and_parts (not goal.blocked) _ h in
          let before = has_before t s u k stands goal.atoms (length os) parts.1 in
          (and_from (not goal.blocked) (has_all s goal.atoms) parts.0 (sym (same_below t.atoms s u goal.atoms (goal_below g goal at) stands.plain) ∙ before.0), before.1)

  reads_goal : (g : GoalId) (s u : State) (k : ℕ) → Stands t s u k → goal_holds t g s ≡ true → length os ≤ k → goal_holds (observed_task t os) g u ≡ true
  reads_goal g s u k stands h all = ap (λ o. option_map_or (λ goal. satisfies goal u) o false) (observed_goal g) ∙ cases (slice_get t.goals g.0) refl h
    where
      cases : (o : Option Goal) → slice_get t.goals g.0 ≡ o → option_map_or (λ goal. satisfies goal s) o false ≡ true
          → option_map_or (λ goal. satisfies goal u) (option_map (goal_with t (length os)) o) false ≡ true
      cases None at h = absurd (false≢true h)
      cases (Some goal) at h =
          let parts = and_parts (not goal.blocked) (has_all s goal.atoms) h in
          and_from (not goal.blocked) (has_all u (with_more goal.atoms (atom_before t (length os)))) parts.0
          (from_before t s u k stands goal.atoms (length os) (same_below t.atoms s u goal.atoms (goal_below g goal at) stands.plain ∙ parts.1) all)

  module _ (g : GoalId) where
    -- a sequence of the observed task reads as one that embeds the observations still to be made
    sound_walk : (p : List ActionId) (s u : State) (k : ℕ) → Stands t s u k → k ≤ length os → Reaches (observed_task t os) g [] u p
        → Reaches t g [] s (map (read_as t os) p) × Embeds (drop k os) (map (read_as t os) p)
    unfolding after
    sound_walk [] s u k stands few h = let ends = goal_reads g s u k stands h in (ends.0, subst (λ xs. Embeds xs []) (sym (drop_all k os ends.1)) tt)
    sound_walk (a ∷ p) s u k stands few h = first (step_without (observed_task t os) [] u a) refl h (λ v x. sound_walk p x.state v x.count x.stands x.few)
      where
        first : (o : Option State) → step_without (observed_task t os) [] u a ≡ o
            → IsSomeAnd (option_and_then (λ v. after (observed_task t os) [] v p) o) (λ v. IsTrue (goal_holds (observed_task t os) g v))
            → ((v : State) (x : ReadsAs s v k a) → Reaches (observed_task t os) g [] v p → Reaches t g [] x.state (map (read_as t os) p) × Embeds (drop x.count os) (map (read_as t os) p))
            → Reaches t g [] s (map (read_as t os) (a ∷ p)) × Embeds (drop k os) (map (read_as t os) (a ∷ p))
        first None at h rest = absurd h
        first (Some v) at h rest =
            let x = step_reads s u v k a stands few at in
            let later = rest v x h in
            let read = map (read_as t os) p in (
              reaches_more t g s x.state (read_as t os a) read x.leads later.0,
              elim x.made as (λ _. Embeds (drop k os) (read_as t os a ∷ read)) [
                | inl same ↦ embeds_later (drop k os) (read_as t os a) read (subst (λ n. Embeds (drop n os) read) same later.1)
                | inr next ↦ subst (λ xs. Embeds xs (read_as t os a ∷ read)) (sym (drop_more os k a next.1)) (inl (sym next.2, subst (λ n. Embeds (drop n os) read) next.0 later.1))
              ],
            )

    -- a sequence that embeds the observations still to be made is so read from one of the observed task
    complete_walk : (p : List ActionId) (s u : State) (k : ℕ) → Stands t s u k → k ≤ length os → Reaches t g [] s p → Embeds (drop k os) p
        → (q : List ActionId) × Reaches (observed_task t os) g [] u q × (map (read_as t os) q ≡ p)
    unfolding after
    complete_walk [] s u k stands few h embeds = ([], reads_goal g s u k stands h (embeds_none os k embeds), refl)
    complete_walk (a ∷ p) s u k stands few h embeds = first (step_without t [] s a) refl h (λ v w l. complete_walk p v w l)
      where
        first : (o : Option State) → step_without t [] s a ≡ o → IsSomeAnd (option_and_then (λ v. after t [] v p) o) (λ v. IsTrue (goal_holds t g v))
            → ((v w : State) (l : ℕ) → Stands t v w l → l ≤ length os → Reaches t g [] v p → Embeds (drop l os) p → (q : List ActionId) × Reaches (observed_task t os) g [] w q × (map (read_as t os) q ≡ p))
            → (q : List ActionId) × Reaches (observed_task t os) g [] u q × (map (read_as t os) q ≡ a ∷ p)
        first None at h rest = absurd h
        first (Some v) at h rest =
            let more : (l : ℕ) → Performs v u l a → l ≤ length os → Embeds (drop l os) p → (q : List ActionId) × Reaches (observed_task t os) g [] u q × (map (read_as t os) q ≡ a ∷ p) =
            λ l x few embeds.
            let later = rest v x.state l x.stands few h embeds in
            (x.by ∷ later.0, reaches_more (observed_task t os) g u x.state x.by later.0 x.leads later.1, ap₂ ◌∷◌ x.reads later.2) in
            elim (embeds_first os k a p embeds) [
              | inl next ↦ more (k + 1) (copy_performs s u v k a stands next.0 next.1 at) (omega (arith, next.0)) next.2
              | inr passed ↦ more k (own_performs s u v k a stands at) few passed
            ]

  -- a plan of the observed task reads as a plan that embeds the observations
  pub plan_reads : (g : GoalId) (p : List ActionId) → IsPlan (observed_task t os) g [] p → IsPlan t g [] (map (read_as t os) p) × Embeds os (map (read_as t os) p)
  plan_reads g p plan = sound_walk g p (start_of t) (start_of (observed_task t os)) 0 (start_stands t os task) (omega arith) plan

  -- a plan that embeds the observations is so read
  pub observed_plan : (g : GoalId) (p : List ActionId) → IsPlan t g [] p → Embeds os p → (q : List ActionId) × IsPlan (observed_task t os) g [] q × (map (read_as t os) q ≡ p)
  observed_plan g p plan embeds = complete_walk g p (start_of t) (start_of (observed_task t os)) 0 (start_stands t os task) (omega arith) plan embeds

  -- a goal with a cost is recognised exactly where it costs as much in the observed task
  pub cost_recognised : (g : GoalId) (c : ℕ) → IsCost t g [] (Some c) → IsRecognised t g os ↔ IsCost (observed_task t os) g [] (Some c)
  cost_recognised g c cost = (
    λ r.
        let q = observed_plan g r.plan r.optimal.0 r.embeds in
        let long : length q.0 ≡ c = omega (arith, length-map q.0 (read_as t os), ap length q.2, cost.0.1, r.optimal.1.1 cost.0.0 cost.0.2, cost.1 r.plan r.optimal.0) in
        ((q.0, long, q.1), λ p plan. omega (arith, length-map p (read_as t os), cost.1 (map (read_as t os) p) (plan_reads g p plan).0)),
    λ h.
        let x = plan_reads g h.0.0 h.0.2 in
        let long : length (map (read_as t os) h.0.0) ≡ c = length-map h.0.0 (read_as t os) ∙ h.0.1 in record {
          plan = map (read_as t os) h.0.0;
          optimal = (x.0, subst (λ n. IsCost t g [] (Some n)) (sym long) cost);
          embeds = x.1;
        },
  )
