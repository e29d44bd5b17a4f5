-- The actions that are kept by the atoms that they need, and those that are found through them.
use Rattle.std.proofs.Common.{◌≡◌, ◌≢◌, ◌↔◌, ℕ, ◌+◌, ◌<◌, ◌≤◌, Bool, true, false, cond, not, eqb, List, [], ◌∷◌, ◌++◌, length, map, get_or, refl, sym, ◌∙◌, ap, subst, inl, inr, arith, Option, Some, None}
use Rattle.std.specs.Prelude.{slice_get, filter, All, Contains}
use Rattle.std.specs.Option.{option_map_or, option_and_then}
use Rattle.std.specs.List.{enumerate_from, AllByRecursion, dedup}
use Rattle.std.specs.List.Sorted.{IsSorted, IsPermutation}
use Rattle.std.proofs.lemmas.Bool.{false≢true, cases_Bool, cases_eq, and_parts, and_from, not-true, not_from_false, false_from_ne_true, true_from_ne_false, eqb-true, eq-eqb}
use Rattle.std.proofs.lemmas.List.Elements.{All-append, All-push, All-contains, All-get_or, filter_passes, Contains-get_or, Contains-push, Contains-append_left, Contains-append_right}
use Rattle.std.proofs.lemmas.List.Folds.{Any-from_list_any, list_any_at, list_all_at}
use Rattle.std.proofs.lemmas.Option.{slice_get_within, get_or_from_slice_get}
use Rattle.grd_base.specs.declared.ids.AtomId.{AtomId}
use Rattle.grd_base.specs.declared.ids.ActionId.{ActionId}
use Rattle.grd_base.specs.Rising.{has_id, IsRising, IsRisingBy}
use Rattle.grd_base.proofs.RisingLemmas.{same_id, rank, rising_dedup, same_ids}
use Rattle.strips_model.specs.Values.{GroundAction, PlainTask, IsTask, IsActionBelow}
use Rattle.strips_model.specs.Plans.{State, has_all, is_step, step, can_apply, effect}
use Rattle.strips_model.specs.Moves.{allowed_of, is_allowed}
use Rattle.strips_model.specs.Index.{listed}
use Rattle.strips_model.proofs.FilterLemmas.{filtered}
use Rattle.strips_model.proofs.StepLemmas.{kept_step}
use Rattle.strips_model.proofs.MoveLemmas.{all_numbers, allowed_good, step_allowed}
use Rattle.strips_model.proofs.RisingLists.{has_number, rising_same}
use Rattle.succ_table.specs.Applicable.{applicable_of, is_open}
use Rattle.succ_table.specs.Filed.{AreFiled, IsFound}

-- what is found in lists is found in longer ones
found_longer : (free freed : List ActionId) (lists longer : List (List ActionId)) (pre : List AtomId) (a : ActionId) → (Contains free a → Contains freed a)
    → ((n : ℕ) → Contains (listed lists n) a → Contains (listed longer n) a) → IsFound free lists pre a → IsFound freed longer pre a
found_longer free freed lists longer pre a more further (inl there) = inl (more there)
found_longer free freed lists longer pre a more further (inr (k, p, within, at, there)) = inr (k, p, within, at, further p.0 there)

-- one more action is found, and those before in longer lists
found_more : (t : PlainTask) (i : ℕ) (free freed : List ActionId) (lists longer : List (List ActionId)) (new : GroundAction) → AreFiled t i free lists → slice_get t.actions i ≡ Some new
    → ((a : ActionId) → Contains free a → Contains freed a) → ((a : ActionId) (n : ℕ) → Contains (listed lists n) a → Contains (listed longer n) a)
    → (new.blocked ≡ false → IsFound freed longer new.pre (record { 0 = i }))
    → (a : ActionId) (act : GroundAction) → slice_get t.actions a.0 ≡ Some act → a.0 < i + 1 → act.blocked ≡ false → IsFound freed longer act.pre a
found_more t i free freed lists longer new filed is more further here a act at low unblocked = elim (cases_eq a.0 i) [
  | inl same ↦
      let one : Some new ≡ Some act = sym is ∙ ap (slice_get t.actions) (sym same) ∙ at in
      let act_is : new ≡ act = cc in
      let P : GroundAction → Type 0 = λ x. x.blocked ≡ false → IsFound freed longer x.pre (record { 0 = i }) in
      subst (IsFound freed longer act.pre) (ap (λ n. record { 0 = n }) (sym same)) (subst P act_is here unblocked)
  | inr other ↦ found_longer free freed lists longer act.pre a (more a) (further a) (filed.found a act at (omega arith) unblocked)
]

-- a blocked action is left out
pub filed_blocked : (t : PlainTask) (i : ℕ) (free : List ActionId) (lists : List (List ActionId)) (new : GroundAction) → AreFiled t i free lists → slice_get t.actions i ≡ Some new → new.blocked ≡ true
    → AreFiled t (i + 1) free lists
filed_blocked t i free lists new filed is blocked = record {
  atoms = filed.atoms;
  apart = filed.apart;
  listed_in = filed.listed_in;
  found = found_more t i free free lists lists new filed is (λ a there. there) (λ a n there. there) (λ unblocked. absurd (false≢true (sym unblocked ∙ blocked)));
}

-- an action stands apart
pub filed_apart : (t : PlainTask) (i : ℕ) (free : List ActionId) (lists : List (List ActionId)) (new : GroundAction) → AreFiled t i free lists → slice_get t.actions i ≡ Some new
    → AreFiled t (i + 1) (free ++ (record { 0 = i }) ∷ []) lists
filed_apart t i free lists new filed is = record {
  atoms = filed.atoms;
  apart = All-push (λ (a : ActionId). a.0 < length t.actions) free (record { 0 = i }) filed.apart (slice_get_within t.actions i new is);
  listed_in = filed.listed_in;
  found = found_more t i free (free ++ (record { 0 = i }) ∷ []) lists lists new filed is (λ a there. Contains-append_left free ((record { 0 = i }) ∷ []) a there) (λ a n there. there)
      (λ unblocked. inl (Contains-push free (record { 0 = i })));
}

-- an action stands with an atom that it needs
pub filed_listed : (t : PlainTask) (i : ℕ) (free : List ActionId) (lists longer : List (List ActionId)) (new : GroundAction) (p : AtomId) → AreFiled t i free lists → slice_get t.actions i ≡ Some new
    → length longer ≡ length lists → listed longer p.0 ≡ listed lists p.0 ++ (record { 0 = i }) ∷ [] → ((n : ℕ) → n ≢ p.0 → listed longer n ≡ listed lists n) → Contains new.pre p
    → AreFiled t (i + 1) free longer
filed_listed t i free lists longer new p filed is long last others needs = record {
  atoms = long ∙ filed.atoms;
  apart = filed.apart;
  listed_in = λ n. elim (cases_eq n p.0) as (λ _. All (λ (a : ActionId). a.0 < length t.actions) (listed longer n)) [
    | inl same ↦
        subst (All (λ (a : ActionId). a.0 < length t.actions)) (sym (ap (listed longer) same ∙ last))
        (All-push (λ (a : ActionId). a.0 < length t.actions) (listed lists p.0) (record { 0 = i }) (filed.listed_in p.0) (slice_get_within t.actions i new is))
    | inr other ↦ subst (All (λ (a : ActionId). a.0 < length t.actions)) (sym (others n other)) (filed.listed_in n)
  ];
  found = found_more t i free free lists longer new filed is (λ a there. there) further
      (λ unblocked. inr (needs.0, p, needs.1, needs.2, subst (λ (row : List ActionId). Contains row (record { 0 = i })) (sym last) (Contains-push (listed lists p.0) (record { 0 = i }))));
}
  where
    further : (a : ActionId) (n : ℕ) → Contains (listed lists n) a → Contains (listed longer n) a
    further a n there = elim (cases_eq n p.0) as (λ _. Contains (listed longer n) a) [
      | inl same ↦
          subst (λ (row : List ActionId). Contains row a) (sym (ap (listed longer) same ∙ last))
          (Contains-append_left (listed lists p.0) ((record { 0 = i }) ∷ []) a (subst (λ m. Contains (listed lists m) a) same there))
      | inr other ↦ subst (λ (row : List ActionId). Contains row a) (sym (others n other)) there
    ]

-- the actions that pass the test among those that stand apart, and in the lists of the true atoms below the bound
pub record AreGathered (test : ActionId → Bool) (s : State) (free : List ActionId) (lists : List (List ActionId)) (bound : ℕ) (found : List ActionId) : Type 0 where
  pub good : All (λ a. test a ≡ true) found
  pub apart : (a : ActionId) → Contains free a → test a ≡ true → Contains found a
  pub listed_in : (n : ℕ) (a : ActionId) → n < bound → s n ≡ true → Contains (listed lists n) a → test a ≡ true → Contains found a

module _ (test : ActionId → Bool) (s : State) (free : List ActionId) (lists : List (List ActionId)) where
  -- those that stand apart come first
  pub gathered_first : (found : List ActionId) → found ≡ filter test free → AreGathered test s free lists 0 found
  gathered_first found is = subst (AreGathered test s free lists 0) (sym is) (record {
    good = filter_passes test free;
    apart = λ a there passes. (filtered test free a).1 (there, passes);
    listed_in = λ n a low now there passes. absurd (omega arith);
  })

  -- those of a true atom are added
  pub gathered_more : (n : ℕ) (found more : List ActionId) → AreGathered test s free lists n found → more ≡ found ++ filter test (listed lists n) → AreGathered test s free lists (n + 1) more
  gathered_more n found more before is = subst (AreGathered test s free lists (n + 1)) (sym is) (record {
    good = All-append (λ a. test a ≡ true) found (filter test (listed lists n)) before.good (filter_passes test (listed lists n));
    apart = λ a there passes. Contains-append_left found (filter test (listed lists n)) a (before.apart a there passes);
    listed_in = λ m a low now there passes. elim (cases_eq m n) [
      | inl same ↦ Contains-append_right found (filter test (listed lists n)) a ((filtered test (listed lists n) a).1 (subst (λ k. Contains (listed lists k) a) same there, passes))
      | inr other ↦ Contains-append_left found (filter test (listed lists n)) a (before.listed_in m a (omega arith) now there passes)
    ];
  })

  -- and those of a false atom are passed over
  pub gathered_past : (n : ℕ) (found : List ActionId) → AreGathered test s free lists n found → s n ≡ false → AreGathered test s free lists (n + 1) found
  gathered_past n found before out = record {
    good = before.good;
    apart = before.apart;
    listed_in = λ m a low now there passes. elim (cases_eq m n) [
      | inl same ↦ absurd (false≢true (sym out ∙ ap s (sym same) ∙ now))
      | inr other ↦ before.listed_in m a (omega arith) now there passes
    ];
  }

-- an action of the task that applies
record AppliesBy (t : PlainTask) (s : State) (a : ActionId) : Type 0 where
  action : GroundAction
  at : slice_get t.actions a.0 ≡ Some action
  can : can_apply action s ≡ true

applies_by : (t : PlainTask) (s : State) (a : ActionId) → is_step t s a ≡ true → AppliesBy t s a
unfolding is_step
applies_by t s a h = by (slice_get t.actions a.0) refl h
  where
    by : (o : Option GroundAction) → slice_get t.actions a.0 ≡ o → option_map_or (λ act. can_apply act s) o false ≡ true → AppliesBy t s a
    by None at h = absurd (false≢true h)
    by (Some act) at h = record { action = act; at = at; can = h }

-- what applies and is not removed is an applicable action
open_applicable : (t : PlainTask) (removed : List ActionId) (s : State) (a : ActionId) → is_open t removed s a ≡ true → Contains (applicable_of t removed s) a
unfolding step
open_applicable t removed s a h =
    let parts = and_parts (is_step t s a) (not (has_id removed a)) h in
    let by = applies_by t s a parts.0 in
    let kept : has_id removed a ≡ false = not-true (has_id removed a) parts.1 in
    let to : step t s a ≡ Some (effect by.action s) =
    ap (option_and_then (λ x. cond (can_apply x s) (Some (effect x s)) None)) by.at ∙ ap (λ b. cond b (Some (effect by.action s)) None) by.can in
    (filtered (is_step t s) (allowed_of t removed) a).1 (step_allowed t removed s a (effect by.action s) (kept_step t removed s a kept ∙ to), parts.0)

-- and the other way round
applicable_open : (t : PlainTask) (removed : List ActionId) (s : State) (a : ActionId) → Contains (applicable_of t removed s) a → is_open t removed s a ≡ true
applicable_open t removed s a there =
    let parts = (filtered (is_step t s) (allowed_of t removed) a).0 there in
    let good = All-contains (λ (b : ActionId). (b.0 < length t.actions) × (has_id removed b ≡ false)) (allowed_of t removed) a (allowed_good t removed) parts.0 in
    and_from (is_step t s a) (not (has_id removed a)) parts.1 (not_from_false (has_id removed a) good.1)

-- what an action of the task needs is an atom of the task
needs_below : (t : PlainTask) (a : ActionId) (act : GroundAction) (k : ℕ) (p : AtomId) → IsTask t → slice_get t.actions a.0 ≡ Some act → k < length act.pre → get_or act.pre k p ≡ p → p.0 < t.atoms
needs_below t a act k p is at within same =
    let below : IsActionBelow t.atoms act =
    subst (IsActionBelow t.atoms) (get_or_from_slice_get t.actions a.0 act act at) (All-get_or (IsActionBelow t.atoms) t.actions a.0 act (slice_get_within t.actions a.0 act at) is.actions) in
    subst (λ (q : AtomId). q.0 < t.atoms) same (All-get_or (λ (q : AtomId). q.0 < t.atoms) act.pre k p within below.pre.below)

-- an atom that an applicable action needs is true
needs_true : (s : State) (pre : List AtomId) (k : ℕ) (p : AtomId) → k < length pre → get_or pre k p ≡ p → has_all s pre ≡ true → s p.0 ≡ true
needs_true s pre k p within same all =
    true_from_ne_false (s p.0) (λ out. false≢true (sym (list_all_at (λ (q : AtomId). s q.0) pre k p within (ap (λ (q : AtomId). s q.0) same ∙ out)) ∙ all))

-- through all atoms, the applicable actions are found, and no others
pub gathered_all : (t : PlainTask) (removed : List ActionId) (s : State) (free : List ActionId) (lists : List (List ActionId)) (bound : ℕ) (found : List ActionId) → IsTask t
    → AreFiled t (length t.actions) free lists → t.atoms ≤ bound → AreGathered (is_open t removed s) s free lists bound found → (a : ActionId) → Contains found a ↔ Contains (applicable_of t removed s) a
gathered_all t removed s free lists bound found is filed past gathered a = (
  λ there. open_applicable t removed s a (All-contains (λ (b : ActionId). is_open t removed s b ≡ true) found a gathered.good there),
  λ there.
      let passes = applicable_open t removed s a there in
      let by = applies_by t s a (and_parts (is_step t s a) (not (has_id removed a)) passes).0 in
      let can = and_parts (not by.action.blocked) _ by.can in
      elim (filed.found a by.action by.at (slice_get_within t.actions a.0 by.action by.at) (not-true _ can.0)) [
        | inl alone ↦ gathered.apart a alone passes
        | inr (k, p, within, at, among) ↦
            let below : p.0 < t.atoms = needs_below t a by.action k p is by.at within at in
            gathered.listed_in p.0 a (omega arith) (needs_true s by.action.pre k p within at can.1) among passes
      ],
)

module _ {X : Type 0} where
  above_filter : (P : X → Type 0) (p : X → Bool) (xs : List X) → AllByRecursion P xs → AllByRecursion P (filter p xs)
  above_filter P p [] above = tt
  above_filter P p (x ∷ xs) above =
      let rest : AllByRecursion P (filter p xs) = above_filter P p xs above.1 in
      elim (p x) as (λ b. AllByRecursion P (cond b (x ∷ filter p xs) (filter p xs))) [ true ↦ (above.0, rest) | false ↦ rest ]

  -- what is left of a rising list rises
  rising_filter : (number : X → ℕ) (p : X → Bool) (xs : List X) → IsRisingBy number xs → IsRisingBy number (filter p xs)
  rising_filter number p [] rise = tt
  rising_filter number p (x ∷ xs) rise =
      let rest : IsRisingBy number (filter p xs) = rising_filter number p xs rise.1 in
      elim (p x) as (λ b. IsRisingBy number (cond b (x ∷ filter p xs) (filter p xs))) [
        | true ↦ (above_filter (λ y. number x < number y) p xs rise.0, rest)
        | false ↦ rest
      ]

  enumerate_above : (low k : ℕ) (xs : List X) → low < k → AllByRecursion (λ (y : ℕ × X). low < y.0) (enumerate_from k xs)
  enumerate_above low k [] less = tt
  enumerate_above low k (x ∷ xs) less = (less, enumerate_above low (k + 1) xs (omega arith))

  enumerate_rising : (k : ℕ) (xs : List X) → IsRisingBy (λ (y : ℕ × X). y.0) (enumerate_from k xs)
  enumerate_rising k [] = tt
  enumerate_rising k (x ∷ xs) = (enumerate_above k (k + 1) xs (omega arith), enumerate_rising (k + 1) xs)

  above_ids : (low : ℕ) (xs : List (ℕ × X)) → AllByRecursion (λ (y : ℕ × X). low < y.0) xs → AllByRecursion (λ (a : ActionId). low < a.0) (map (λ (y : ℕ × X). record { 0 = y.0 }) xs)
  above_ids low [] above = tt
  above_ids low (x ∷ xs) above = (above.0, above_ids low xs above.1)

  rising_ids : (xs : List (ℕ × X)) → IsRisingBy (λ (y : ℕ × X). y.0) xs → IsRising (map (λ (y : ℕ × X). record { 0 = y.0 }) xs)
  rising_ids [] rise = tt
  rising_ids (x ∷ xs) rise = (above_ids x.0 xs rise.0, rising_ids xs rise.1)

-- the applicable actions rise
applicable_rising : (t : PlainTask) (removed : List ActionId) (s : State) → IsRising (applicable_of t removed s)
applicable_rising t removed s =
    rising_filter (λ (a : ActionId). a.0) (is_step t s) (allowed_of t removed)
    (subst IsRising (sym (all_numbers t removed)) (rising_ids (filter (is_allowed removed) (enumerate_from 0 t.actions))
    (rising_filter (λ (y : ℕ × GroundAction). y.0) (is_allowed removed) (enumerate_from 0 t.actions) (enumerate_rising 0 t.actions))))

-- a list has a number exactly where it contains the action
member_from : (xs : List ActionId) (n : ℕ) → has_number (λ (a : ActionId). a.0) xs n ≡ true → Contains xs (record { 0 = n })
member_from xs n h = by (Any-from_list_any (λ (a : ActionId). eqb a.0 n) xs h)
  where
    by : ((k : ℕ) × (x : ActionId) × (k < length xs) × (get_or xs k x ≡ x) × (eqb x.0 n ≡ true)) → Contains xs (record { 0 = n })
    by (k, x, within, at, is) = subst (Contains xs) (at ∙ ap (λ m. record { 0 = m }) (eqb-true x.0 n is)) (Contains-get_or xs k x within)

member_test : (xs : List ActionId) (n : ℕ) → Contains xs (record { 0 = n }) → has_number (λ (a : ActionId). a.0) xs n ≡ true
member_test xs n (k, within, at) = list_any_at (λ (a : ActionId). eqb a.0 n) xs k (record { 0 = n }) within (eq-eqb _ n (ap (λ (a : ActionId). a.0) at))

-- rising lists that contain the same actions are the same
same_rising : (xs ys : List ActionId) → IsRising xs → IsRising ys → ((a : ActionId) → Contains xs a ↔ Contains ys a) → xs ≡ ys
same_rising xs ys rise_x rise_y same =
    rising_same (λ (a : ActionId). a.0) (λ x y e. ap (λ n. record { 0 = n }) e) xs ys rise_x rise_y
    (λ n. elim (cases_Bool (has_number (λ (a : ActionId). a.0) xs n)) as (λ _. has_number (λ (a : ActionId). a.0) xs n ≡ has_number (λ (a : ActionId). a.0) ys n) [
      | inl in_x ↦ in_x ∙ sym (member_test ys n ((same (record { 0 = n })).0 (member_from xs n in_x)))
      | inr out ↦ out ∙ sym (false_from_ne_true _ (λ in_y. absurd (false≢true (sym out ∙ member_test xs n ((same (record { 0 = n })).1 (member_from ys n in_y))))))
    ])

-- sorted and without repeats, what is found is the list of the applicable actions
pub applicable_found : (t : PlainTask) (removed : List ActionId) (s : State) (found sorted : List ActionId) → ((a : ActionId) → Contains found a ↔ Contains (applicable_of t removed s) a) → IsPermutation found sorted
    → IsSorted rank sorted → dedup same_id sorted ≡ applicable_of t removed s
applicable_found t removed s found sorted same permuted rise =
    same_rising (dedup same_id sorted) (applicable_of t removed s) (rising_dedup sorted rise) (applicable_rising t removed s)
    (λ a. let kept = same_ids found sorted a permuted in (λ there. (same a).0 (kept.0 there), λ there. kept.1 ((same a).1 there)))
