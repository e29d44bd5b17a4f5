-- Cuts of all that is outside a zone, found through the actions by the atoms that they add, and how they are put
-- behind the lists so far.
use Rattle.std.proofs.Common.{◌≡◌, ◌↔◌, ◌≤◌, ◌<◌, ℕ, ◌+◌, Bool, true, false, not, ◌&&◌, ◌||◌, eqb, List, [], ◌∷◌, ◌++◌, length, take, get_or, slice_set, refl, sym, ◌∙◌, ap, subst, inl, inr}
use Rattle.std.specs.Prelude.{All, IsTrue, Contains, slice_get, filter}
use Rattle.std.specs.Option.{option_map_or, unwrap_or}
use Rattle.std.proofs.lemmas.Bool.{cases_Bool, cases_eq, false≢true, and_parts, and_from, not_from_false, not_from_true, not-true, not-false, or_cases, or_left, or_right, eqb-true, eq-eqb, ne_eqb}
use Rattle.std.proofs.lemmas.List.{length-append, take_all, length-set, get_or-set_same, get_or-set_other}
use Rattle.std.proofs.lemmas.List.Folds.{list_any_more}
use Rattle.std.proofs.lemmas.List.Elements.{All-push, All-contains_itself, All-weaker, Contains-append_left, Contains-append_right, Contains-append_cases}
use Rattle.std.proofs.lemmas.Option.{slice_get_within, unwrap_or-slice_get}
use Rattle.grd_base.specs.declared.ids.AtomId.{AtomId}
use Rattle.grd_base.specs.declared.ids.ActionId.{ActionId}
use Rattle.grd_base.specs.declared.ids.GoalId.{GoalId}
use Rattle.grd_base.specs.declared.limits.Bound.TheVariants.{Steps}
use Rattle.grd_base.specs.Rising.{has_id}
use Rattle.grd_base.specs.Sets.{IsSubset}
use Rattle.strips_model.specs.Values.{GroundAction, PlainTask}
use Rattle.strips_model.specs.Plans.{State, set_of, has_all, goal_holds}
use Rattle.strips_model.specs.Index.{listed}
use Rattle.strips_model.specs.Cuts.{cut}
use Rattle.strips_model.proofs.FilterLemmas.{filtered}
use Rattle.strips_model.proofs.LevelLaws.{set_within}
use Rattle.strips_model.proofs.CutLaws.{cut_by}
use Rattle.level_bounds.specs.Waves.{is_usable}
use Rattle.level_bounds.proofs.FilingLemmas.{usable_parts, usable_from}
use Rattle.cut_bounds.specs.CutMarks.{IsCutMark, ShareNone, goal_atoms}
use Rattle.cut_bounds.specs.CutFloors.{AreAdders, adds}
use Rattle.cut_bounds.specs.Zones.{outside, comes_from_outside, IsEnteringBy, IsZoneFor, is_flagged, are_fresh, AreLists, AreFlags, IsPut}
use Rattle.cut_bounds.proofs.ListedCuts.{has_contained, contained_of, IsLeadingOut, cut_parts}
use Rattle.cut_bounds.proofs.MarkLaws.{mark_push, open_around, holds_all}

-- ---- flags

-- one more action is flagged
pub flag_more : (used cur : List Bool) (list : List ActionId) (i : ℕ) (d : ActionId) → i < length list → (get_or list i d).0 < length cur → AreFlags used (take i list) cur
    → AreFlags used (take (i + 1) list) (slice_set cur (get_or list i d).0 true)
flag_more used cur list i d within low flags = record {
  sized = length-set cur (get_or list i d).0 true ∙ flags.sized;
  each = λ b. each b;
}
  where
    a : ActionId
    a = get_or list i d

    spread : (x y z : Bool) → (x || y) ≡ true → (x || (y || z)) ≡ true
    spread true y z h = refl
    spread false true z h = refl
    spread false false z h = absurd (false≢true h)

    last : (x y : Bool) → true ≡ (x || (y || true))
    last true y = refl
    last false true = refl
    last false false = refl

    none : (x y : Bool) → (x || y) ≡ (x || (y || false))
    none true y = refl
    none false true = refl
    none false false = refl

    each : (b : ActionId) → is_flagged (slice_set cur a.0 true) b ≡ (is_flagged used b || has_id (take (i + 1) list) b)
    each b =
        let more : has_id (take (i + 1) list) b ≡ (has_id (take i list) b || eqb a.0 b.0) = list_any_more (λ (x : ActionId). eqb x.0 b.0) list i d within in
        let rest : (is_flagged used b || (has_id (take i list) b || eqb a.0 b.0)) ≡ (is_flagged used b || has_id (take (i + 1) list) b) = ap (λ x. is_flagged used b || x) (sym more) in
        elim (cases_eq b.0 a.0) [
          | inl same ↦
              unwrap_or-slice_get (slice_set cur a.0 true) b.0 false ∙ ap (λ k. get_or (slice_set cur a.0 true) k false) same ∙ get_or-set_same cur a.0 true false low
              ∙ last (is_flagged used b) (has_id (take i list) b) ∙ ap (λ x. is_flagged used b || (has_id (take i list) b || x)) (sym (eq-eqb a.0 b.0 (sym same))) ∙ rest
          | inr other ↦
              unwrap_or-slice_get (slice_set cur a.0 true) b.0 false ∙ get_or-set_other cur a.0 b.0 true false other ∙ sym (unwrap_or-slice_get cur b.0 false)
              ∙ flags.each b ∙ none (is_flagged used b) (has_id (take i list) b) ∙ ap (λ x. is_flagged used b || (has_id (take i list) b || x)) (sym (ne_eqb a.0 b.0 (λ h. other (sym h)))) ∙ rest
        ]

-- an action of a list of which none is flagged
pub fresh_at : (used : List Bool) (list : List ActionId) → are_fresh used list ≡ true → (a : ActionId) → has_id list a ≡ true → is_flagged used a ≡ false
fresh_at used [] fresh a has = absurd (false≢true has)
fresh_at used (x ∷ list) fresh a has =
    let parts = and_parts (not (is_flagged used x)) (are_fresh used list) fresh in
    elim (or_cases (eqb x.0 a.0) (has_id list a) has) as (λ _. is_flagged used a ≡ false) [
      | inl here ↦ ap (λ k. unwrap_or (slice_get used k) false) (sym (eqb-true x.0 a.0 here)) ∙ not-true _ parts.0
      | inr later ↦ fresh_at used list parts.1 a later
    ]

-- a list with a flagged action
pub stale_at : (used : List Bool) (list : List ActionId) → are_fresh used list ≡ false → (a : ActionId) × (has_id list a ≡ true) × (is_flagged used a ≡ true)
stale_at used [] stale = absurd (false≢true (sym stale))
stale_at used (x ∷ list) stale = by (is_flagged used x) refl stale (stale_at used list)
  where
    by : (b : Bool) → is_flagged used x ≡ b → (not b && are_fresh used list) ≡ false → (are_fresh used list ≡ false → (a : ActionId) × (has_id list a ≡ true) × (is_flagged used a ≡ true))
        → (a : ActionId) × (has_id (x ∷ list) a ≡ true) × (is_flagged used a ≡ true)
    by true is h later = (x, or_left (eqb x.0 x.0) (has_id list x) (eq-eqb x.0 x.0 refl), is)
    by false is h later = let rest = later h in (rest.0, or_right (eqb x.0 rest.0.0) (has_id list rest.0) rest.1, rest.2)

-- ---- the cut of all that is outside a zone

module _ (t : PlainTask) (removed : List ActionId) (adders : List (List ActionId)) (added : AreAdders t removed (length t.actions) adders) where
  -- the actions of an index are the task's
  pub listed_below : (n : ℕ) → All (λ a. a.0 < length t.actions) (listed adders n)
  listed_below n = All-weaker (Contains (listed adders n)) (λ a. a.0 < length t.actions) (λ a has. ((added.found n a).0 has).0) (listed adders n) (All-contains_itself (listed adders n))

  module _ (zone : State) (list : List ActionId) (same : (a : ActionId) → Contains list a ↔ IsEnteringBy t adders zone zone a) where
    in_to : (a : ActionId) → cut t removed (outside zone) a ≡ true → Contains list a
    in_to a is =
        let x : IsLeadingOut t removed (outside zone) a = cut_parts t removed (outside zone) a is in
        let usable : is_usable t removed a ≡ true = usable_from t removed a x.action x.at x.kept x.free in
        let adding : adds t a x.atom ≡ true = ap (λ o. option_map_or (λ (act : GroundAction). set_of act.add x.atom) o false) x.at ∙ x.adds in
        let here : Contains (listed adders x.atom) a = (added.found x.atom a).1 (slice_get_within t.actions a.0 x.action x.at, usable, adding) in
        let comes : comes_from_outside t zone a ≡ true =
        ap (λ o. option_map_or (λ (act : GroundAction). has_all (outside zone) act.pre) o false) x.at ∙ (and_parts (not x.action.blocked) (has_all (outside zone) x.action.pre) x.applies).1 in
        (same a).1 (x.atom, not-false _ x.outside, here, comes)

    of_from : (a : ActionId) → Contains list a → cut t removed (outside zone) a ≡ true
    of_from a has =
        let (n, in_zone, here, comes) = (same a).0 has in
        let (low, usable, adding) = (added.found n a).0 here in
        let (act, at, kept, free) = usable_parts t removed a usable in
        let adds_it : set_of act.add n ≡ true = ap (λ o. option_map_or (λ (b : GroundAction). set_of b.add n) o false) (sym at) ∙ adding in
        let needs : has_all (outside zone) act.pre ≡ true = ap (λ o. option_map_or (λ (b : GroundAction). has_all (outside zone) b.pre) o false) (sym at) ∙ comes in
        cut_by t removed (outside zone) a act (record { at = at; kept = kept; applies = and_from (not act.blocked) (has_all (outside zone) act.pre) (not_from_false _ free) needs })
        (elim (cases_Bool (has_all (outside zone) act.add)) [
          | inl all ↦ absurd (false≢true (sym (not_from_true _ in_zone) ∙ set_within (outside zone) act.add all n adds_it))
          | inr some ↦ some
        ])

    pub cut_entering : (a : ActionId) → has_id list a ≡ cut t removed (outside zone) a
    cut_entering a = elim (cases_Bool (cut t removed (outside zone) a)) [
      | inl is ↦ has_contained list a (in_to a is) ∙ sym is
      | inr out ↦ elim (cases_Bool (has_id list a)) [
        | inl has ↦ absurd (false≢true (sym out ∙ of_from a (contained_of list a has)))
        | inr none ↦ none ∙ sym out
      ]
    ]

    pub entering_below : All (λ a. a.0 < length t.actions) list
    entering_below = All-weaker (Contains list) (λ a. a.0 < length t.actions) (λ a has. let (n, in_zone, here, comes) = (same a).0 has in ((added.found n a).0 here).0) list (All-contains_itself list)

-- the actions of one more atom of the zone
pub entering_more : (t : PlainTask) (adders : List (List ActionId)) (zone : State) (atoms : List AtomId) (i : ℕ) (d : AtomId) → i < length atoms → (found last new : List ActionId)
    → last ≡ listed adders (get_or atoms i d).0 → new ≡ found ++ filter (comes_from_outside t zone) last
    → ((a : ActionId) → Contains found a ↔ IsEnteringBy t adders zone (set_of (take i atoms)) a) → (a : ActionId) → Contains new a ↔ IsEnteringBy t adders zone (set_of (take (i + 1) atoms)) a
entering_more t adders zone atoms i d within found last new same is so_far a =
    let k : ℕ = (get_or atoms i d).0 in
    let taken : (n : ℕ) → set_of (take (i + 1) atoms) n ≡ (set_of (take i atoms) n || eqb k n) = λ n. list_any_more (λ (x : AtomId). eqb x.0 n) atoms i d within in (
      λ there. elim (Contains-append_cases found (filter (comes_from_outside t zone) last) a (subst (λ (l : List ActionId). Contains l a) is there)) [
        | inl old ↦ let (n, in_zone, here, comes) = (so_far a).0 old in (n, taken n ∙ or_left (set_of (take i atoms) n) (eqb k n) in_zone, here, comes)
        | inr late ↦
            let both = (filtered (comes_from_outside t zone) last a).0 late in
            (k, taken k ∙ or_right (set_of (take i atoms) k) (eqb k k) (eq-eqb k k refl), subst (λ (l : List ActionId). Contains l a) same both.0, both.1)
      ],
      λ h. subst (λ (l : List ActionId). Contains l a) (sym is) (elim (or_cases (set_of (take i atoms) h.0) (eqb k h.0) (sym (taken h.0) ∙ h.1)) [
        | inl old ↦ Contains-append_left found (filter (comes_from_outside t zone) last) a ((so_far a).1 (h.0, old, h.2, h.3))
        | inr late ↦
            let here : Contains last a = subst (λ (l : List ActionId). Contains l a) (sym same) (subst (λ n. Contains (listed adders n) a) (sym (eqb-true k h.0 late)) h.2) in
            Contains-append_right found (filter (comes_from_outside t zone) last) a ((filtered (comes_from_outside t zone) last a).1 (here, h.3))
      ]),
    )

-- and of all of them
pub entering_all : (t : PlainTask) (adders : List (List ActionId)) (zone : State) (atoms : List AtomId) (i : ℕ) → length atoms ≤ i → (found : List ActionId)
    → ((a : ActionId) → Contains found a ↔ IsEnteringBy t adders zone (set_of (take i atoms)) a) → (a : ActionId) → Contains found a ↔ IsEnteringBy t adders zone (set_of atoms) a
entering_all t adders zone atoms i past found same =
    subst (λ (l : List AtomId). (a : ActionId) → Contains found a ↔ IsEnteringBy t adders zone (set_of l) a) (take_all i atoms past) same

-- ---- one list more

module _ (t : PlainTask) (g : GoalId) (removed : List ActionId) (s zone : State) (z : IsZoneFor t g s zone) where
  zone_has : IsSubset s (outside zone)
  zone_has n member = not_from_false _ (elim (cases_Bool (zone n)) [
    | inl is ↦ absurd (z.apart n member is)
    | inr none ↦ none
  ])

  zone_open : goal_holds t g (outside zone) ≡ false
  zone_open = elim (cases_Bool (goal_holds t g (outside zone))) [
    | inl holds ↦ absurd (false≢true (sym (not_from_true _ z.in_zone) ∙ set_within (outside zone) (goal_atoms t g) (holds_all t g (outside zone) holds) z.goal_atom z.of_goal))
    | inr unmet ↦ unmet
  ]

  pub lists_tried : (lists : List (List ActionId)) (used : List Bool) (list : List ActionId) (more : List (List ActionId)) (flags : List Bool) (put : Bool)
      → AreLists t g removed s lists used → ((a : ActionId) → has_id list a ≡ cut t removed (outside zone) a) → IsPut lists used list more flags put
      → AreLists t g removed s more flags
  lists_tried lists used list more flags false are exact (same, kept, why) =
      subst (λ (l : List (List ActionId)). AreLists t g removed s l flags) (sym same) (subst (λ (u : List Bool). AreLists t g removed s lists u) (sym kept) are)
  lists_tried lists used list more flags true are exact (some, fresh, is, flagged) =
      subst (λ (l : List (List ActionId)). AreLists t g removed s l flags) (sym is) (record {
        mark = subst (λ n. IsCutMark t g removed s (lists ++ list ∷ []) (Steps n)) (sym (length-append lists (list ∷ [])))
            (mark_push t g removed s lists (length lists) list are.mark some apart (open_around t g removed s list (outside zone) zone_has (λ a in_cut. exact a ∙ in_cut) zone_open));
        flagged = All-push (λ (l : List ActionId). (a : ActionId) → IsTrue (has_id l a) → is_flagged flags a ≡ true) lists list
            (λ k d within a has. flagged.each a ∙ or_left (is_flagged used a) (has_id list a) (are.flagged k d within a has))
            (λ a has. flagged.each a ∙ or_right (is_flagged used a) (has_id list a) has);
        sized = flagged.sized ∙ are.sized;
      })
    where
      apart : All (λ (other : List ActionId). ShareNone other list) lists
      apart k d within a in_other in_list = false≢true (sym (fresh_at used list fresh a in_list) ∙ are.flagged k d within a in_other)
