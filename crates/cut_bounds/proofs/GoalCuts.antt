-- The lists of the atoms of a goal that the state lacks, one after another.
use Rattle.std.proofs.Common.{◌≡◌, ◌⊎◌, ◌≤◌, ◌<◌, ℕ, zero, suc, ◌+◌, ◌-◌, Bool, true, false, not, ◌||◌, cond, eqb, List, [], ◌∷◌, length, take, get_or, refl, sym, ◌∙◌, ap, subst, inl, inr, arith, Option, Some, None}
use Rattle.std.specs.Prelude.{All, IsTrue, Contains, slice_get, filter}
use Rattle.std.specs.Option.{option_map_or}
use Rattle.std.specs.List.{AllByRecursion}
use Rattle.std.proofs.Math.Path.{fun_ext}
use Rattle.std.proofs.lemmas.Bool.{cases_Bool, cases_eq, false≢true, or_cases, eqb-true, eq-eqb, ne_eqb, not_from_false}
use Rattle.std.proofs.lemmas.List.{length-append, take_all}
use Rattle.std.proofs.lemmas.List.Filters.{length-filter_more}
use Rattle.std.proofs.lemmas.List.Folds.{list_any_at}
use Rattle.std.proofs.lemmas.List.Elements.{All-nil, recursion_from_All}
use Rattle.std.proofs.lemmas.Option.{slice_get_within, get_or_from_slice_get}
use Rattle.grd_base.specs.declared.ids.AtomId.{AtomId}
use Rattle.grd_base.specs.declared.ids.ActionId.{ActionId}
use Rattle.grd_base.specs.declared.ids.GoalId.{GoalId}
use Rattle.grd_base.specs.declared.limits.Bound.TheVariants.{Steps}
use Rattle.grd_base.specs.Rising.{IsRisingBy, has_id}
use Rattle.strips_model.specs.Values.{Goal, PlainTask, IsTask, AreAtoms}
use Rattle.strips_model.specs.Plans.{State, set_of}
use Rattle.strips_model.specs.Cuts.{cut, IsEmptyCut}
use Rattle.strips_model.specs.Levels.{IsLevel}
use Rattle.strips_model.proofs.FilterLemmas.{filtered}
use Rattle.cut_bounds.specs.CutMarks.{IsCutMark, goal_atoms, lacking, AddsOneAtMost, all_but}
use Rattle.cut_bounds.specs.Zones.{outside, is_flagged, are_fresh, AreNoLists, AreLists, IsTried, IsCovering, IsZoneFor}
use Rattle.cut_bounds.proofs.LackingLaws.{without_has, without_open, apart_of, goal_rises, rising_pairs}
use Rattle.cut_bounds.proofs.MarkLaws.{mark_none, mark_never, never_of_set}
use Rattle.cut_bounds.proofs.ZoneCuts.{stale_at}

-- what is outside the zone of one atom
pub outside_one : (a : AtomId) → outside (set_of (a ∷ [])) ≡ all_but a
outside_one a = fun_ext (λ n. ap not (either n))
  where
    either : (n : ℕ) → (eqb a.0 n || false) ≡ eqb n a.0
    either n = elim (cases_eq a.0 n) [
      | inl same ↦ ap (λ b. b || false) (eq-eqb a.0 n same) ∙ sym (eq-eqb n a.0 (sym same))
      | inr other ↦ ap (λ b. b || false) (ne_eqb a.0 n other) ∙ sym (ne_eqb n a.0 (λ same. other (sym same)))
    ]

-- the zone of an atom as its list and as its bits
pub one_zone : (a : AtomId) (n : ℕ) → (eqb n a.0 || false) ≡ set_of (a ∷ []) n
one_zone a n = elim (cases_eq a.0 n) [
  | inl same ↦ ap (λ b. b || false) (eq-eqb n a.0 (sym same) ∙ sym (eq-eqb a.0 n same))
  | inr other ↦ ap (λ b. b || false) (ne_eqb n a.0 (λ same. other (sym same)) ∙ sym (ne_eqb a.0 n other))
]

-- an atom of the goal that the state lacks is a zone
pub zone_of_atom : (t : PlainTask) (g : GoalId) (s : State) (a : AtomId) → IsTrue (set_of (goal_atoms t g) a.0) → s a.0 ≡ false → IsZoneFor t g s (set_of (a ∷ []))
zone_of_atom t g s a of_goal lacks = record {
  apart = λ n member inside. elim (or_cases (eqb a.0 n) false inside) [
    | inl same ↦ false≢true (sym lacks ∙ ap s (eqb-true a.0 n same) ∙ member)
    | inr none ↦ false≢true none
  ];
  goal_atom = a.0;
  of_goal = of_goal;
  in_zone = ap (λ b. b || false) (eq-eqb a.0 a.0 refl);
}

-- a rising list of atoms from low on and below the bound has no more than there are between
rising_from : (low bound : ℕ) (xs : List AtomId) → AllByRecursion (λ (a : AtomId). low ≤ a.0) xs → AllByRecursion (λ (a : AtomId). a.0 < bound) xs → IsRisingBy (λ (a : AtomId). a.0) xs → length xs ≤ bound - low
rising_from low bound [] from below rises = omega arith
rising_from low bound (x ∷ xs) from below rises = omega (arith, rising_from (x.0 + 1) bound xs (above xs rises.0) below.1 rises.1, from.0, below.0)
  where
    above : (ys : List AtomId) → AllByRecursion (λ (y : AtomId). x.0 < y.0) ys → AllByRecursion (λ (a : AtomId). x.0 + 1 ≤ a.0) ys
    above [] h = tt
    above (y ∷ ys) h = (omega (arith, h.0), above ys h.1)

all_from_none : (xs : List AtomId) → AllByRecursion (λ (a : AtomId). 0 ≤ a.0) xs
all_from_none [] = tt
all_from_none (x ∷ xs) = (omega arith, all_from_none xs)

atoms_few : (bound : ℕ) (xs : List AtomId) → AreAtoms bound xs → length xs ≤ bound
atoms_few bound xs are = omega (arith, rising_from 0 bound xs (all_from_none xs) (recursion_from_All (λ (a : AtomId). a.0 < bound) xs are.below) are.rise)

pub goal_are_atoms : (t : PlainTask) (g : GoalId) → IsTask t → AreAtoms t.atoms (goal_atoms t g)
goal_are_atoms t g task = by (slice_get t.goals g.0) refl
  where
    by : (o : Option Goal) → slice_get t.goals g.0 ≡ o → AreAtoms t.atoms (option_map_or (λ goal. goal.atoms) o [])
    by None at = record { rise = tt; below = All-nil (λ (a : AtomId). a.0 < t.atoms) }
    by (Some goal) at =
        let P : Goal → Type 0 = λ goal. AreAtoms t.atoms goal.atoms in
        subst P (get_or_from_slice_get t.goals g.0 goal goal at) (task.goals g.0 goal (slice_get_within t.goals g.0 goal at))

pub goal_few : (t : PlainTask) (g : GoalId) → IsTask t → length (goal_atoms t g) ≤ 4096
goal_few t g task = omega (arith, atoms_few t.atoms (goal_atoms t g) (goal_are_atoms t g task), task.width)

-- an element that is read with another default is the same
get_or_same_default : (xs : List AtomId) (k : ℕ) (d e : AtomId) → k < length xs → get_or xs k d ≡ get_or xs k e
get_or_same_default [] k d e within = absurd (omega (arith, within))
get_or_same_default (y ∷ xs) zero d e within = refl
get_or_same_default (y ∷ xs) (suc k) d e within = get_or_same_default xs k d e (omega (arith, within))

-- and with itself
get_or_same : (xs : List AtomId) (k : ℕ) (d : AtomId) → k < length xs → get_or xs k (get_or xs k d) ≡ get_or xs k d
get_or_same xs k d within = get_or_same_default xs k (get_or xs k d) d within

-- an atom of a list that is that of the goal's atoms
pub of_goal_at : (t : PlainTask) (g : GoalId) (ys : List AtomId) → ys ≡ goal_atoms t g → (i : ℕ) (d : AtomId) → i < length ys → IsTrue (set_of (goal_atoms t g) (get_or ys i d).0)
of_goal_at t g ys same i d within =
    subst (λ (zs : List AtomId). IsTrue (set_of zs (get_or ys i d).0)) same (list_any_at (λ (c : AtomId). eqb c.0 (get_or ys i d).0) ys i d within (eq-eqb (get_or ys i d).0 (get_or ys i d).0 refl))

pub below_at : (t : PlainTask) (g : GoalId) → IsTask t → (ys : List AtomId) → ys ≡ goal_atoms t g → (i : ℕ) (d : AtomId) → i < length ys → (get_or ys i d).0 < t.atoms
below_at t g task ys same i d within =
    subst (λ (zs : List AtomId). i < length zs → (get_or zs i d).0 < t.atoms) (sym same) (λ low. (goal_are_atoms t g task).below i d low) within

module _ (t : PlainTask) (g : GoalId) (removed : List ActionId) (s : State) where
  abbrev pub lacks : AtomId → Bool
  lacks a = not (s a.0)

  -- a flagged action is in the cut of one of the first i atoms of the goal, which the state lacks
  pub record IsFlaggedBy (i : ℕ) (a : ActionId) : Type 0 where
    pub place : ℕ
    pub before : place < i
    pub within : place < length (goal_atoms t g)
    pub atom : AtomId
    pub is : get_or (goal_atoms t g) place atom ≡ atom
    pub out : s atom.0 ≡ false
    pub in_cut : cut t removed (all_but atom) a ≡ true

  -- the first i atoms of the goal were tried
  pub record AreGoalLists (i : ℕ) (lists : List (List ActionId)) (used : List Bool) : Type 0 where
    pub are : AreLists t g removed s lists used
    pub few : length lists ≤ i
    pub fewer : length lists ≤ length (goal_atoms t g)
    pub covers : AddsOneAtMost t removed (lacking t g s) → (n : ℕ) → IsLevel t g removed s (Some n) → length (filter lacks (take i (goal_atoms t g))) ≤ length lists
    pub sound : (a : ActionId) → is_flagged used a ≡ true → IsFlaggedBy i a

  -- no atom was tried
  pub goal_none : (lists : List (List ActionId)) (used : List Bool) → AreNoLists t lists used → AreGoalLists 0 lists used
  goal_none lists used none = record {
    are = record {
      mark = subst (λ (l : List (List ActionId)). IsCutMark t g removed s l (Steps (length l))) (sym none.none) (mark_none t g removed s);
      flagged = subst (λ (l : List (List ActionId)). All (λ list. (a : ActionId) → IsTrue (has_id list a) → is_flagged used a ≡ true) l) (sym none.none) (All-nil _);
      sized = none.sized;
    };
    few = omega (arith, ap length none.none);
    fewer = omega (arith, ap length none.none);
    covers = λ one n level. omega arith;
    sound = λ a is. absurd (false≢true (sym (none.unflagged a) ∙ is));
  }

  later : (i : ℕ) (a : ActionId) → IsFlaggedBy i a → IsFlaggedBy (i + 1) a
  later i a by = record { place = by.place; before = omega (arith, by.before); within = by.within; atom = by.atom; is = by.is; out = by.out; in_cut = by.in_cut }

  module _ (i : ℕ) (d : AtomId) (within : i < length (goal_atoms t g)) (lists : List (List ActionId)) (used : List Bool) (so_far : AreGoalLists i lists used) where
    abbrev pub x : AtomId
    x = get_or (goal_atoms t g) i d

    -- an atom that the state has
    pub goal_held : s x.0 ≡ true → AreGoalLists (i + 1) lists used
    goal_held holds = record {
      are = so_far.are;
      few = omega (arith, so_far.few);
      fewer = so_far.fewer;
      covers = λ one n level. omega (arith, so_far.covers one n level, length-filter_more lacks (goal_atoms t g) i d within, ap {B = ℕ} (λ b. cond (not b) 1 0) holds);
      sound = λ a is. later i a (so_far.sound a is);
    }

    -- an atom of the goal that the state lacks is among those that it lacks
    in_lacking : (b : AtomId) → Contains (goal_atoms t g) b → s b.0 ≡ false → IsTrue (set_of (lacking t g s) b.0)
    in_lacking b has out =
        let there = (filtered lacks (goal_atoms t g) b).1 (has, not_from_false _ out) in
        list_any_at (λ (c : AtomId). eqb c.0 b.0) (lacking t g s) there.0 b there.1 (eq-eqb (get_or (lacking t g s) there.0 b).0 b.0 (ap (λ (c : AtomId). c.0) there.2))

    module _ (task : IsTask t) (out : s x.0 ≡ false) where
      x_in : Contains (goal_atoms t g) x
      x_in = (i, within, get_or_same (goal_atoms t g) i d within)

      x_needed : IsTrue (set_of (goal_atoms t g) x.0)
      x_needed = list_any_at (λ (c : AtomId). eqb c.0 x.0) (goal_atoms t g) i d within (eq-eqb x.0 x.0 refl)

      -- a list that could not be put: its cut is empty, or it shares an action with that of an atom before
      refused : (list : List ActionId) → ((a : ActionId) → has_id list a ≡ cut t removed (all_but x) a) → ((list ≡ []) ⊎ (are_fresh used list ≡ false))
          → AddsOneAtMost t removed (lacking t g s) → (n : ℕ) → IsLevel t g removed s (Some n) → ⊥
      refused list exact (inl none) one n level =
          let empty : IsEmptyCut (cut t removed (all_but x)) = λ a. sym (exact a) ∙ ap (λ (l : List ActionId). has_id l a) none in
          let never = mark_never t g removed s task ([] ∷ []) (never_of_set t g removed s (all_but x) (without_has t g removed s x out) (without_open t g removed s x x_needed) empty) in
          false≢true (sym (never n) ∙ level.0)
      refused list exact (inr stale) one n level =
          let (a, has, flagged) = stale_at used list stale in
          let f : IsFlaggedBy i a = so_far.sound a flagged in
          let pairs = rising_pairs (goal_atoms t g) (goal_rises t g removed s task) in
          let less : f.atom.0 < x.0 = subst (λ (b : AtomId). b.0 < x.0) (get_or_same_default (goal_atoms t g) f.place d f.atom f.within ∙ f.is) (pairs f.place i d f.before within) in
          let has_f = in_lacking f.atom (f.place, f.within, f.is) f.out in
          apart_of t g removed s one f.atom x less has_f (in_lacking x x_in out) a f.in_cut (sym (exact a) ∙ has)

      -- an atom that the state lacks
      pub goal_tried : (more : List (List ActionId)) (flags : List Bool) (put : Bool) → AreLists t g removed s more flags → IsTried t removed (set_of (x ∷ [])) lists used more flags put
          → AreGoalLists (i + 1) more flags
      goal_tried more flags true are (list, exact, (some, fresh, is, flagged)) = record {
        are = are;
        few = omega (arith, so_far.few, ap length is, length-append lists (list ∷ []));
        fewer = omega (arith, so_far.few, within, ap length is, length-append lists (list ∷ []));
        covers = λ one n level.
            omega (arith, so_far.covers one n level, length-filter_more lacks (goal_atoms t g) i d within, ap {B = ℕ} (λ b. cond (not b) 1 0) out, ap length is, length-append lists (list ∷ []));
        sound = λ a h. elim (or_cases (is_flagged used a) (has_id list a) (sym (flagged.each a) ∙ h)) [
          | inl old ↦ later i a (so_far.sound a old)
          | inr new ↦ record {
            place = i;
            before = omega arith;
            within = within;
            atom = x;
            is = get_or_same (goal_atoms t g) i d within;
            out = out;
            in_cut = ap (λ u. cut t removed u a) (sym (outside_one x)) ∙ sym (exact a) ∙ new;
          }
        ];
      }
      goal_tried more flags false are (list, exact, (same, kept, why)) = record {
        are = are;
        few = omega (arith, so_far.few, ap length same);
        fewer = omega (arith, so_far.fewer, ap length same);
        covers = λ one n level. absurd (refused list (λ a. exact a ∙ ap (λ u. cut t removed u a) (outside_one x)) why one n level);
        sound = λ a h. later i a (so_far.sound a (ap (λ (u : List Bool). is_flagged u a) (sym kept) ∙ h));
      }

  -- the same over a list that is that of the goal's atoms
  module _ (i : ℕ) (d : AtomId) (ys : List AtomId) (same : ys ≡ goal_atoms t g) (within : i < length ys) (lists : List (List ActionId)) (used : List Bool) (so_far : AreGoalLists i lists used) where
    pub held_at : s (get_or ys i d).0 ≡ true → AreGoalLists (i + 1) lists used
    held_at holds =
        subst (λ (zs : List AtomId). i < length zs → s (get_or zs i d).0 ≡ true → AreGoalLists (i + 1) lists used) (sym same) (λ low is. goal_held i d low lists used so_far is) within holds

    pub tried_at : IsTask t → s (get_or ys i d).0 ≡ false → (more : List (List ActionId)) (flags : List Bool) (put : Bool) → AreLists t g removed s more flags
        → IsTried t removed (set_of (get_or ys i d ∷ [])) lists used more flags put → AreGoalLists (i + 1) more flags
    tried_at task out more flags put are tried =
        subst (λ (zs : List AtomId). i < length zs → s (get_or zs i d).0 ≡ false → IsTried t removed (set_of (get_or zs i d ∷ [])) lists used more flags put → AreGoalLists (i + 1) more flags) (sym same)
        (λ low is h. goal_tried i d low lists used so_far task is more flags put are h) within out tried

  -- all atoms were tried
  pub goal_all : (i : ℕ) → length (goal_atoms t g) ≤ i → (lists : List (List ActionId)) (used : List Bool) → AreGoalLists i lists used → IsCovering t g removed s (length lists)
  goal_all i past lists used are one n level = subst (λ (l : List AtomId). length (filter lacks l) ≤ length lists) (take_all i (goal_atoms t g) past) (are.covers one n level)

-- no more of the first atoms are lacked than these are
pub lacked_few : (s : State) (i : ℕ) (atoms : List AtomId) → length (filter (λ a. not (s a.0)) (take i atoms)) ≤ i
lacked_few s zero atoms = omega arith
lacked_few s (suc i) [] = omega arith
lacked_few s (suc i) (a ∷ atoms) =
    let rest : length (filter (λ b. not (s b.0)) (take i atoms)) ≤ i = lacked_few s i atoms in
    elim (cases_Bool (not (s a.0))) [
      | inl is ↦ rw is (omega (arith, rest))
      | inr out ↦ rw out (omega (arith, rest))
    ]
