-- One set for each atom of the goal that the state lacks: all other atoms. Where no action adds two of
-- them, their cuts are a mark.
use Rattle.std.proofs.Common.{◌≡◌, ◌<◌, ℕ, Option, Some, None, Bool, true, false, cond, not, eqb, List, [], ◌∷◌, length, map, get_or, refl, sym, ◌∙◌, ap, subst, inl, inr, arith, eq-eqb}
use Rattle.std.specs.Prelude.{All, AllPairs, IsTrue, slice_get, filter}
use Rattle.std.specs.Option.{option_map_or}
use Rattle.std.proofs.lemmas.Bool.{cases_Bool, false≢true, or_left, or_right, not_from_false, eqb-true, not-true}
use Rattle.std.proofs.lemmas.List.Elements.{All-nil, All-cons, All-tail, All-from_recursion}
use Rattle.std.proofs.lemmas.List.Kept.{AllPairs-cons, AllPairs-filter}
use Rattle.std.proofs.lemmas.Option.{slice_get_within, get_or_from_slice_get, same_Some}
use Rattle.grd_base.specs.declared.ids.AtomId.{AtomId}
use Rattle.grd_base.specs.declared.ids.ActionId.{ActionId}
use Rattle.grd_base.specs.declared.ids.GoalId.{GoalId}
use Rattle.grd_base.specs.Rising.{IsRisingBy}
use Rattle.grd_base.specs.Sets.{IsSubset}
use Rattle.strips_model.specs.Values.{GroundAction, Goal, PlainTask, IsTask, AreAtoms}
use Rattle.strips_model.specs.Plans.{State, set_of, goal_holds}
use Rattle.strips_model.specs.Cuts.{cut, AreDisjoint, IsEmptyCut}
use Rattle.grd_base.specs.declared.limits.Bound.TheVariants.{Steps, Never}
use Rattle.cut_bounds.specs.CutMarks.{IsCutMark, goal_atoms, lacking, listed_cut, AddsOneAtMost, all_but}
use Rattle.strips_model.proofs.LevelLaws.{set_within}
use Rattle.cut_bounds.proofs.MarkLaws.{holds_all, mark_of_sets, never_of_set}
use Rattle.cut_bounds.proofs.ListedCuts.{IsLeadingOut, cut_parts, listed_exact}

-- what passes the test
all_filter : {X : Type 0} (p : X → Bool) (P : X → Type 0) (xs : List X) → All P xs → All (λ x. (p x ≡ true) × P x) (filter p xs)
all_filter p P [] all = All-nil (λ x. (p x ≡ true) × P x)
all_filter {X} p P (x ∷ xs) all = by (p x) refl (all_filter p P xs (All-tail P x xs all))
  where
    by : (b : Bool) → p x ≡ b → All (λ (y : X). (p y ≡ true) × P y) (filter p xs) → All (λ (y : X). (p y ≡ true) × P y) (cond b (x ∷ filter p xs) (filter p xs))
    by true is rest = All-cons (λ (y : X). (p y ≡ true) × P y) x (filter p xs) (is, all 0 x (omega arith)) rest
    by false is rest = rest

-- each atom of a list is in its set
pub in_set : (xs : List AtomId) → All (λ a. IsTrue (set_of xs a.0)) xs
in_set [] = All-nil (λ a. IsTrue (set_of [] a.0))
in_set (x ∷ xs) = All-cons (λ a. IsTrue (set_of (x ∷ xs) a.0)) x xs (or_left (eqb x.0 x.0) (set_of xs x.0) (eq-eqb x.0 x.0 refl))
    (λ k d within. or_right (eqb x.0 (get_or xs k d).0) (set_of xs (get_or xs k d).0) (in_set xs k d within))

-- rising atoms differ
pub rising_pairs : (xs : List AtomId) → IsRisingBy (λ (a : AtomId). a.0) xs → AllPairs (λ (a b : AtomId). a.0 < b.0) xs
rising_pairs [] rise = λ i j d low high. absurd (omega (arith, high))
rising_pairs (x ∷ xs) rise = AllPairs-cons (λ (a b : AtomId). a.0 < b.0) x xs (All-from_recursion (λ (b : AtomId). x.0 < b.0) xs rise.0) (rising_pairs xs rise.1)

module _ (t : PlainTask) (g : GoalId) (removed : List ActionId) (s : State) where
  pub goal_rises : IsTask t → IsRisingBy (λ (a : AtomId). a.0) (goal_atoms t g)
  goal_rises task = by (slice_get t.goals g.0) refl
    where
      by : (o : Option Goal) → slice_get t.goals g.0 ≡ o → IsRisingBy (λ (a : AtomId). a.0) (option_map_or (λ goal. goal.atoms) o [])
      by None at = tt
      by (Some goal) at =
          let within = slice_get_within t.goals g.0 goal at in
          let P : Goal → Type 0 = λ goal. AreAtoms t.atoms goal.atoms in
          (subst P (get_or_from_slice_get t.goals g.0 goal goal at) (task.goals g.0 goal within)).rise

  itself_out : (a : AtomId) → all_but a a.0 ≡ false
  itself_out a = ap not (eq-eqb a.0 a.0 refl)

  -- only the one is out
  only_out : (a : AtomId) (n : ℕ) → all_but a n ≡ false → n ≡ a.0
  only_out a n out = by (eqb n a.0) refl
    where
      by : (b : Bool) → eqb n a.0 ≡ b → n ≡ a.0
      by true is = eqb-true n a.0 is
      by false is = absurd (false≢true (sym out ∙ ap not is))

  pub without_has : (a : AtomId) → s a.0 ≡ false → IsSubset s (all_but a)
  without_has a lacks n member = not_from_false _ (elim (cases_Bool (eqb n a.0)) [
    | inl same ↦ absurd (false≢true (sym lacks ∙ ap s (sym (eqb-true n a.0 same)) ∙ member))
    | inr other ↦ other
  ])

  pub without_open : (a : AtomId) → IsTrue (set_of (goal_atoms t g) a.0) → goal_holds t g (all_but a) ≡ false
  without_open a needed = elim (cases_Bool (goal_holds t g (all_but a))) [
    | inl holds ↦ absurd (false≢true (sym (itself_out a) ∙ set_within (all_but a) (goal_atoms t g) (holds_all t g (all_but a) holds) a.0 needed))
    | inr unmet ↦ unmet
  ]

  -- an action of the cut adds the atom
  adds_it : (a : AtomId) (x : ActionId) (h : IsLeadingOut t removed (all_but a) x) → IsTrue (set_of h.action.add a.0)
  adds_it a x h = subst (λ n. IsTrue (set_of h.action.add n)) (only_out a h.atom h.outside) h.adds

  each_lacking : All (λ (a : AtomId). (not (s a.0) ≡ true) × IsTrue (set_of (goal_atoms t g) a.0)) (lacking t g s)
  each_lacking = all_filter (λ (a : AtomId). not (s a.0)) (λ (a : AtomId). IsTrue (set_of (goal_atoms t g) a.0)) (goal_atoms t g) (in_set (goal_atoms t g))

  each_around : All (λ (a : AtomId). IsSubset s (all_but a) × (goal_holds t g (all_but a) ≡ false)) (lacking t g s)
  each_around k d within = let both = each_lacking k d within in (without_has (get_or (lacking t g s) k d) (not-true _ both.0), without_open (get_or (lacking t g s) k d) both.1)

  -- no action is in the cuts of two of them
  pub apart_of : AddsOneAtMost t removed (lacking t g s) → (a b : AtomId) → a.0 < b.0 → IsTrue (set_of (lacking t g s) a.0) → IsTrue (set_of (lacking t g s) b.0) → AreDisjoint (cut t removed (all_but a)) (cut t removed (all_but b))
  apart_of one a b less has_a has_b x in_a in_b =
      let h : IsLeadingOut t removed (all_but a) x = cut_parts t removed (all_but a) x in_a in
      let k : IsLeadingOut t removed (all_but b) x = cut_parts t removed (all_but b) x in_b in
      let act : k.action ≡ h.action = same_Some _ _ (sym k.at ∙ h.at) in
      let adds_b : IsTrue (set_of h.action.add b.0) = subst (λ (c : GroundAction). IsTrue (set_of c.add b.0)) act (adds_it b x k) in
      let same : a.0 ≡ b.0 = one x h.action a.0 b.0 h.at h.kept h.free has_a has_b (adds_it a x h) adds_b in
      absurd (omega (arith, same, less))

  -- one list for each atom that the state lacks, where no action adds two of them
  pub lacking_mark : IsTask t → AddsOneAtMost t removed (lacking t g s) → All (λ (a : AtomId). IsEmptyCut (cut t removed (all_but a)) → ⊥) (lacking t g s)
      → IsCutMark t g removed s (map (λ (a : AtomId). listed_cut t removed (all_but a)) (lacking t g s)) (Steps (length (lacking t g s)))
  lacking_mark task one full =
      let pairs : AllPairs (λ (a b : AtomId). a.0 < b.0) (lacking t g s) = AllPairs-filter (λ (a b : AtomId). a.0 < b.0) (λ (a : AtomId). not (s a.0)) (goal_atoms t g) (rising_pairs (goal_atoms t g) (goal_rises task)) in
      mark_of_sets t g removed s all_but (λ (a : AtomId). listed_cut t removed (all_but a)) (λ a x. listed_exact t removed (all_but a) x) (lacking t g s) each_around
      (λ i j d low high. apart_of one (get_or (lacking t g s) i d) (get_or (lacking t g s) j d) (pairs i j d low high) (in_set (lacking t g s) i d (omega (arith, low, high))) (in_set (lacking t g s) j d high)) full

  -- where no action adds one of them, the goal is never reached
  pub lacking_never : (k : ℕ) (d : AtomId) → k < length (lacking t g s) → IsEmptyCut (cut t removed (all_but (get_or (lacking t g s) k d))) → IsCutMark t g removed s ([] ∷ []) Never
  lacking_never k d within empty = let both = each_around k d within in never_of_set t g removed s (all_but (get_or (lacking t g s) k d)) both.0 both.1 empty
