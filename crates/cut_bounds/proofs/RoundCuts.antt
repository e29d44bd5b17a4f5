-- The cuts of what is reached before each round, as lists: they are a mark, and show the level.
use Rattle.std.proofs.Common.{Bool, ◌≡◌, ◌↔◌, ◌<◌, ℕ, ◌+◌, true, false, not, List, [], ◌∷◌, ◌++◌, length, refl, sym, ◌∙◌, ap, subst, inl, inr, arith, Some}
use Rattle.std.specs.Prelude.{All, IsTrue, Contains, slice_get, filter}
use Rattle.std.specs.Option.{option_map_or}
use Rattle.std.proofs.lemmas.Bool.{cases_Bool, false≢true, and_parts, and_from, not_from_false, not-true}
use Rattle.std.proofs.lemmas.List.Elements.{All-nil, All-push, All-contains}
use Rattle.std.proofs.lemmas.List.{length-append}
use Rattle.std.proofs.lemmas.Option.{same_Some}
use Rattle.grd_base.specs.declared.ids.ActionId.{ActionId}
use Rattle.grd_base.specs.declared.ids.GoalId.{GoalId}
use Rattle.grd_base.specs.declared.limits.Bound.TheVariants.{Steps, Never}
use Rattle.grd_base.specs.Rising.{has_id}
use Rattle.grd_base.specs.Sets.{IsSubset}
use Rattle.strips_model.specs.Values.{GroundAction, PlainTask}
use Rattle.strips_model.specs.Plans.{State, has_all, can_apply, is_step, goal_holds}
use Rattle.strips_model.specs.Cuts.{cut, IsEmptyCut}
use Rattle.strips_model.specs.Levels.{grown, after_rounds, missing}
use Rattle.strips_model.proofs.FilterLemmas.{filtered}
use Rattle.strips_model.proofs.LevelLaws.{has_all_more, grown_keeps, rounds_rise}
use Rattle.strips_model.proofs.CutLaws.{cut_from, cut_adds, closed_empty, empty_closed}
use Rattle.level_bounds.specs.Waves.{is_usable, AreReady}
use Rattle.level_bounds.proofs.FilingLemmas.{usable_parts, usable_from}
use Rattle.level_bounds.proofs.RoundLaws.{AreRounds}
use Rattle.cut_bounds.specs.CutMarks.{IsCutMark, ShareNone, leads}
use Rattle.cut_bounds.proofs.ListedCuts.{has_contained, contained_of}
use Rattle.cut_bounds.proofs.MarkLaws.{mark_none, mark_push, open_around, never_of_set}

module _ (t : PlainTask) (removed : List ActionId) (u : State) where
  -- an action of the cut is among the candidates
  leading_in : (candidates : List ActionId) → AreReady t removed u candidates → (a : ActionId) → cut t removed u a ≡ true → Contains candidates a × (leads t u a ≡ true)
  unfolding cut is_step
  leading_in candidates ready a is =
      let parts = and_parts (not (has_id removed a)) (leads t u a) is in
      let (act, x) = cut_from t removed u a is in
      let free : act.blocked ≡ false = not-true _ (and_parts (not act.blocked) (has_all u act.pre) x.acts.applies).0 in
      let steps : is_step t u a ≡ true = ap (λ o. option_map_or (λ (b : GroundAction). can_apply b u) o false) x.acts.at ∙ x.acts.applies in
      (ready.all_in a act x.acts.at (usable_from t removed a act x.acts.at x.acts.kept free) steps x.adds, parts.1)

  -- and a candidate that leads out is in the cut
  leading_out : (a : ActionId) → is_usable t removed a ≡ true → leads t u a ≡ true → cut t removed u a ≡ true
  unfolding cut
  leading_out a usable out =
      let (act, at, kept, free) = usable_parts t removed a usable in
      and_from (not (has_id removed a)) (leads t u a) (not_from_false _ kept) out

  -- a list of the candidates that lead out is the cut
  pub cut_listed : (candidates found list : List ActionId) → AreReady t removed u candidates → found ≡ filter (leads t u) candidates → ((a : ActionId) → Contains list a ↔ Contains found a)
      → (a : ActionId) → has_id list a ≡ cut t removed u a
  cut_listed candidates found list ready is same a = elim (cases_Bool (cut t removed u a)) [
    | inl in_cut ↦
        let here = (filtered (leads t u) candidates a).1 (leading_in candidates ready a in_cut) in
        has_contained list a ((same a).1 (subst (λ (l : List ActionId). Contains l a) (sym is) here)) ∙ sym in_cut
    | inr out ↦ elim (cases_Bool (has_id list a)) [
      | inl has ↦
          let here = (filtered (leads t u) candidates a).0 (subst (λ (l : List ActionId). Contains l a) is ((same a).0 (contained_of list a has))) in
          absurd (false≢true (sym out ∙ leading_out a (All-contains (λ (b : ActionId). IsTrue (is_usable t removed b)) candidates a ready.usable here.0) here.1))
      | inr none ↦ none ∙ sym out
    ]
  ]

-- what the actions of the list add is in the set
abbrev pub AddWithin : PlainTask → State → List ActionId → Type 0
AddWithin t u list = (a : ActionId) (act : GroundAction) → IsTrue (has_id list a) → slice_get t.actions a.0 ≡ Some act → has_all u act.add ≡ true

-- the lists so far are a mark, and what their actions add is reached
pub record AreCuts (t : PlainTask) (g : GoalId) (removed : List ActionId) (s u : State) (lists : List (List ActionId)) : Type 0 where
  pub mark : IsCutMark t g removed s lists (Steps (length lists))
  pub within : All (AddWithin t u) lists

module _ (t : PlainTask) (g : GoalId) (removed : List ActionId) (s : State) where
  pub no_cuts : (u : State) → AreCuts t g removed s u []
  no_cuts u = record { mark = mark_none t g removed s; within = All-nil (AddWithin t u) }

  -- the cut of what is reached is one list more, where a round reaches more
  pub one_more_cut : (u v : State) (lists : List (List ActionId)) (list : List ActionId) → AreCuts t g removed s u lists → IsSubset s u → goal_holds t g u ≡ false
      → ((a : ActionId) → has_id list a ≡ cut t removed u a) → v ≡ grown t removed u → missing v t.atoms < missing u t.atoms
      → AreCuts t g removed s v (lists ++ list ∷ [])
  one_more_cut u v lists list cuts has leaves_open exact is fewer =
      let more : IsCutMark t g removed s (lists ++ list ∷ []) (Steps (length lists + 1)) =
      mark_push t g removed s lists (length lists) list cuts.mark some apart (open_around t g removed s list u has (λ a in_cut. exact a ∙ in_cut) leaves_open) in
      record {
        mark = subst (λ n. IsCutMark t g removed s (lists ++ list ∷ []) (Steps n)) (sym (length-append lists (list ∷ []))) more;
        within = All-push (AddWithin t v) lists list old new;
      }
    where
      some : 0 < length list
      some = by list refl
        where
          by : (l : List ActionId) → list ≡ l → 0 < length l
          by [] none =
              let empty : IsEmptyCut (cut t removed u) = λ a. sym (exact a) ∙ ap (λ (l : List ActionId). has_id l a) none in
              let same : v ≡ u = is ∙ empty_closed t removed u empty in
              absurd (omega (arith, fewer, ap (λ w. missing w t.atoms) same))
          by (x ∷ l) none = omega arith

      apart : All (λ (other : List ActionId). ShareNone other list) lists
      apart k d within a in_other in_list =
          let (act, x) = cut_from t removed u a (sym (exact a) ∙ in_list) in
          false≢true (sym x.adds ∙ cuts.within k d within a act in_other x.acts.at)

      old : All (AddWithin t v) lists
      old k d within a act in_other at = ap (λ w. has_all w act.add) is ∙ has_all_more u (grown t removed u) act.add (grown_keeps t removed u) (cuts.within k d within a act in_other at)

      new : AddWithin t v list
      new a act in_list at =
          let (b, x) = cut_from t removed u a (sym (exact a) ∙ in_list) in
          let same : b ≡ act = same_Some _ _ (sym x.acts.at ∙ at) in
          ap (λ w. has_all w act.add) is ∙ subst (λ (c : GroundAction). has_all (grown t removed u) c.add ≡ true) same (cut_adds t removed u a b x)

  -- the state is within what rounds reach
  pub reached_has : (u : State) (rounds : ℕ) → AreRounds t g removed s u rounds → IsSubset s u
  unfolding after_rounds
  reached_has u rounds are = subst (IsSubset s) (sym are.reached) (rounds_rise t removed s 0 rounds (omega arith))

  -- where a round reaches nothing more, one empty list shows `Never`
  pub closed_mark : (u : State) (rounds : ℕ) → AreRounds t g removed s u rounds → goal_holds t g u ≡ false → grown t removed u ≡ u → IsCutMark t g removed s ([] ∷ []) Never
  closed_mark u rounds are leaves_open closed = never_of_set t g removed s u (reached_has u rounds are) leaves_open (closed_empty t removed u closed)

-- what a test of a floor's goal told
pub still_open : (t : PlainTask) (g h : GoalId) (u : State) (r : Bool) → h ≡ g → r ≡ goal_holds t h u → r ≡ false → goal_holds t g u ≡ false
still_open t g h u r same tests is = ap (λ x. goal_holds t x u) (sym same) ∙ sym tests ∙ is
