-- Rounds without the actions of a list: of the candidates those are taken that are not in it.
use Rattle.std.proofs.Common.{◌≡◌, ◌↔◌, ◌<◌, ℕ, ◌+◌, Bool, true, false, ◌||◌, List, [], ◌∷◌, ◌++◌, length, refl, sym, ◌∙◌, ap, subst, inl, inr, arith, Some}
use Rattle.std.specs.Prelude.{slice_get, Contains, filter}
use Rattle.std.proofs.lemmas.Bool.{cases_lt, not-true, not_from_false}
use Rattle.std.proofs.lemmas.Option.{slice_get_within}
use Rattle.std.proofs.lemmas.List.Elements.{All-weaker, All-contains, All-contains_itself}
use Rattle.grd_base.specs.declared.ids.AtomId.{AtomId}
use Rattle.grd_base.specs.declared.ids.ActionId.{ActionId}
use Rattle.grd_base.specs.declared.ids.GoalId.{GoalId}
use Rattle.grd_base.specs.Rising.{has_id}
use Rattle.strips_model.specs.Values.{GroundAction, PlainTask, IsTask}
use Rattle.strips_model.specs.Plans.{State, set_of}
use Rattle.strips_model.specs.Levels.{grown, after_rounds}
use Rattle.strips_model.proofs.FilterLemmas.{filtered}
use Rattle.strips_model.proofs.LevelLaws.{round_next, stays}
use Rattle.strips_model.proofs.LevelNumbers.{rounds_end}
use Rattle.level_bounds.specs.Waves.{is_usable, is_other, AreFiled, AreReady, IsGrowth}
use Rattle.level_bounds.proofs.FilingLemmas.{IsNeeding, usable_parts, usable_from}
use Rattle.level_bounds.proofs.WaveLemmas.{ready_along}

-- what is in one of two lists is in both together
pub has_append : (xs ys : List ActionId) (a : ActionId) → has_id (xs ++ ys) a ≡ (has_id xs a || has_id ys a)
has_append [] ys a = refl
has_append (x ∷ xs) ys a = grind (arith, has_append xs ys a)

module _ (t : PlainTask) (removed list : List ActionId) where
  -- an action that is usable without the list's is none of these, and usable
  usable_parted : (a : ActionId) → is_usable t (list ++ removed) a ≡ true → (has_id list a ≡ false) × (is_usable t removed a ≡ true)
  usable_parted a may =
      let (act, at, kept, free) = usable_parts t (list ++ removed) a may in
      let neither = by (has_id list a) (has_id removed a) (sym (has_append list removed a) ∙ kept) in
      (neither.0, usable_from t removed a act at neither.1 free)
    where
      by : (b c : Bool) → (b || c) ≡ false → (b ≡ false) × (c ≡ false)
      by true c none = cc
      by false c none = (refl, none)

  -- and such a one is usable without the list's
  usable_joined : (a : ActionId) → has_id list a ≡ false → is_usable t removed a ≡ true → is_usable t (list ++ removed) a ≡ true
  usable_joined a out may =
      let (act, at, kept, free) = usable_parts t removed a may in
      usable_from t (list ++ removed) a act at (has_append list removed a ∙ ap (λ b. b || has_id removed a) out ∙ kept) free

  -- the candidates that are not in the list are ready without its actions
  pub ready_others : (u : State) (candidates others : List ActionId) → AreReady t removed u candidates → others ≡ filter (is_other list) candidates → AreReady t (list ++ removed) u others
  ready_others u candidates others ready are = subst (AreReady t (list ++ removed) u) (sym are) (record {
    usable = All-weaker (Contains (filter (is_other list) candidates)) (λ a. is_usable t (list ++ removed) a ≡ true) (λ a there.
        let parts = (filtered (is_other list) candidates a).0 there in
        usable_joined a (not-true _ parts.1) (All-contains (λ b. is_usable t removed b ≡ true) candidates a ready.usable parts.0))
        (filter (is_other list) candidates) (All-contains_itself (filter (is_other list) candidates));
    all_in = λ a act at may applies more.
        let parts = usable_parted a may in
        (filtered (is_other list) candidates a).1 (ready.all_in a act at parts.1 applies more, not_from_false _ parts.0);
  })

  -- after a round, so are those that need a fresh atom
  pub ready_around : (u : State) (candidates : List ActionId) → AreReady t (list ++ removed) u candidates → (v : State) (fresh : List AtomId) → IsGrowth t u candidates v fresh
      → (free : List ActionId) (lists : List (List ActionId)) → AreFiled t removed (length t.actions) free lists
      → (needing next : List ActionId) → ((a : ActionId) → Contains needing a ↔ IsNeeding lists (set_of fresh) a) → next ≡ filter (is_other list) needing → AreReady t (list ++ removed) v next
  ready_around u candidates ready v fresh growth free lists filed needing next are is = subst (AreReady t (list ++ removed) v) (sym is) (record {
    usable = All-weaker (Contains (filter (is_other list) needing)) (λ a. is_usable t (list ++ removed) a ≡ true) (λ a there.
        let parts = (filtered (is_other list) needing a).0 there in
        let by = (are a).0 parts.0 in
        usable_joined a (not-true _ parts.1) (All-contains (λ b. is_usable t removed b ≡ true) _ a (filed.listed_usable by.0) by.2))
        (filter (is_other list) needing) (All-contains_itself (filter (is_other list) needing));
    all_in = λ a act at may applies more.
        let parts = usable_parted a may in
        let needs = ready_along t (list ++ removed) u candidates ready v fresh growth lists
        (λ b other at_b may_b n needed. filed.found_listed b other at_b (within b other at_b) (usable_parted b may_b).1 n needed) a act at may applies more in
        (filtered (is_other list) needing a).1 ((are a).1 needs, not_from_false _ parts.0);
  })
    where
      within : (b : ActionId) (act : GroundAction) → slice_get t.actions b.0 ≡ Some act → b.0 < length t.actions
      within b act at = slice_get_within t.actions b.0 act at

-- what is reached after some rounds, from where no round leads on, is what is reached in the end
module _ (t : PlainTask) (task : IsTask t) (removed : List ActionId) (s u : State) (k : ℕ) (at : u ≡ after_rounds t removed s k) (closed : grown t removed u ≡ u) where
  pub reached_end : u ≡ after_rounds t removed s t.atoms
  reached_end =
      -- the law speaks of no goal
      let none : GoalId = record { 0 = 0 } in
      let still : grown t removed (after_rounds t removed s k) ≡ after_rounds t removed s k = subst (λ (x : State). grown t removed x ≡ x) at closed in
      elim (cases_lt t.atoms k) [
        | inl past ↦ at ∙ stays t none removed s t.atoms k (rounds_end t task removed s) (omega (arith, past))
        | inr low ↦ at ∙ sym (stays t none removed s k t.atoms still (omega (arith, low)))
      ]

-- before the first round
pub rounds_none : (t : PlainTask) (removed : List ActionId) (s u : State) → u ≡ s → (k : ℕ) × (u ≡ after_rounds t removed s k)
unfolding after_rounds
rounds_none t removed s u same = (0, same)

-- and after one more
pub rounds_one : (t : PlainTask) (removed : List ActionId) (s u v : State) → ((k : ℕ) × (u ≡ after_rounds t removed s k)) → v ≡ grown t removed u → (k : ℕ) × (v ≡ after_rounds t removed s k)
rounds_one t removed s u v (k, at) round = (k + 1, round ∙ ap (grown t removed) at ∙ sym (round_next t removed s k))
