-- Cuts: what leads out of a set is added in the next round, so sets that are reached in turn have disjoint cuts,
-- and a set where a round reaches nothing more has an empty one.
use Rattle.std.proofs.Common.{◌≡◌, ℕ, true, false, not, List, refl, sym, ◌∙◌, ap, inl, inr, Option, Some, None}
use Rattle.std.specs.Prelude.{slice_get}
use Rattle.std.specs.Option.{option_map_or}
use mathlib.Core.Path.{fun_ext}
use Rattle.std.proofs.lemmas.Bool.{cases_Bool, false≢true, and_parts, and_from, not-true, not_from_false, false_from_ne_true}
use Rattle.grd_base.specs.declared.ids.ActionId.{ActionId}
use Rattle.grd_base.specs.Rising.{has_id}
use Rattle.grd_base.specs.Sets.{IsSubset}
use Rattle.strips_model.specs.Values.{GroundAction, PlainTask}
use Rattle.strips_model.specs.Plans.{State, has_all, can_apply}
use Rattle.strips_model.specs.Cuts.{leads_out, cut, IsEmptyCut, AreDisjoint}
use Rattle.strips_model.specs.Levels.{grown}
use Rattle.strips_model.proofs.LevelLaws.{has_all_more, has_all_set, set_within, IsActing, grown_by, grown_from, grown_keeps}

-- an action of a cut
pub record IsLeading (t : PlainTask) (removed : List ActionId) (u : State) (a : ActionId) (act : GroundAction) : Type 0 where
  pub acts : IsActing t removed u a act
  pub adds : has_all u act.add ≡ false

module _ (t : PlainTask) (removed : List ActionId) where
  -- an action of the cut is one of the task that applies and adds something outside the set
  pub cut_from : (u : State) (a : ActionId) → cut t removed u a ≡ true → (act : GroundAction) × IsLeading t removed u a act
  unfolding cut
  cut_from u a h = by (slice_get t.actions a.0) refl parts.1
    where
      parts : (not (has_id removed a) ≡ true) × (option_map_or (leads_out u) (slice_get t.actions a.0) false ≡ true)
      parts = and_parts (not (has_id removed a)) _ h

      by : (o : Option GroundAction) → slice_get t.actions a.0 ≡ o → option_map_or (leads_out u) o false ≡ true → (act : GroundAction) × IsLeading t removed u a act
      by None at h = absurd (false≢true h)
      by (Some act) at h =
          let both = and_parts (can_apply act u) (not (has_all u act.add)) h in
          (act, record { acts = record { at = at; kept = not-true _ parts.0; applies = both.0 }; adds = not-true _ both.1 })

  -- and such an action is in the cut
  pub cut_by : (u : State) (a : ActionId) (act : GroundAction) → IsActing t removed u a act → has_all u act.add ≡ false → cut t removed u a ≡ true
  unfolding cut
  cut_by u a act acts adds =
      let leads : leads_out u act ≡ true = and_from (can_apply act u) (not (has_all u act.add)) acts.applies (not_from_false _ adds) in
      and_from (not (has_id removed a)) _ (not_from_false _ acts.kept) (ap (λ o. option_map_or (leads_out u) o false) acts.at ∙ leads)

  -- what an action of the cut adds is reached in the next round
  pub cut_adds : (u : State) (a : ActionId) (act : GroundAction) → IsLeading t removed u a act → has_all (grown t removed u) act.add ≡ true
  cut_adds u a act leading = has_all_set (grown t removed u) act.add (grown_by t removed u a act leading.acts)

  -- the cut of a set shares no action with the cut of one that contains the next round's
  pub cuts_apart : (u v : State) → IsSubset (grown t removed u) v → AreDisjoint (cut t removed u) (cut t removed v)
  cuts_apart u v within a in_u in_v =
      let (act, x) = cut_from u a in_u in
      let (act', y) = cut_from v a in_v in
      let same : act' ≡ act = cc in
      false≢true (sym y.adds ∙ ap (λ (b : GroundAction). has_all v b.add) same ∙ has_all_more (grown t removed u) v act.add within (cut_adds u a act x))

  -- where a round reaches nothing more, the cut is empty
  pub closed_empty : (u : State) → grown t removed u ≡ u → IsEmptyCut (cut t removed u)
  closed_empty u closed a = elim (cases_Bool (cut t removed u a)) [
    | inl is ↦
        let (act, x) = cut_from u a is in
        absurd (false≢true (sym x.adds ∙ ap (λ w. has_all w act.add) (sym closed) ∙ cut_adds u a act x))
    | inr is ↦ is
  ]

  -- where the cut is empty, a round reaches nothing more
  pub empty_closed : (u : State) → IsEmptyCut (cut t removed u) → grown t removed u ≡ u
  empty_closed u empty = fun_ext each
    where
      each : (n : ℕ) → grown t removed u n ≡ u n
      each n = elim (cases_Bool (grown t removed u n)) [
        | inl is ↦ elim (grown_from t removed u n is) [
          | inl old ↦ is ∙ sym old
          | inr (a, act, acts, adds) ↦ elim (cases_Bool (has_all u act.add)) [
            | inl all ↦ is ∙ sym (set_within u act.add all n adds)
            | inr some ↦ absurd (false≢true (sym (empty a) ∙ cut_by u a act acts some))
          ]
        ]
        | inr is ↦ is ∙ sym (false_from_ne_true (u n) (λ old. false≢true (sym is ∙ grown_keeps t removed u n old)))
      ]
