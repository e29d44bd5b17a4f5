-- A cut as a list has the actions of the cut.
use Rattle.std.proofs.Common.{◌≡◌, ◌==◌, Some, None, Option, true, false, cond, not, ◌&&◌, eqb, ℕ, List, [], ◌∷◌, get_or, refl, sym, ◌∙◌, ap, subst, inl, inr, eq-eqb}
use Rattle.std.specs.Prelude.{Contains, IsTrue, slice_get}
use Rattle.std.specs.Option.{option_and_then, option_map_or}
use Rattle.std.proofs.lemmas.Bool.{cases_Bool, false≢true, eqb-true, and_parts, or_left, or_right, not-true}
use Rattle.std.proofs.lemmas.List.Folds.{Any-from_list_any, list_any_at}
use Rattle.grd_base.specs.declared.ids.AtomId.{AtomId}
use Rattle.grd_base.specs.declared.ids.ActionId.{ActionId}
use Rattle.grd_base.specs.Rising.{has_id}
use Rattle.strips_model.specs.Values.{GroundAction, PlainTask}
use Rattle.strips_model.specs.Plans.{State, set_of, has_all, can_apply, effect, step}
use Rattle.strips_model.specs.Cuts.{cut, leads_out}
use Rattle.strips_model.specs.Moves.{allowed_of}
use Rattle.strips_model.proofs.StepLemmas.{kept_step}
use Rattle.strips_model.proofs.MoveLemmas.{step_allowed}
use Rattle.strips_model.proofs.FilterLemmas.{filtered}
use Rattle.cut_bounds.specs.CutMarks.{listed_cut}

-- an atom of the list that is not in the set
one_out : (u : State) (xs : List AtomId) → has_all u xs ≡ false → (n : ℕ) × IsTrue (set_of xs n) × (u n ≡ false)
one_out u [] h = absurd (false≢true (sym h))
one_out u (x ∷ xs) h = elim (cases_Bool (u x.0)) [
  | inl in_it ↦
      let rest = one_out u xs (sym (ap (λ b. b && has_all u xs) in_it) ∙ h) in
      (rest.0, or_right (eqb x.0 rest.0) (set_of xs rest.0) rest.1, rest.2)
  | inr out ↦ (x.0, or_left (eqb x.0 x.0) (set_of xs x.0) (eq-eqb x.0 x.0 refl), out)
]

-- an action of a cut adds an atom outside the set
pub record IsLeadingOut (t : PlainTask) (removed : List ActionId) (u : State) (a : ActionId) : Type 0 where
  pub action : GroundAction
  pub at : slice_get t.actions a.0 ≡ Some action
  pub kept : has_id removed a ≡ false
  pub free : action.blocked ≡ false
  pub applies : can_apply action u ≡ true
  pub atom : ℕ
  pub adds : IsTrue (set_of action.add atom)
  pub outside : u atom ≡ false

pub cut_parts : (t : PlainTask) (removed : List ActionId) (u : State) (a : ActionId) → cut t removed u a ≡ true → IsLeadingOut t removed u a
unfolding cut
cut_parts t removed u a is = by (slice_get t.actions a.0) refl (and_parts (not (has_id removed a)) (option_map_or (leads_out u) (slice_get t.actions a.0) false) is).1
  where
    by : (o : Option GroundAction) → slice_get t.actions a.0 ≡ o → option_map_or (leads_out u) o false ≡ true → IsLeadingOut t removed u a
    by None at leads = absurd (false≢true leads)
    by (Some act) at leads =
        let both = and_parts (can_apply act u) (not (has_all u act.add)) leads in
        let out = one_out u act.add (not-true _ both.1) in
        record {
          action = act;
          at = at;
          kept = not-true _ (and_parts (not (has_id removed a)) (option_map_or (leads_out u) (slice_get t.actions a.0) false) is).0;
          free = not-true _ (and_parts (not act.blocked) (has_all u act.pre) both.0).0;
          applies = both.0;
          atom = out.0;
          adds = out.1;
          outside = out.2;
        }

pub has_contained : (xs : List ActionId) (a : ActionId) → Contains xs a → has_id xs a ≡ true
has_contained xs a has = list_any_at (λ (b : ActionId). b.0 == a.0) xs has.0 a has.1 (eq-eqb (get_or xs has.0 a).0 a.0 (ap (λ (b : ActionId). b.0) has.2))

pub contained_of : (xs : List ActionId) (a : ActionId) → has_id xs a ≡ true → Contains xs a
contained_of xs a is =
    let found = Any-from_list_any (λ (b : ActionId). b.0 == a.0) xs is in
    let number : found.1.0 ≡ a.0 = eqb-true found.1.0 a.0 found.4 in
    let same : found.1 ≡ a = ap (λ n. record { 0 = n }) number in
    let P : ActionId → Type 0 = λ b. Contains xs b in
    subst P same (found.0, found.2, found.3)

module _ (t : PlainTask) (removed : List ActionId) (u : State) where
  -- an action of the cut is allowed
  cut_allowed : (a : ActionId) → cut t removed u a ≡ true → Contains (allowed_of t removed) a
  unfolding step
  cut_allowed a is =
      let h : IsLeadingOut t removed u a = cut_parts t removed u a is in
      let steps : step t u a ≡ Some (effect h.action u) =
      ap (λ o. option_and_then (λ (act : GroundAction). cond (can_apply act u) (Some (effect act u)) None) o) h.at ∙ ap (λ b. cond b (Some (effect h.action u)) None) h.applies in
      step_allowed t removed u a (effect h.action u) (kept_step t removed u a h.kept ∙ steps)

  pub listed_exact : (a : ActionId) → has_id (listed_cut t removed u) a ≡ cut t removed u a
  listed_exact a = elim (cases_Bool (cut t removed u a)) [
    | inl is ↦ has_contained (listed_cut t removed u) a ((filtered (λ (b : ActionId). cut t removed u b) (allowed_of t removed) a).1 (cut_allowed a is, is)) ∙ sym is
    | inr out ↦ elim (cases_Bool (has_id (listed_cut t removed u) a)) [
      | inl has ↦ absurd (false≢true (sym out ∙ ((filtered (λ (b : ActionId). cut t removed u b) (allowed_of t removed) a).0 (contained_of (listed_cut t removed u) a has)).1))
      | inr none ↦ none ∙ sym out
    ]
  ]
