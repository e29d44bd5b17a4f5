-- The actions of cuts, as they are gathered and seen.
use Rattle.std.proofs.Common.{◌≡◌, ◌↔◌, ◌⊎◌, ◌==◌, ℕ, ◌+◌, ◌<◌, ◌≤◌, Bool, true, false, cond, not, Decides, List, [], ◌∷◌, ◌++◌, length, take, get_or, Contains, refl, sym, ◌∙◌, ap, subst, inl, inr, Option, Some, None}
use Rattle.std.specs.Prelude.{slice_get, filter, length}
use Rattle.std.specs.Option.{option_map_or, option_and_then}
use Rattle.std.specs.List.{list_any}
use Rattle.std.proofs.lemmas.Bool.{false≢true, and_parts, and_from, not-true, not_from_false, eq-eqb, eqb-true}
use Rattle.std.proofs.lemmas.List.{take_more, take_all}
use Rattle.std.proofs.lemmas.List.Elements.{All-contains, Contains-push, Contains-push_cases, Contains-append_left}
use Rattle.std.proofs.lemmas.Map.Made.{is_member-Decides}
use Rattle.indexmap.specs.IndexSet.{insert_key}
use Rattle.grd_base.specs.declared.ids.ActionId.{ActionId}
use Rattle.grd_base.specs.Rising.{has_id}
use Rattle.strips_model.specs.Values.{GroundAction, PlainTask}
use Rattle.strips_model.specs.Plans.{State, step, can_apply, effect}
use Rattle.strips_model.specs.Moves.{allowed_of}
use Rattle.strips_model.specs.Cuts.{leads_out, cut}
use Rattle.strips_model.proofs.FilterLemmas.{filtered}
use Rattle.strips_model.proofs.StepLemmas.{kept_step}
use Rattle.strips_model.proofs.MoveLemmas.{allowed_good, step_allowed}
use Rattle.cost_certificate.specs.Seen.{IsCutList}

-- `==` of two actions' numbers
abbrev pub same_id : ActionId → ActionId → Bool
same_id a b = a.0 == b.0

pub same_id-Decides : (a b : ActionId) → Decides (same_id a b) (a ≡ b)
same_id-Decides a b = (λ e. ap (λ n. record { 0 = n }) (eqb-true a.0 b.0 e), λ e. eq-eqb a.0 b.0 (ap (λ (x : ActionId). x.0) e))

-- a look-up finds an action exactly where it is among the keys
pub has_key : (keys : List ActionId) (a : ActionId) → Decides (list_any (same_id a) keys) (Contains keys a)
has_key keys a = is_member-Decides same_id-Decides keys a

-- what a list with one more element contains
pub pushed : {X : Type 0} (xs ys : List X) (y x : X) → ys ≡ xs ++ y ∷ [] → Contains ys x ↔ (Contains xs x ⊎ (y ≡ x))
pushed {X} xs ys y x is = (
  λ there. Contains-push_cases xs y x (subst (λ (zs : List X). Contains zs x) is there),
  λ h. subst (λ (zs : List X). Contains zs x) (sym is) (elim h [
    | inl there ↦ Contains-append_left xs (y ∷ []) x there
    | inr same ↦ subst (Contains (xs ++ y ∷ [])) same (Contains-push xs y)
  ]),
)

-- the keys after an insertion are those before and the inserted one
inserted : (keys new : List ActionId) (a b : ActionId) → new ≡ insert_key same_id keys a → Contains new b ↔ (Contains keys b ⊎ (a ≡ b))
inserted keys new a b is = by (list_any (same_id a) keys) refl is
  where
    by : (found : Bool) → list_any (same_id a) keys ≡ found → new ≡ cond found keys (keys ++ a ∷ []) → Contains new b ↔ (Contains keys b ⊎ (a ≡ b))
    by true found same = (
      λ there. inl (subst (λ (zs : List ActionId). Contains zs b) same there),
      λ h. subst (λ (zs : List ActionId). Contains zs b) (sym same) (elim h [
        | inl there ↦ there
        | inr here ↦ subst (Contains keys) here ((has_key keys a).0 found)
      ]),
    )
    by false found more = pushed keys new a b more

-- the keys are those of the start and the elements of the front
abbrev pub AreGathered : List ActionId → List ActionId → List ActionId → Type 0
AreGathered start front keys = (b : ActionId) → Contains keys b ↔ (Contains start b ⊎ Contains front b)

-- one more element of the list is inserted
pub gathered_more : (start actions keys new : List ActionId) (i : ℕ) (d : ActionId) → i < length actions → new ≡ insert_key same_id keys (get_or actions i d)
    → AreGathered start (take i actions) keys → AreGathered start (take (i + 1) actions) new
gathered_more start actions keys new i d within is so_far b =
    let a = get_or actions i d in
    let key = inserted keys new a b is in
    let front = pushed (take i actions) (take (i + 1) actions) a b (take_more actions i d within) in (
      λ there. elim (key.0 there) [
        | inl old ↦ elim ((so_far b).0 old) [ inl first ↦ inl first | inr taken ↦ inr (front.1 (inl taken)) ]
        | inr here ↦ inr (front.1 (inr here))
      ],
      λ h. elim h [
        | inl first ↦ key.1 (inl ((so_far b).1 (inl first)))
        | inr taken ↦ elim (front.0 taken) [ inl before ↦ key.1 (inl ((so_far b).1 (inr before))) | inr here ↦ key.1 (inr here) ]
      ],
    )

-- all elements of the list are inserted
pub gathered_all : (start actions keys : List ActionId) (i : ℕ) → length actions ≤ i → AreGathered start (take i actions) keys → AreGathered start actions keys
gathered_all start actions keys i all so_far = subst (λ front. AreGathered start front keys) (take_all i actions all) so_far

-- whether the action with this number leads out of the set
abbrev pub leads : PlainTask → State → ActionId → Bool
leads t u a = option_map_or (leads_out u) (slice_get t.actions a.0) false

-- each allowed action is one of the task's
pub allowed_within : (t : PlainTask) (removed : List ActionId) (i : ℕ) (d : ActionId) → i < length (allowed_of t removed) → (get_or (allowed_of t removed) i d).0 < length t.actions
allowed_within t removed i d within = (allowed_good t removed i d within).0

-- an action that leads out of a set, and is not removed, is an allowed one
leads_allowed : (t : PlainTask) (removed : List ActionId) (u : State) (a : ActionId) → has_id removed a ≡ false → leads t u a ≡ true → Contains (allowed_of t removed) a
unfolding step
leads_allowed t removed u a kept leads = by (slice_get t.actions a.0) refl leads
  where
    by : (o : Option GroundAction) → slice_get t.actions a.0 ≡ o → option_map_or (leads_out u) o false ≡ true → Contains (allowed_of t removed) a
    by None at h = absurd (false≢true h)
    by (Some act) at h =
        let can : can_apply act u ≡ true = (and_parts (can_apply act u) _ h).0 in
        let to : step t u a ≡ Some (effect act u) = ap (option_and_then (λ x. cond (can_apply x u) (Some (effect x u)) None)) at ∙ ap (λ b. cond b (Some (effect act u)) None) can in
        step_allowed t removed u a (effect act u) (kept_step t removed u a kept ∙ to)

-- the allowed actions that lead out of a set are those of its cut
pub cut_list : (t : PlainTask) (removed : List ActionId) (u : State) (actions : List ActionId) (i : ℕ) → length (allowed_of t removed) ≤ i → actions ≡ filter (leads t u) (take i (allowed_of t removed))
    → IsCutList t removed u actions
unfolding cut
cut_list t removed u actions i all front a =
    let is : actions ≡ filter (leads t u) (allowed_of t removed) = front ∙ ap (filter (leads t u)) (take_all i (allowed_of t removed) all) in
    let both = filtered (leads t u) (allowed_of t removed) a in (
      λ there.
          let h = both.0 (subst (λ (zs : List ActionId). Contains zs a) is there) in
          let good = All-contains (λ (b : ActionId). (b.0 < length t.actions) × (has_id removed b ≡ false)) (allowed_of t removed) a (allowed_good t removed) h.0 in
          and_from (not (has_id removed a)) (leads t u a) (not_from_false _ good.1) h.1,
      λ h.
          let parts = and_parts (not (has_id removed a)) (leads t u a) h in
          subst (λ (zs : List ActionId). Contains zs a) (sym is) (both.1 (leads_allowed t removed u a (not-true _ parts.0) parts.1, parts.1)),
    )
