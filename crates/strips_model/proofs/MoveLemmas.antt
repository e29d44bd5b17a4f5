-- Steps without the removed actions: they are by allowed actions of the task.
use Rattle.std.proofs.Common.{◌≡◌, ℕ, zero, suc, ◌+◌, ◌<◌, Bool, true, false, cond, not, List, [], ◌∷◌, length, map, refl, sym, ◌∙◌, ap, subst, inl, inr, arith, Option, Some, None, add-zero}
use Rattle.std.specs.Prelude.{slice_get, filter, Contains, All}
use Rattle.std.specs.Option.{option_and_then}
use Rattle.std.specs.List.{enumerate_from}
use Rattle.std.proofs.lemmas.Bool.{cases_Bool, and_parts, and_from, not_from_false, false≢true}
use Rattle.std.proofs.lemmas.List.Elements.{All-nil, All-cons, All-contains}
use Rattle.grd_base.specs.declared.ids.ActionId.{ActionId}
use Rattle.grd_base.specs.Rising.{has_id}
use Rattle.strips_model.specs.Values.{GroundAction, PlainTask}
use Rattle.strips_model.specs.Plans.{State, step, step_without, can_apply, effect}
use Rattle.strips_model.specs.Moves.{is_allowed, allowed_of}
use Rattle.strips_model.proofs.StepLemmas.{kept_step}

-- the numbers, counted from k, of the allowed actions
abbrev pub numbers_from : List ActionId → ℕ → List GroundAction → List ActionId
numbers_from removed k acts = map (λ x. record { 0 = x.0 }) (filter (is_allowed removed) (enumerate_from k acts))

pub all_numbers : (t : PlainTask) (removed : List ActionId) → allowed_of t removed ≡ numbers_from removed 0 t.actions
unfolding allowed_of
all_numbers t removed = refl

-- the number of the first action is left out or stands first
numbers_out : (removed : List ActionId) (k : ℕ) (x : GroundAction) (acts : List GroundAction) → is_allowed removed (k, x) ≡ false → numbers_from removed k (x ∷ acts) ≡ numbers_from removed (k + 1) acts
numbers_out removed k x acts e =
    let rest = filter (is_allowed removed) (enumerate_from (k + 1) acts) in
    ap (λ b. map (λ (y : ℕ × GroundAction). record { 0 = y.0 }) (cond b ((k, x) ∷ rest) rest)) e

numbers_in : (removed : List ActionId) (k : ℕ) (x : GroundAction) (acts : List GroundAction) → is_allowed removed (k, x) ≡ true → numbers_from removed k (x ∷ acts) ≡ record { 0 = k } ∷ numbers_from removed (k + 1) acts
numbers_in removed k x acts e =
    let rest = filter (is_allowed removed) (enumerate_from (k + 1) acts) in
    ap (λ b. map (λ (y : ℕ × GroundAction). record { 0 = y.0 }) (cond b ((k, x) ∷ rest) rest)) e

contains_first : {X : Type 0} (y : X) (xs : List X) (x : X) → y ≡ x → Contains (y ∷ xs) x
contains_first y xs x same = (0, omega arith, same)

contains_later : {X : Type 0} (y : X) (xs : List X) (x : X) → Contains xs x → Contains (y ∷ xs) x
contains_later y xs x there = (suc there.0, omega (arith, there.1), there.2)

-- an allowed action has a place among the numbers
has_number : (removed : List ActionId) (k : ℕ) (acts : List GroundAction) (j : ℕ) (act : GroundAction) → slice_get acts j ≡ Some act → is_allowed removed (k + j, act) ≡ true
    → Contains (numbers_from removed k acts) (record { 0 = k + j })
has_number removed k [] j act at is = cc
has_number removed k (x ∷ acts) zero act at is =
    let same : x ≡ act = cc in
    let here : is_allowed removed (k, x) ≡ true = ap (λ y. is_allowed removed (k, y)) same ∙ ap (λ n. is_allowed removed (n, act)) (sym (add-zero k)) ∙ is in
    subst (λ ns. Contains ns (record { 0 = k + 0 })) (sym (numbers_in removed k x acts here)) (contains_first _ _ _ (ap (λ n. record { 0 = n }) (sym (add-zero k))))
has_number removed k (x ∷ acts) (suc j) act at is =
    let next : k + 1 + j ≡ k + suc j = omega arith in
    let there : Contains (numbers_from removed (k + 1) acts) (record { 0 = k + suc j }) =
    subst (λ n. Contains (numbers_from removed (k + 1) acts) (record { 0 = n })) next
    (has_number removed (k + 1) acts j act at (ap (λ n. is_allowed removed (n, act)) next ∙ is)) in
    elim (cases_Bool (is_allowed removed (k, x))) [
      | inl is_in ↦ subst (λ ns. Contains ns (record { 0 = k + suc j })) (sym (numbers_in removed k x acts is_in)) (contains_later _ _ _ there)
      | inr is_out ↦ subst (λ ns. Contains ns (record { 0 = k + suc j })) (sym (numbers_out removed k x acts is_out)) there
    ]

is_not : (b : Bool) → not b ≡ true → b ≡ false
is_not true h = absurd (false≢true h)
is_not false h = refl

-- each number is that of an action that is not removed
numbers_good : (removed : List ActionId) (k : ℕ) (acts : List GroundAction) → All (λ a. (a.0 < k + length acts) × (has_id removed a ≡ false)) (numbers_from removed k acts)
numbers_good removed k [] = All-nil _
numbers_good removed k (x ∷ acts) =
    let longer : k + 1 + length acts ≡ k + length (x ∷ acts) = omega arith in
    let rest : All (λ a. (a.0 < k + length (x ∷ acts)) × (has_id removed a ≡ false)) (numbers_from removed (k + 1) acts) =
    subst (λ n. All (λ a. (a.0 < n) × (has_id removed a ≡ false)) (numbers_from removed (k + 1) acts)) longer (numbers_good removed (k + 1) acts) in
    elim (cases_Bool (is_allowed removed (k, x))) [
      | inl is_in ↦
          let kept : has_id removed (record { 0 = k }) ≡ false = is_not _ (and_parts (not x.blocked) _ is_in).1 in
          subst (All (λ a. (a.0 < k + length (x ∷ acts)) × (has_id removed a ≡ false))) (sym (numbers_in removed k x acts is_in))
          (All-cons (λ a. (a.0 < k + length (x ∷ acts)) × (has_id removed a ≡ false)) (record { 0 = k }) (numbers_from removed (k + 1) acts) (omega arith, kept) rest)
      | inr is_out ↦ subst (All (λ a. (a.0 < k + length (x ∷ acts)) × (has_id removed a ≡ false))) (sym (numbers_out removed k x acts is_out)) rest
    ]

-- each allowed action is one of the task's and not removed
pub allowed_good : (t : PlainTask) (removed : List ActionId) → All (λ a. (a.0 < length t.actions) × (has_id removed a ≡ false)) (allowed_of t removed)
allowed_good t removed =
    let same : 0 + length t.actions ≡ length t.actions = omega arith in
    subst (All (λ a. (a.0 < length t.actions) × (has_id removed a ≡ false))) (sym (all_numbers t removed)) (subst (λ n. All (λ a. (a.0 < n) × (has_id removed a ≡ false)) (numbers_from removed 0 t.actions)) same (numbers_good removed 0 t.actions))

-- a step without the removed actions is by an action of the task that is not removed and applies
pub record IsStepBy (t : PlainTask) (removed : List ActionId) (s : State) (a : ActionId) (u : State) : Type 0 where
  pub action : GroundAction
  pub at : slice_get t.actions a.0 ≡ Some action
  pub kept : has_id removed a ≡ false
  pub applies : can_apply action s ≡ true
  pub leads : u ≡ effect action s

pub step_by : (t : PlainTask) (removed : List ActionId) (s : State) (a : ActionId) (u : State) → step_without t removed s a ≡ Some u → IsStepBy t removed s a u
unfolding step_without step
step_by t removed s a u e = first (has_id removed a) refl e
  where
    third : (act : GroundAction) (at : slice_get t.actions a.0 ≡ Some act) (kept : has_id removed a ≡ false) (b : Bool) → can_apply act s ≡ b
        → cond b (Some (effect act s)) None ≡ Some u → IsStepBy t removed s a u
    third act at kept true can e = record { action = act; at = at; kept = kept; applies = can; leads = cc }
    third act at kept false can e = cc

    second : (kept : has_id removed a ≡ false) (o : Option GroundAction) → slice_get t.actions a.0 ≡ o
        → option_and_then (λ act. cond (can_apply act s) (Some (effect act s)) None) o ≡ Some u → IsStepBy t removed s a u
    second kept None at e = cc
    second kept (Some act) at e = third act at kept (can_apply act s) refl e

    first : (b : Bool) → has_id removed a ≡ b → cond b None (option_and_then (λ act. cond (can_apply act s) (Some (effect act s)) None) (slice_get t.actions a.0)) ≡ Some u
        → IsStepBy t removed s a u
    first true kept e = cc
    first false kept e = second kept (slice_get t.actions a.0) refl e

-- each step without the removed actions is by an allowed one
pub step_allowed : (t : PlainTask) (removed : List ActionId) (s : State) (a : ActionId) (u : State) → step_without t removed s a ≡ Some u → Contains (allowed_of t removed) a
step_allowed t removed s a u e =
    let x = step_by t removed s a u e in
    let free : not x.action.blocked ≡ true = (and_parts (not x.action.blocked) _ x.applies).0 in
    let is : is_allowed removed (a.0, x.action) ≡ true = and_from (not x.action.blocked) _ free (not_from_false _ x.kept) in
    let zero : 0 + a.0 ≡ a.0 = omega arith in
    subst (λ ns. Contains ns a) (sym (all_numbers t removed))
    (subst (λ n. Contains (numbers_from removed 0 t.actions) (record { 0 = n })) zero
    (has_number removed 0 t.actions a.0 x.action x.at (ap (λ n. is_allowed removed (n, x.action)) zero ∙ is)))

module _ (t : PlainTask) (removed : List ActionId) (a : ActionId) (allowed : Contains (allowed_of t removed) a) where
  good : (a.0 < length t.actions) × (has_id removed a ≡ false)
  good = All-contains (λ b. (b.0 < length t.actions) × (has_id removed b ≡ false)) (allowed_of t removed) a (allowed_good t removed) allowed

  -- an allowed action is one of the task's
  pub allowed_number : a.0 < length t.actions
  allowed_number = good.0

  -- an allowed action steps as without removed actions
  pub allowed_step : (s : State) → step_without t removed s a ≡ step t s a
  allowed_step s = kept_step t removed s a good.1
