-- The unblocked actions of a task in their order: there is a step only by one of them, so none by an
-- action that is passed over on the way from one of them to the next.
use Rattle.std.proofs.Common.{◌≡◌, ℕ, zero, suc, ◌+◌, ◌<◌, ◌≤◌, true, false, cond, not, ◌&&◌, List, [], ◌∷◌, length, map, get_or, refl, sym, ◌∙◌, ap, inl, inr, arith, Option, Some, None, add-one}
use Rattle.std.specs.Prelude.{slice_get, filter}
use Rattle.std.specs.Option.{option_map_or, option_and_then}
use Rattle.std.specs.List.{enumerate_from}
use Rattle.std.proofs.lemmas.Bool.{cases_Bool, cases_lt}
use Rattle.std.proofs.lemmas.Option.{slice_get_past, slice_get-get_or}
use Rattle.grd_base.specs.declared.ids.ActionId.{ActionId}
use Rattle.strips_model.specs.Values.{GroundAction, PlainTask}
use Rattle.strips_model.specs.Plans.{State, step, has_all, can_apply, effect}
use Rattle.plain_search.specs.Moves.{unblocked_of}
use Rattle.plain_search.proofs.WalkPlanLemmas.{some_same}

-- the numbers, counted from k, of the actions that are not blocked
abbrev pub numbers_from : ℕ → List GroundAction → List ActionId
numbers_from k acts = map (λ x. record { 0 = x.0 }) (filter (λ x. not x.1.blocked) (enumerate_from k acts))

pub all_numbers : (t : PlainTask) → unblocked_of t ≡ numbers_from 0 t.actions
unfolding unblocked_of
all_numbers t = refl

-- the number of the first action is left out or stands first
numbers_blocked : (k : ℕ) (x : GroundAction) (acts : List GroundAction) → x.blocked ≡ true → numbers_from k (x ∷ acts) ≡ numbers_from (k + 1) acts
numbers_blocked k x acts e =
    let rest = filter (λ (y : ℕ × GroundAction). not y.1.blocked) (enumerate_from (k + 1) acts) in
    ap (λ b. map (λ (y : ℕ × GroundAction). record { 0 = y.0 }) (cond (not b) ((k, x) ∷ rest) rest)) e

numbers_open : (k : ℕ) (x : GroundAction) (acts : List GroundAction) → x.blocked ≡ false → numbers_from k (x ∷ acts) ≡ record { 0 = k } ∷ numbers_from (k + 1) acts
numbers_open k x acts e =
    let rest = filter (λ (y : ℕ × GroundAction). not y.1.blocked) (enumerate_from (k + 1) acts) in
    ap (λ b. map (λ (y : ℕ × GroundAction). record { 0 = y.0 }) (cond (not b) ((k, x) ∷ rest) rest)) e

-- the number at a place, or the bound behind the last one
abbrev pub number_at : List ActionId → ℕ → ℕ → ℕ
number_at numbers bound i = option_map_or (λ a. a.0) (slice_get numbers i) bound

numbers_within : (k : ℕ) (acts : List GroundAction) (i : ℕ) (a : ActionId) → slice_get (numbers_from k acts) i ≡ Some a → (k ≤ a.0) × (a.0 < k + length acts)
numbers_within k [] i a at = cc
numbers_within k (x ∷ acts) zero a at = elim (cases_Bool x.blocked) [
  | inl blocked ↦ let rest = numbers_within (k + 1) acts 0 a (ap (λ ns. slice_get ns 0) (sym (numbers_blocked k x acts blocked)) ∙ at) in (omega (arith, rest.0), omega (arith, rest.1))
  | inr free ↦
      let here : Some (record { 0 = k }) ≡ Some a = ap (λ ns. slice_get ns 0) (sym (numbers_open k x acts free)) ∙ at in
      let same : k ≡ a.0 = ap (λ (b : ActionId). b.0) (some_same _ a here) in
      (omega arith, omega arith)
]
numbers_within k (x ∷ acts) (suc i) a at = elim (cases_Bool x.blocked) [
  | inl blocked ↦
      let rest = numbers_within (k + 1) acts (suc i) a (ap (λ ns. slice_get ns (suc i)) (sym (numbers_blocked k x acts blocked)) ∙ at) in
      (omega (arith, rest.0), omega (arith, rest.1))
  | inr free ↦ let rest = numbers_within (k + 1) acts i a (ap (λ ns. slice_get ns (suc i)) (sym (numbers_open k x acts free)) ∙ at) in (omega (arith, rest.0), omega (arith, rest.1))
]

-- an action that is not blocked has no number below the first one, or between a lower one and the next
first_lowest : (k bound : ℕ) (acts : List GroundAction) (j : ℕ) (act : GroundAction) → slice_get acts j ≡ Some act → act.blocked ≡ false → number_at (numbers_from k acts) bound 0 ≤ k + j
first_lowest k bound [] j act at free = cc
first_lowest k bound (x ∷ acts) zero act at free =
    let same : x ≡ act = cc in
    omega (arith, ap (λ ns. number_at ns bound 0) (numbers_open k x acts (ap (λ (y : GroundAction). y.blocked) same ∙ free)))
first_lowest k bound (x ∷ acts) (suc j) act at free = elim (cases_Bool x.blocked) [
  | inl blocked ↦ omega (arith, ap (λ ns. number_at ns bound 0) (numbers_blocked k x acts blocked), first_lowest (k + 1) bound acts j act at free)
  | inr other ↦ omega (arith, ap (λ ns. number_at ns bound 0) (numbers_open k x acts other))
]

next_lowest : (k bound : ℕ) (acts : List GroundAction) (i : ℕ) (a : ActionId) → slice_get (numbers_from k acts) i ≡ Some a
    → (j : ℕ) (act : GroundAction) → slice_get acts j ≡ Some act → act.blocked ≡ false → a.0 < k + j → number_at (numbers_from k acts) bound (suc i) ≤ k + j
next_lowest k bound [] i a at j act at_act free low = cc
next_lowest k bound (x ∷ acts) i a at zero act at_act free low = absurd (omega (arith, numbers_within k (x ∷ acts) i a at))
next_lowest k bound (x ∷ acts) zero a at (suc j) act at_act free low = elim (cases_Bool x.blocked) [
  | inl blocked ↦
      let rest = next_lowest (k + 1) bound acts 0 a (ap (λ ns. slice_get ns 0) (sym (numbers_blocked k x acts blocked)) ∙ at) j act at_act free (omega arith) in
      omega (arith, ap (λ ns. number_at ns bound 1) (numbers_blocked k x acts blocked))
  | inr other ↦ omega (arith, ap (λ ns. number_at ns bound 1) (numbers_open k x acts other), first_lowest (k + 1) bound acts j act at_act free)
]
next_lowest k bound (x ∷ acts) (suc i) a at (suc j) act at_act free low = elim (cases_Bool x.blocked) [
  | inl blocked ↦
      let rest = next_lowest (k + 1) bound acts (suc i) a (ap (λ ns. slice_get ns (suc i)) (sym (numbers_blocked k x acts blocked)) ∙ at) j act at_act free (omega arith) in
      omega (arith, ap (λ ns. number_at ns bound (suc (suc i))) (numbers_blocked k x acts blocked))
  | inr other ↦
      let rest = next_lowest (k + 1) bound acts i a (ap (λ ns. slice_get ns (suc i)) (sym (numbers_open k x acts other)) ∙ at) j act at_act free (omega arith) in
      omega (arith, ap (λ ns. number_at ns bound (suc (suc i))) (numbers_open k x acts other))
]

-- an action with a step is one of the task, and not blocked
steps_free : (t : PlainTask) (s u : State) (a : ActionId) → step t s a ≡ Some u → (act : GroundAction) × (slice_get t.actions a.0 ≡ Some act) × (act.blocked ≡ false)
unfolding step
steps_free t s u a e = by (slice_get t.actions a.0) refl e
  where
    by : (o : Option GroundAction) → slice_get t.actions a.0 ≡ o → option_and_then (λ act. cond (can_apply act s) (Some (effect act s)) None) o ≡ Some u
        → (act : GroundAction) × (slice_get t.actions a.0 ≡ Some act) × (act.blocked ≡ false)
    by None at h = cc
    by (Some act) at h = (
      act,
      at,
      elim (cases_Bool act.blocked) [
        | inl blocked ↦ absurd (let none : ◌≡◌ {A = Option State} (cond (can_apply act s) (Some (effect act s)) None) None = ap (λ b. cond (not b && has_all s act.pre) (Some (effect act s)) None) blocked in cc)
        | inr free ↦ free
      ],
    )

-- the number of the unblocked action at a place in their list, or behind the last one that of all actions
abbrev pub next_number : PlainTask → ℕ → ℕ
next_number t i = number_at (unblocked_of t) (length t.actions) i

-- each step by an action with a number below the second is by one below the first
abbrev pub IsGap : PlainTask → ℕ → ℕ → Type 0
IsGap t part more = (s u : State) (a : ActionId) → step t s a ≡ Some u → a.0 < more → a.0 < part

pub first_gap : (t : PlainTask) → IsGap t 0 (next_number t 0)
first_gap t s u a e low =
    let act = steps_free t s u a e in
    absurd (omega (arith, ap (λ ns. number_at ns (length t.actions) 0) (all_numbers t), first_lowest 0 (length t.actions) t.actions a.0 act.0 act.1 act.2))

module _ (t : PlainTask) (i : ℕ) (d : ActionId) (within : i < length (unblocked_of t)) where
  at : slice_get (unblocked_of t) i ≡ Some (get_or (unblocked_of t) i d)
  at = slice_get-get_or (unblocked_of t) i d within

  pub is_next : next_number t i ≡ (get_or (unblocked_of t) i d).0
  is_next = ap (λ o. option_map_or (λ (a : ActionId). a.0) o (length t.actions)) at

  pub in_task : (get_or (unblocked_of t) i d).0 < length t.actions
  in_task = omega (arith, (numbers_within 0 t.actions i (get_or (unblocked_of t) i d) (ap (λ ns. slice_get ns i) (sym (all_numbers t)) ∙ at)).1)

  pub next_gap : IsGap t ((get_or (unblocked_of t) i d).0 + 1) (next_number t (i + 1))
  next_gap s u b e low =
      let act = steps_free t s u b e in
      let a : ActionId = get_or (unblocked_of t) i d in
      let there : slice_get (numbers_from 0 t.actions) i ≡ Some a = ap (λ ns. slice_get ns i) (sym (all_numbers t)) ∙ at in
      let next : next_number t (i + 1) ≡ number_at (numbers_from 0 t.actions) (length t.actions) (suc i) =
      ap (next_number t) (add-one i) ∙ ap (λ ns. number_at ns (length t.actions) (suc i)) (all_numbers t) in
      elim (cases_lt a.0 b.0) [
        | inl past ↦ absurd (omega (arith, next_lowest 0 (length t.actions) t.actions i a there b.0 act.0 act.1 act.2 (omega arith)))
        | inr before ↦ omega arith
      ]

pub no_next : (t : PlainTask) (i : ℕ) → length (unblocked_of t) ≤ i → next_number t i ≡ length t.actions
no_next t i past = ap (λ o. option_map_or (λ (b : ActionId). b.0) o (length t.actions)) (slice_get_past (unblocked_of t) i past)
