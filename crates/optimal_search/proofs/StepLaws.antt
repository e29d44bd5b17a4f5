-- The steps of a task between states that are bit sets.
use Rattle.std.proofs.Common.{◌≡◌, ℕ, zero, suc, ◌+◌, ◌*◌, ◌<◌, ◌≤◌, Bool, true, false, cond, not, ◌&&◌, ◌||◌, List, [], ◌∷◌, ◌++◌, length, take, get_or, refl, sym, ◌∙◌, ap, subst, inl, inr, arith, Option, Some, None}
use Rattle.std.specs.Prelude.{Contains, All, filter}
use Rattle.std.specs.Option.{option_map}
use Rattle.std.specs.List.{filter_map, cons_option}
use Rattle.std.proofs.lemmas.List.{take_more, take_all}
use Rattle.std.proofs.lemmas.Bool.{ne_eqb, cases_Bool}
use Rattle.std.proofs.lemmas.Option.{slice_get_within, get_or_from_slice_get}
use Rattle.std.proofs.lemmas.List.Elements.{All-head, All-tail, All-get_or, All-filter, filter_passes, filter_map-append, Contains-append_right, Contains-append_cases, Contains-push_cases}
use Rattle.grd_base.specs.declared.bits.Bits.{Bits}
use Rattle.grd_base.specs.declared.ids.AtomId.{AtomId}
use Rattle.grd_base.specs.declared.ids.ActionId.{ActionId}
use Rattle.grd_base.specs.Rising.{has_id}
use Rattle.grd_base.specs.Bits.{members, bits_of, IsWhole}
use Rattle.grd_base.proofs.BitsLemmas.{has_past}
use Rattle.grd_base.proofs.PackedLemmas.{words_wide, words_fit, words_have}
use Rattle.strips_model.specs.Values.{PlainTask, IsTask, IsActionBelow, GroundAction}
use Rattle.strips_model.specs.Plans.{State, set_of, is_step, step, step_without, effect}
use Rattle.strips_model.specs.Moves.{allowed_of}
use Rattle.strips_model.proofs.MoveLemmas.{allowed_good, step_by, step_allowed, IsStepBy, allowed_step}
use Rattle.strips_model.proofs.StepLemmas.{no_step}
use Rattle.succ_table.specs.Applicable.{applicable_of}
use Rattle.optimal_search.specs.Space.{labelled_step, successors_of}

-- the one element of a list
only_element : {Y : Type 0} (w y : Y) → Contains (w ∷ []) y → w ≡ y
only_element w y there = elim (Contains-push_cases [] w y there) [ inl none ↦ absurd (omega (arith, none.1)) | inr same ↦ same ]

module _ {X Y : Type 0} (f : X → Option Y) where
  -- what is in a list is in it behind one more element or none
  later : (o : Option Y) (ys : List Y) (y : Y) → Contains ys y → Contains (cons_option o ys) y
  later None ys y there = there
  later (Some z) ys y there = Contains-append_right (z ∷ []) ys y there

  -- what the element at a place gives is in the list
  given_at : (xs : List X) (k : ℕ) (x : X) (y : Y) → k < length xs → get_or xs k x ≡ x → f x ≡ Some y → Contains (filter_map f xs) y
  given_at [] k x y within at gives = absurd (omega arith)
  given_at (z ∷ xs) zero x y within at gives =
      let first : Contains (y ∷ filter_map f xs) y = (0, omega arith, refl) in
      let P : Option Y → Type 0 = λ o. Contains (cons_option o (filter_map f xs)) y in
      subst P (sym (ap f at ∙ gives)) first
  given_at (z ∷ xs) (suc k) x y within at gives = later (f z) (filter_map f xs) y (given_at xs k x y (omega arith) at gives)

  -- what an element gives is in the list
  pub filter_map_has : (xs : List X) (x : X) (y : Y) → Contains xs x → f x ≡ Some y → Contains (filter_map f xs) y
  filter_map_has xs x y there gives = given_at xs there.0 x y there.1 there.2 gives

  -- what is in the list is given by an element
  pub filter_map_from : (xs : List X) (y : Y) → Contains (filter_map f xs) y → (x : X) × Contains xs x × (f x ≡ Some y)
  filter_map_from [] y there = absurd (omega (arith, there.1))
  filter_map_from (z ∷ xs) y there = by (f z) refl there (λ among. further (filter_map_from xs y among))
    where
      further : ((x : X) × Contains xs x × (f x ≡ Some y)) → (x : X) × Contains (z ∷ xs) x × (f x ≡ Some y)
      further (x, among, gives) = (x, Contains-append_right (z ∷ []) xs x among, gives)

      by : (o : Option Y) → f z ≡ o → Contains (cons_option o (filter_map f xs)) y → (Contains (filter_map f xs) y → (x : X) × Contains (z ∷ xs) x × (f x ≡ Some y))
          → (x : X) × Contains (z ∷ xs) x × (f x ≡ Some y)
      by None gives among rest = rest among
      by (Some w) gives among rest = elim (Contains-append_cases (w ∷ []) (filter_map f xs) y among) [
        | inl first ↦ (z, (0, omega arith, refl), gives ∙ ap Some (only_element w y first))
        | inr behind ↦ rest behind
      ]

module _ {X Y : Type 0} (f : X → Option Y) (xs : List X) (i : ℕ) (d : X) (within : i < length xs) where
  -- what one more element gives stands behind what the earlier ones give
  more_parts : filter_map f (take (i + 1) xs) ≡ filter_map f (take i xs) ++ cons_option (f (get_or xs i d)) []
  more_parts = ap (filter_map f) (take_more xs i d within) ∙ filter_map-append f (take i xs) (get_or xs i d ∷ [])

  -- where the next element gives a value, that is put behind the others
  pub filter_map_more_some : (ys zs : List Y) (y : Y) → ys ≡ filter_map f (take i xs) → f (get_or xs i d) ≡ Some y → zs ≡ ys ++ y ∷ [] → zs ≡ filter_map f (take (i + 1) xs)
  filter_map_more_some ys zs y before gives after = after ∙ ap (λ l. l ++ y ∷ []) before ∙ sym (more_parts ∙ ap (λ o. filter_map f (take i xs) ++ cons_option o []) gives)

module _ {X Y : Type 0} (f : X → Option Y) (p : X → Bool) (none : (x : X) → p x ≡ false → f x ≡ None) where
  -- elements that give none may be left out before
  filter_map_filter : (xs : List X) → filter_map f (filter p xs) ≡ filter_map f xs
  filter_map_filter [] = refl
  filter_map_filter (x ∷ xs) =
      let rest : filter_map f (filter p xs) ≡ filter_map f xs = filter_map_filter xs in
      elim (cases_Bool (p x)) [
        | inl is ↦ ap (λ b. filter_map f (cond b (x ∷ filter p xs) (filter p xs))) is ∙ ap (cons_option (f x)) rest
        | inr is ↦ ap (λ b. filter_map f (cond b (x ∷ filter p xs) (filter p xs))) is ∙ rest ∙ sym (ap (λ o. cons_option o (filter_map f xs)) (none x is))
      ]

-- no number from the bound on is in the state
abbrev pub HasNoneFrom : ℕ → State → Type 0
HasNoneFrom bound s = (n : ℕ) → bound ≤ n → s n ≡ false

-- no number from the bound on is in a set of atoms below it
set_over : (bound : ℕ) (xs : List AtomId) (n : ℕ) → All (λ a. a.0 < bound) xs → bound ≤ n → set_of xs n ≡ false
set_over bound [] n below past = refl
set_over bound (x ∷ xs) n below past =
    let first : x.0 < bound = All-head (λ a. a.0 < bound) x xs below in
    let rest : set_of xs n ≡ false = set_over bound xs n (All-tail (λ a. a.0 < bound) x xs below) past in
    ap (λ b. b || set_of xs n) (ne_eqb x.0 n (λ same. absurd (omega (arith, first)))) ∙ rest

-- after an action over the atoms of the task there are no other atoms, nor any from a greater bound on that
-- were not there before
effect_over : (t : PlainTask) (act : GroundAction) (s : State) (bound : ℕ) → t.atoms ≤ bound → IsActionBelow t.atoms act → HasNoneFrom bound s → HasNoneFrom bound (effect act s)
effect_over t act s bound low below over n past = none (set_of act.del n) (s n) (set_of act.add n) (over n past) (set_over t.atoms act.add n below.add.below (omega (arith, low, past)))
  where
    none : (deleted before added : Bool) → before ≡ false → added ≡ false → ((not deleted && before) || added) ≡ false
    none true before added out absent = absent
    none false before added out absent = ap (λ b. b || added) out ∙ absent

-- a step keeps the states of the task, and those below any greater bound
pub step_over : (t : PlainTask) (removed : List ActionId) (s u : State) (a : ActionId) (bound : ℕ) → IsTask t → t.atoms ≤ bound → HasNoneFrom bound s → step_without t removed s a ≡ Some u → HasNoneFrom bound u
step_over t removed s u a bound is low over leads =
    let by : IsStepBy t removed s a u = step_by t removed s a u leads in
    let below : IsActionBelow t.atoms by.action =
    subst (IsActionBelow t.atoms) (get_or_from_slice_get t.actions a.0 by.action by.action by.at)
    (All-get_or (IsActionBelow t.atoms) t.actions a.0 by.action (slice_get_within t.actions a.0 by.action by.at) is.actions) in
    let P : State → Type 0 = λ v. HasNoneFrom bound v in
    subst P (sym by.leads) (effect_over t by.action s bound low below over)

-- what a table finds are the actions that apply in the state
pub found_are : (t u : PlainTask) (removed found items : List ActionId) (s : State) → items ≡ found → found ≡ applicable_of u removed s → u ≡ t → items ≡ applicable_of t removed s
found_are t u removed found items s held are same = held ∙ are ∙ ap (λ (v : PlainTask). applicable_of v removed s) same

-- each action that was found is one of the task's, and applies
pub found_good : (t : PlainTask) (removed found : List ActionId) (s : State) (i : ℕ) (d : ActionId) → found ≡ applicable_of t removed s → i < length found
    → ((get_or found i d).0 < length t.actions) × (is_step t s (get_or found i d) ≡ true)
found_good t removed found s i d are within =
    let P : ActionId → Type 0 = λ a. (a.0 < length t.actions) × (has_id removed a ≡ false) in
    let Q : ActionId → Type 0 = λ a. is_step t s a ≡ true in (
      (subst (All P) (sym are) (All-filter (is_step t s) P (allowed_of t removed) (allowed_good t removed)) i d within).0,
      subst (All Q) (sym are) (filter_passes (is_step t s) (allowed_of t removed)) i d within,
    )

-- a step with its label is a step
pub labelled_from : {W : ℕ} (t : PlainTask) (s : Bits W) (a : ActionId) (x : ActionId × Bits W) → labelled_step t s a ≡ Some x → (u : State) × (step t (members s) a ≡ Some u) × (x ≡ (a, bits_of u))
labelled_from {W} t s a x labelled = by (step t (members s) a) refl labelled
  where
    by : (o : Option State) → step t (members s) a ≡ o → option_map (λ u. (a, bits_of u)) o ≡ Some x → (u : State) × (step t (members s) a ≡ Some u) × (x ≡ (a, bits_of u))
    by None leads same = cc
    by (Some u) leads same = (u, leads, cc)

-- the step that the program makes is the step with its label
pub labelled_some : {W : ℕ} (t : PlainTask) (s next : Bits W) (a : ActionId) → step t (members s) a ≡ Some (members next) → bits_of (members next) ≡ next → labelled_step t s a ≡ Some (a, next)
labelled_some t s next a leads again = ap (option_map (λ u. (a, bits_of u))) leads ∙ ap (λ x. Some (a, x)) again

-- an action that does not apply has no step
labelled_none : {W : ℕ} (t : PlainTask) (s : Bits W) (a : ActionId) → is_step t (members s) a ≡ false → labelled_step t s a ≡ None
labelled_none t s a out = ap (option_map (λ u. (a, bits_of u))) (no_step t (members s) a out)

-- the bit set that is made of a state is whole
pub packed_whole : {W : ℕ} (u : State) → IsWhole (bits_of {W = W} u)
unfolding bits_of
packed_whole {W} u = record { wide = words_wide u 0 W; fits = words_fit u 0 W }

-- the bit set that is made of a state of numbers that it holds has its members
pub packed_members : (W : ℕ) (u : State) → HasNoneFrom (64 * W) u → members (bits_of {W = W} u) ≡ u
unfolding members bits_of
packed_members W u over = words_have u W (λ n past. over n (omega arith))

-- a whole bit set holds no greater numbers
pub whole_below : {W : ℕ} (s : Bits W) → IsWhole s → HasNoneFrom (64 * W) (members s)
unfolding members
whole_below {W} s whole n past = has_past s.words n (omega (arith, whole.wide, past))

-- the steps by all the actions that were found are the successors
pub all_steps : {W : ℕ} (t : PlainTask) (removed found : List ActionId) (s : Bits W) (i : ℕ) (steps : List (ActionId × Bits W))
    → steps ≡ filter_map (labelled_step t s) (take i found) → length found ≤ i → found ≡ applicable_of t removed (members s) → steps ≡ successors_of t removed s
unfolding successors_of
all_steps t removed found s i steps so_far past are =
    so_far ∙ ap (filter_map (labelled_step t s)) (take_all i found past ∙ are)
    ∙ filter_map_filter (labelled_step t s) (is_step t (members s)) (λ a out. labelled_none t s a out) (allowed_of t removed)

-- a successor of a state comes of a step without the removed actions
pub successor_from : {W : ℕ} (t : PlainTask) (removed : List ActionId) (s : Bits W) (x : ActionId × Bits W) → Contains (successors_of t removed s) x
    → (u : State) × (step_without t removed (members s) x.0 ≡ Some u) × (x.1 ≡ bits_of u)
unfolding successors_of
successor_from {W} t removed s x there =
    let from = filter_map_from (labelled_step t s) (allowed_of t removed) x there in
    let by = labelled_from t s from.0 x from.2 in
    let same : x.0 ≡ from.0 = ap (λ (y : ActionId × Bits W). y.0) by.2 in
    (by.0, ap (step_without t removed (members s)) same ∙ allowed_step t removed from.0 from.1 (members s) ∙ by.1, ap (λ (y : ActionId × Bits W). y.1) by.2)

-- each step without the removed actions leads to a successor
pub successor_has : {W : ℕ} (t : PlainTask) (removed : List ActionId) (s : Bits W) (a : ActionId) (u : State) → step_without t removed (members s) a ≡ Some u
    → Contains (successors_of t removed s) (a, bits_of u)
unfolding successors_of
successor_has t removed s a u leads =
    let allowed : Contains (allowed_of t removed) a = step_allowed t removed (members s) a u leads in
    filter_map_has (labelled_step t s) (allowed_of t removed) a (a, bits_of u) allowed (ap (option_map (λ v. (a, bits_of v))) (sym (allowed_step t removed a allowed (members s)) ∙ leads))
