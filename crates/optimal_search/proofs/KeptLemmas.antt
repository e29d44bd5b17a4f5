-- States with bounds as rows: how a look-up, a new entry and a better bound tell of them.
use Rattle.std.proofs.Common.{◌≡◌, ◌⊎◌, ℕ, zero, suc, ◌<◌, Bool, true, false, cond, Decides, List, [], ◌∷◌, ◌++◌, length, get_or, append_assoc, Option, Some, None, refl, sym, ap, subst, ◌∙◌, inl, inr, true≢false, arith}
use Rattle.std.specs.Prelude.{slice_get, All, Any, Contains, MatchOption}
use Rattle.std.specs.Option.{is_some}
use Rattle.std.specs.List.{position}
use Rattle.std.specs.Map.{lookup, keys_of, values_of}
use Rattle.std.proofs.lemmas.Map.Entries.{place_from_lookup}
use Rattle.std.proofs.lemmas.List.Elements.{All-push, All-nil, Contains-append_right, Contains-get_or}
use Rattle.std.proofs.lemmas.List.Quantifiers.{position-Some}
use Rattle.std.proofs.lemmas.Option.{same_Some, none-some}
use Rattle.indexmap.specs.Layout.{set_value_at}
use Rattle.grd_base.specs.declared.limits.Bound.{Bound}
use Rattle.grd_base.specs.declared.limits.Bound.TheVariants.{Steps, Never}
use Rattle.search_core.specs.declared.rows.KeptRow.{KeptRow}
use Rattle.search_core.specs.Spaces.{Successors, IsAtLeast}
use Rattle.search_core.specs.Tables.{HasRow, HasNeverRow, IsRefutedBySteps, IsRefuted, AreRefuted, IsRefutedByMark}
use Rattle.cost_certificate.specs.Tables.{IsAtMost}
use Rattle.cost_certificate.proofs.OrderLemmas.{at_most_itself, at_most_along}
use Rattle.optimal_search.specs.declared.kept.Proved.{Proved}
use Rattle.optimal_search.specs.Kept.{row_in, rows_in, bare_row, HasBound, HasAll, AreFrom}

-- elements of a list
first_has : {X : Type 0} (x : X) (xs : List X) → Contains (x ∷ xs) x
first_has x xs = (zero, omega arith, refl)

later_has : {X : Type 0} (x : X) (xs : List X) (y : X) → Contains xs y → Contains (x ∷ xs) y
later_has x xs y there = (suc there.0, omega (arith, there.1), there.2)

first_or_later : {X : Type 0} (x : X) (xs : List X) (y : X) → Contains (x ∷ xs) y → (x ≡ y) ⊎ Contains xs y
first_or_later x xs y (zero, within, is) = inl is
first_or_later x xs y (suc k, within, is) = inr (k, omega arith, is)

any_here : {X : Type 0} (P : X → Type 0) (x : X) (xs : List X) → P x → Any P (x ∷ xs)
any_here P x xs p = (0, x, omega arith, refl, p)

any_later : {X : Type 0} (P : X → Type 0) (x : X) (xs : List X) → Any P xs → Any P (x ∷ xs)
any_later P x xs a = (suc a.0, a.1, omega (arith, a.2), a.3, a.4)

any_cases : {X : Type 0} (P : X → Type 0) (x : X) (xs : List X) → Any P (x ∷ xs) → P x ⊎ Any P xs
any_cases P x xs (zero, y, within, at, p) = inl (subst P (sym at) p)
any_cases P x xs (suc k, y, within, at, p) = inr (k, y, omega (arith, within), at, p)

any_weaker : {X : Type 0} (P Q : X → Type 0) (xs : List X) → ((x : X) → P x → Q x) → Any P xs → Any Q xs
any_weaker P Q xs f a = (a.0, a.1, a.2, a.3, f a.1 a.4)

all_of : {X : Type 0} (P : X → Type 0) (xs : List X) (x : X) → All P xs → Contains xs x → P x
all_of P xs x all there = subst P there.2 (all there.0 x there.1)

there : {X : Type 0} (xs : List X) (k : ℕ) (d : X) → k < length xs → Contains xs (get_or xs k d)
there xs k d within = Contains-get_or xs k d within

any_of : {X : Type 0} (P : X → Type 0) (xs : List X) (x : X) → Contains xs x → P x → Any P xs
any_of P xs x there p = (there.0, x, there.1, there.2, p)

-- of a state no less than 0 steps is known
at_most_any : (b : Bound) → IsAtMost (Steps 0) b
at_most_any (Steps n) = omega arith
at_most_any Never = tt

module _ {S M : Type 0} where
  -- an entry makes a row
  pub has_at : (es : List (S × Proved M)) (i : ℕ) (s : S) (v : Proved M) → slice_get es i ≡ Some (s, v) → HasBound (rows_in es) s v.bound
  has_at [] i s v at = absurd (none-some (s, v) at)
  has_at (e ∷ es) zero s v at =
      let same : e ≡ (s, v) = same_Some e (s, v) at in
      any_here (λ row. (row.state ≡ s) × IsAtMost v.bound row.bound) (row_in e) (rows_in es)
      (ap (λ (f : S × Proved M). f.0) same, subst (λ (f : S × Proved M). IsAtMost v.bound f.1.bound) (sym same) (at_most_itself v.bound))
  has_at (e ∷ es) (suc i) s v at = any_later (λ row. (row.state ≡ s) × IsAtMost v.bound row.bound) (row_in e) (rows_in es) (has_at es i s v at)

  -- a lower bound is had too
  pub has_lower : (rows : List (KeptRow S M)) (s : S) (low high : Bound) → IsAtMost low high → HasBound rows s high → HasBound rows s low
  has_lower rows s low high less has =
      any_weaker (λ row. (row.state ≡ s) × IsAtMost high row.bound) (λ row. (row.state ≡ s) × IsAtMost low row.bound) rows (λ row h. (h.0, at_most_along low high row.bound less h.1)) has

  -- a new entry
  pub push_from : (es : List (S × Proved M)) (e : S × Proved M) (row : KeptRow S M) → Contains (rows_in (es ++ e ∷ [])) row → Contains (rows_in es) row ⊎ (row_in e ≡ row)
  push_from [] e row there = elim (first_or_later (row_in e) [] row there) [ inl is ↦ inr is | inr none ↦ absurd (omega (arith, none.1)) ]
  push_from (x ∷ es) e row there = elim (first_or_later (row_in x) (rows_in (es ++ e ∷ [])) row there) as (λ _. Contains (rows_in (x ∷ es)) row ⊎ (row_in e ≡ row)) [
    | inl is ↦ inl (subst (Contains (rows_in (x ∷ es))) is (first_has (row_in x) (rows_in es)))
    | inr later ↦ elim (push_from es e row later) as (λ _. Contains (rows_in (x ∷ es)) row ⊎ (row_in e ≡ row)) [ inl k ↦ inl (later_has (row_in x) (rows_in es) row k) | inr is ↦ inr is ]
  ]

  any_pushed : (P : KeptRow S M → Type 0) (es : List (S × Proved M)) (e : S × Proved M) → Any P (rows_in es) → Any P (rows_in (es ++ e ∷ []))
  any_pushed P [] e any = absurd (omega (arith, any.2))
  any_pushed P (x ∷ es) e any = elim (any_cases P (row_in x) (rows_in es) any) as (λ _. Any P (rows_in ((x ∷ es) ++ e ∷ []))) [
    | inl here ↦ any_here P (row_in x) (rows_in (es ++ e ∷ [])) here
    | inr later ↦ any_later P (row_in x) (rows_in (es ++ e ∷ [])) (any_pushed P es e later)
  ]

  pub push_grows : (es : List (S × Proved M)) (e : S × Proved M) (s : S) (bound : Bound) → HasBound (rows_in es) s bound → HasBound (rows_in (es ++ e ∷ [])) s bound
  push_grows es e s bound has = any_pushed (λ row. (row.state ≡ s) × IsAtMost bound row.bound) es e has

  push_any : (P : KeptRow S M → Type 0) (es : List (S × Proved M)) (e : S × Proved M) → P (row_in e) → Any P (rows_in (es ++ e ∷ []))
  push_any P [] e p = any_here P (row_in e) [] p
  push_any P (x ∷ es) e p = any_later P (row_in x) (rows_in (es ++ e ∷ [])) (push_any P es e p)

  pub push_has : (es : List (S × Proved M)) (s : S) (v : Proved M) → HasBound (rows_in (es ++ (s, v) ∷ [])) s v.bound
  push_has es s v = push_any (λ row. (row.state ≡ s) × IsAtMost v.bound row.bound) es (s, v) (refl, at_most_itself v.bound)

  -- a better bound in place
  pub set_from : (es : List (S × Proved M)) (i : ℕ) (w : Proved M) (s : S) (v : Proved M) → slice_get es i ≡ Some (s, v) → (row : KeptRow S M) → Contains (rows_in (set_value_at es i w)) row
      → Contains (rows_in es) row ⊎ (row_in (s, w) ≡ row)
  set_from [] i w s v at row there = absurd (none-some (s, v) at)
  set_from (x ∷ es) zero w s v at row there = elim (first_or_later (row_in (x.0, w)) (rows_in es) row there) as (λ _. Contains (rows_in (x ∷ es)) row ⊎ (row_in (s, w) ≡ row)) [
    | inl is ↦ inr (ap (λ (f : S × Proved M). row_in (f.0, w)) (sym (same_Some x (s, v) at)) ∙ is)
    | inr later ↦ inl (later_has (row_in x) (rows_in es) row later)
  ]
  set_from (x ∷ es) (suc i) w s v at row there = elim (first_or_later (row_in x) (rows_in (set_value_at es i w)) row there) as (λ _. Contains (rows_in (x ∷ es)) row ⊎ (row_in (s, w) ≡ row)) [
    | inl is ↦ inl (subst (Contains (rows_in (x ∷ es))) is (first_has (row_in x) (rows_in es)))
    | inr later ↦ elim (set_from es i w s v at row later) as (λ _. Contains (rows_in (x ∷ es)) row ⊎ (row_in (s, w) ≡ row)) [ inl k ↦ inl (later_has (row_in x) (rows_in es) row k) | inr is ↦ inr is ]
  ]

  pub set_grows : (es : List (S × Proved M)) (i : ℕ) (w : Proved M) (s : S) (v : Proved M) → slice_get es i ≡ Some (s, v) → IsAtMost v.bound w.bound → (t : S) (bound : Bound) → HasBound (rows_in es) t bound
      → HasBound (rows_in (set_value_at es i w)) t bound
  set_grows [] i w s v at better t bound has = absurd (none-some (s, v) at)
  set_grows (x ∷ es) zero w s v at better t bound has =
      let P : KeptRow S M → Type 0 = λ row. (row.state ≡ t) × IsAtMost bound row.bound in
      let same : x ≡ (s, v) = same_Some x (s, v) at in
      let more : IsAtMost x.1.bound w.bound = subst (λ (f : S × Proved M). IsAtMost f.1.bound w.bound) (sym same) better in
      elim (any_cases P (row_in x) (rows_in es) has) as (λ _. Any P (rows_in ((x.0, w) ∷ es))) [
        | inl here ↦ any_here P (row_in (x.0, w)) (rows_in es) (here.0, at_most_along bound x.1.bound w.bound here.1 more)
        | inr later ↦ any_later P (row_in (x.0, w)) (rows_in es) later
      ]
  set_grows (x ∷ es) (suc i) w s v at better t bound has =
      let P : KeptRow S M → Type 0 = λ row. (row.state ≡ t) × IsAtMost bound row.bound in
      elim (any_cases P (row_in x) (rows_in es) has) as (λ _. Any P (row_in x ∷ rows_in (set_value_at es i w))) [
        | inl here ↦ any_here P (row_in x) (rows_in (set_value_at es i w)) here
        | inr later ↦ any_later P (row_in x) (rows_in (set_value_at es i w)) (set_grows es i w s v at better t bound later)
      ]

  pub set_at : (es : List (S × Proved M)) (i : ℕ) (w : Proved M) (s : S) (v : Proved M) → slice_get es i ≡ Some (s, v) → slice_get (set_value_at es i w) i ≡ Some (s, w)
  set_at [] i w s v at = absurd (none-some (s, v) at)
  set_at (x ∷ es) zero w s v at = ap (λ (f : S × Proved M). Some (f.0, w)) (same_Some x (s, v) at)
  set_at (x ∷ es) (suc i) w s v at = set_at es i w s v at

  -- a value that was set to what it was
  pub set_same : (es : List (S × Proved M)) (i : ℕ) (s : S) (v : Proved M) → slice_get es i ≡ Some (s, v) → set_value_at es i v ≡ es
  set_same [] i s v at = refl
  set_same (x ∷ es) zero s v at = let same : v ≡ x.1 = ap (λ (f : S × Proved M). f.1) (sym (same_Some x (s, v) at)) in ap (λ (u : Proved M). (x.0, u) ∷ es) same
  set_same (x ∷ es) (suc i) s v at = ap (λ ys. x ∷ ys) (set_same es i s v at)

  -- an entry by its value
  value_at : (es : List (S × Proved M)) (i : ℕ) (v : Proved M) → slice_get (values_of es) i ≡ Some v → (k : S) × (slice_get es i ≡ Some (k, v))
  value_at [] i v at = absurd (none-some v at)
  value_at (e ∷ es) zero v at = (e.0, let same : e.1 ≡ v = same_Some e.1 v at in ap (λ (w : Proved M). Some (e.0, w)) same)
  value_at (e ∷ es) (suc i) v at = value_at es i v at

  key_at : (es : List (S × Proved M)) (i : ℕ) (k : S) (v : Proved M) (d : S) → slice_get es i ≡ Some (k, v) → get_or (keys_of es) i d ≡ k
  key_at [] i k v d at = absurd (none-some (k, v) at)
  key_at (e ∷ es) zero k v d at = ap (λ (f : S × Proved M). f.0) (same_Some e (k, v) at)
  key_at (e ∷ es) (suc i) k v d at = key_at es i k v d at

  module _ (eq : S → S → Bool) (decides : (a b : S) → Decides (eq a b) (a ≡ b)) where
    -- the entry that a look-up of a place finds
    pub entry_by : (es : List (S × Proved M)) (s : S) (i : ℕ) (v : Proved M) → slice_get (values_of es) i ≡ Some v → position (eq s) (keys_of es) ≡ Some i → slice_get es i ≡ Some (s, v)
    entry_by es s i v at place =
        let here = value_at es i v at in
        let p = position-Some (eq s) (keys_of es) i s place in
        let is : here.0 ≡ s = sym (key_at es i here.0 v s here.1) ∙ sym ((decides s (get_or (keys_of es) i s)).0 p.1) in
        subst (λ (k : S). slice_get es i ≡ Some (k, v)) is here.1

    -- a look-up that hits
    pub found_has : (es : List (S × Proved M)) (s : S) (v : Proved M) → lookup (eq s) es ≡ Some v → HasBound (rows_in es) s v.bound
    found_has es s v hit =
        let p = place_from_lookup (eq s) es v hit in
        let is : p.1 ≡ s = sym ((decides s p.1).0 p.3) in
        has_at es p.0 s v (subst (λ (k : S). slice_get es p.0 ≡ Some (k, v)) is p.2)

    pub known_has : (es : List (S × Proved M)) (s : S) → is_some (lookup (eq s) es) ≡ true → HasBound (rows_in es) s (Steps 0)
    known_has es s some = by (lookup (eq s) es) refl some
      where
        by : (o : Option (Proved M)) → lookup (eq s) es ≡ o → is_some o ≡ true → HasBound (rows_in es) s (Steps 0)
        by None is h = absurd (true≢false (sym h))
        by (Some v) is h = has_lower (rows_in es) s (Steps 0) v.bound (at_most_any v.bound) (found_has es s v is)

    -- one that misses
    pub missed : (es : List (S × Proved M)) (s : S) (bound : Bound) → is_some (lookup (eq s) es) ≡ false → HasBound (rows_in es) s bound → ⊥
    missed [] s bound none has = omega (arith, has.2)
    missed (e ∷ es) s bound none has = by (eq s e.0) refl none (missed es s bound) (any_cases (λ row. (row.state ≡ s) × IsAtMost bound row.bound) (row_in e) (rows_in es) has)
      where
        by : (b : Bool) → eq s e.0 ≡ b → is_some (cond b (Some e.1) (lookup (eq s) es)) ≡ false → (is_some (lookup (eq s) es) ≡ false → HasBound (rows_in es) s bound → ⊥) → ((e.0 ≡ s) × IsAtMost bound e.1.bound) ⊎ HasBound (rows_in es) s bound → ⊥
        by true is h more either = true≢false h
        by false is h more (inl here) = true≢false (sym ((decides s e.0).1 (sym here.0)) ∙ is)
        by false is h more (inr later) = more h later

pub none_of : {X : Type 0} (o : Option X) → is_some o ≡ false → o ≡ None
none_of None h = refl
none_of (Some x) h = absurd (true≢false h)

append_none : {X : Type 0} (xs ys : List X) → length ys ≡ 0 → xs ++ ys ≡ xs
append_none [] [] none = refl
append_none [] (y ∷ ys) none = absurd (omega (arith, none))
append_none (x ∷ xs) ys none = ap (λ zs. x ∷ zs) (append_none xs ys none)

-- what is known after some of the rows' states were entered
pub record AreEntered {S M : Type 0} (old now rows done : List (KeptRow S M)) : Type 0 where
  pub made : (row : KeptRow S M) → Contains now row → Contains old row ⊎ Any (λ kept. bare_row kept.state ≡ row) rows
  pub grows : (s : S) (bound : Bound) → HasBound old s bound → HasBound now s bound
  pub entered : All (λ row. HasBound now row.state (Steps 0)) done

-- what is known after some of the rows were taken
pub record AreRaised {S M : Type 0} (old now rows done : List (KeptRow S M)) : Type 0 where
  pub made : (row : KeptRow S M) → Contains now row → Contains old row ⊎ Contains rows row
  pub grows : (s : S) (bound : Bound) → HasBound old s bound → HasBound now s bound
  pub held : All (λ row. HasBound now row.state row.bound) done

module _ {S M : Type 0} where
  pub entered_made : (old now next rows : List (KeptRow S M)) (r : KeptRow S M) → ((row : KeptRow S M) → Contains now row → Contains old row ⊎ Any (λ kept. bare_row kept.state ≡ row) rows)
      → ((row : KeptRow S M) → Contains next row → Contains now row ⊎ (bare_row r.state ≡ row)) → Contains rows r
      → (row : KeptRow S M) → Contains next row → Contains old row ⊎ Any (λ kept. bare_row kept.state ≡ row) rows
  entered_made old now next rows r made step there row has = elim (step row has) as (λ _. Contains old row ⊎ Any (λ kept. bare_row kept.state ≡ row) rows) [
    | inl before ↦ made row before
    | inr is ↦ inr (any_of (λ kept. bare_row kept.state ≡ row) rows r there is)
  ]

  pub entered_more : (old now next rows done : List (KeptRow S M)) (r : KeptRow S M) → AreEntered old now rows done
      → ((row : KeptRow S M) → Contains next row → Contains now row ⊎ (bare_row r.state ≡ row)) → ((s : S) (bound : Bound) → HasBound now s bound → HasBound next s bound)
      → HasBound next r.state (Steps 0) → Contains rows r → AreEntered old next rows (done ++ r ∷ [])
  entered_more old now next rows done r known made grows entered there = record {
    made = entered_made old now next rows r known.made made there;
    grows = λ s bound has. grows s bound (known.grows s bound has);
    entered = All-push (λ row. HasBound next row.state (Steps 0)) done r (λ k d within. grows (get_or done k d).state (Steps 0) (known.entered k d within)) entered;
  }

  pub raised_more : (old now next rows done : List (KeptRow S M)) (r : KeptRow S M) → AreRaised old now rows done
      → ((row : KeptRow S M) → Contains next row → Contains now row ⊎ (r ≡ row)) → ((s : S) (bound : Bound) → HasBound now s bound → HasBound next s bound)
      → HasBound next r.state r.bound → Contains rows r → AreRaised old next rows (done ++ r ∷ [])
  raised_more old now next rows done r known made grows held there = record {
    made = λ row has. elim (made row has) as (λ _. Contains old row ⊎ Contains rows row) [ inl before ↦ known.made row before | inr is ↦ inr (subst (Contains rows) is there) ];
    grows = λ s bound has. grows s bound (known.grows s bound has);
    held = All-push (λ row. HasBound next row.state row.bound) done r (λ k d within. grows (get_or done k d).state (get_or done k d).bound (known.held k d within)) held;
  }

-- what is known while the rows are taken
pub record AreTaken {S M : Type 0} (old now rows rest : List (KeptRow S M)) : Type 0 where
  pub done : List (KeptRow S M)
  pub whole : done ++ rest ≡ rows
  pub known : AreRaised old now rows done

module _ {S M : Type 0} where
  pub taken_none : (now rows : List (KeptRow S M)) → AreTaken now now rows rows
  taken_none now rows = record {
    done = [];
    whole = refl;
    known = record { made = λ row there. inl there; grows = λ s bound has. has; held = All-nil (λ row. HasBound now row.state row.bound) };
  }

  -- the row that comes next is one of them
  pub next_is : (old now rows rest more : List (KeptRow S M)) (r : KeptRow S M) → AreTaken old now rows rest → rest ≡ r ∷ more → Contains rows r
  next_is old now rows rest more r taken next =
      let P : List (KeptRow S M) → Type 0 = λ ys. Contains ys r in
      let Q : List (KeptRow S M) → Type 0 = λ ys. Contains (taken.done ++ ys) r in
      subst P taken.whole (subst Q (sym next) (Contains-append_right taken.done (r ∷ more) r (first_has r more)))

  -- what grows keeps that each row's state is there
  pub next_entered : (old now rows rest more : List (KeptRow S M)) (r : KeptRow S M) → All (λ row. HasBound old row.state (Steps 0)) rows → AreTaken old now rows rest → rest ≡ r ∷ more
      → HasBound now r.state (Steps 0)
  next_entered old now rows rest more r entered taken next =
      taken.known.grows r.state (Steps 0) (all_of (λ row. HasBound old row.state (Steps 0)) rows r entered (next_is old now rows rest more r taken next))

  pub taken_more : (old now after rows rest more : List (KeptRow S M)) (r : KeptRow S M) → AreTaken old now rows rest → rest ≡ r ∷ more
      → ((row : KeptRow S M) → Contains after row → Contains now row ⊎ (r ≡ row)) → ((s : S) (bound : Bound) → HasBound now s bound → HasBound after s bound)
      → HasBound after r.state r.bound → AreTaken old after rows more
  taken_more old now after rows rest more r taken next made grows held = record {
    done = taken.done ++ r ∷ [];
    whole = append_assoc taken.done (r ∷ []) more ∙ ap (λ ys. taken.done ++ ys) (sym next) ∙ taken.whole;
    known = raised_more old now after rows taken.done r taken.known made grows held (next_is old now rows rest more r taken next);
  }

  pub all_taken : (old now rows rest : List (KeptRow S M)) → AreTaken old now rows rest → length rest ≡ 0 → All (λ row. HasBound now row.state row.bound) rows
  all_taken old now rows rest taken none =
      let P : List (KeptRow S M) → Type 0 = λ ys. All (λ row. HasBound now row.state row.bound) ys in
      subst P (sym (append_none taken.done rest none) ∙ taken.whole) taken.known.held

  -- both passes
  pub both_from : (old now after rows : List (KeptRow S M)) → ((row : KeptRow S M) → Contains now row → Contains old row ⊎ Any (λ kept. bare_row kept.state ≡ row) rows)
      → ((row : KeptRow S M) → Contains after row → Contains now row ⊎ Contains rows row) → HasAll rows after → AreFrom old rows after
  both_from old now after rows entered raised held row has = elim (raised row has) as (λ _. Contains old row ⊎ (Any (λ kept. bare_row kept.state ≡ row) rows ⊎ (Contains rows row × HasAll rows after))) [
    | inl before ↦ elim (entered row before) as (λ _. Contains old row ⊎ (Any (λ kept. bare_row kept.state ≡ row) rows ⊎ (Contains rows row × HasAll rows after))) [ inl first ↦ inl first | inr bare ↦ inr (inl bare) ]
    | inr taken ↦ inr (inr (taken, held))
  ]

  pub bare_from : (old now rows : List (KeptRow S M)) → ((row : KeptRow S M) → Contains now row → Contains old row ⊎ Any (λ kept. bare_row kept.state ≡ row) rows) → AreFrom old rows now
  bare_from old now rows entered row has = elim (entered row has) as (λ _. Contains old row ⊎ (Any (λ kept. bare_row kept.state ≡ row) rows ⊎ (Contains rows row × HasAll rows now))) [ inl first ↦ inl first | inr bare ↦ inr (inl bare) ]

  -- each row's bound is had
  pub all_had : (now rows : List (KeptRow S M)) → All (λ row. HasBound now row.state row.bound) rows → (s : S) (bound : Bound) → HasBound rows s bound → HasBound now s bound
  all_had now rows held s bound (k, row, within, at, (is, less)) =
      let P : KeptRow S M → Type 0 = λ r. HasBound now r.state r.bound in
      let here : HasBound now row.state row.bound = subst P at (held k row within) in
      has_lower now s bound row.bound less (subst (λ t. HasBound now t row.bound) is here)

  -- what holds of the old states and of the rows' states holds of the new ones
  pub states_kept : (P : S → Type 0) (old rows new : List (KeptRow S M)) → AreFrom old rows new → All (λ row. P row.state) old → All (λ row. P row.state) rows → All (λ row. P row.state) new
  states_kept P old rows new from all_old all_rows k d within =
      elim (from (get_or new k d) (there new k d within)) as (λ _. P (get_or new k d).state) [
        | inl before ↦ all_of (λ row. P row.state) old (get_or new k d) all_old before
        | inr added ↦ elim added as (λ _. P (get_or new k d).state) [
          | inl bare ↦
              let same : bare.1.state ≡ (get_or new k d).state = ap (λ (r : KeptRow S M). r.state) bare.4 in
              subst P same (all_of (λ row. P row.state) rows bare.1 all_rows (bare.0, bare.2, bare.3))
          | inr taken ↦ all_of (λ row. P row.state) rows (get_or new k d) all_rows taken.0
        ]
      ]

  -- the rows stay refuted
  module _ (next : Successors S) (is_done : S → Bool) (shows : S → M → Bound → Type 0) where
    never_row : (rows : List (KeptRow S M)) (s : S) → HasBound rows s Never → HasNeverRow rows s
    never_row rows s has = any_weaker (λ row. (row.state ≡ s) × IsAtMost Never row.bound) (λ row. (row.state ≡ s) × (row.bound ≡ Never)) rows (λ row h. (h.0, top row.bound h.1)) has
      where
        top : (b : Bound) → IsAtMost Never b → b ≡ Never
        top (Steps n) h = absurd h
        top Never h = refl

    has_never : (rows : List (KeptRow S M)) (s : S) → HasNeverRow rows s → HasBound rows s Never
    has_never rows s has = any_weaker (λ row. (row.state ≡ s) × (row.bound ≡ Never)) (λ row. (row.state ≡ s) × IsAtMost Never row.bound) rows (λ row h. (h.0, subst (IsAtMost Never) (sym h.1) tt)) has

    number_row : (rows : List (KeptRow S M)) (s : S) (n : ℕ) → HasBound rows s (Steps n) → HasRow rows s n
    number_row rows s n has = any_weaker (λ row. (row.state ≡ s) × IsAtMost (Steps n) row.bound) (λ row. (row.state ≡ s) × IsAtLeast row.bound n) rows (λ row h. (h.0, up row.bound h.1)) has
      where
        up : (b : Bound) → IsAtMost (Steps n) b → IsAtLeast b n
        up (Steps m) h = h
        up Never h = tt

    has_number : (rows : List (KeptRow S M)) (s : S) (n : ℕ) → HasRow rows s n → HasBound rows s (Steps n)
    has_number rows s n has = any_weaker (λ row. (row.state ≡ s) × IsAtLeast row.bound n) (λ row. (row.state ≡ s) × IsAtMost (Steps n) row.bound) rows (λ row h. (h.0, up row.bound h.1)) has
      where
        up : (b : Bound) → IsAtLeast b n → IsAtMost (Steps n) b
        up (Steps m) h = h
        up Never h = tt

    steps_grow : (old new : List (KeptRow S M)) → ((s : S) (bound : Bound) → HasBound old s bound → HasBound new s bound) → (s : S) (bound : Bound) → IsRefutedBySteps next old s bound → IsRefutedBySteps next new s bound
    steps_grow old new grows s (Steps zero) h = tt
    steps_grow old new grows s (Steps (suc n)) h = λ k d within. number_row new (get_or (next s) k d).1 n (grows (get_or (next s) k d).1 (Steps n) (has_number old (get_or (next s) k d).1 n (h k d within)))
    steps_grow old new grows s Never h = λ k d within. never_row new (get_or (next s) k d).1 (grows (get_or (next s) k d).1 Never (has_never old (get_or (next s) k d).1 (h k d within)))

    refuted_grows : (old new : List (KeptRow S M)) → ((s : S) (bound : Bound) → HasBound old s bound → HasBound new s bound) → (row : KeptRow S M) → IsRefuted next is_done shows old row → IsRefuted next is_done shows new row
    refuted_grows old new grows row h = record { not_done = h.not_done; why = by row.mark h.why }
      where
        by : (mark : Option M) → MatchOption mark (IsRefutedBySteps next old row.state row.bound) (λ m. IsRefutedByMark (shows row.state) m row.bound)
            → MatchOption mark (IsRefutedBySteps next new row.state row.bound) (λ m. IsRefutedByMark (shows row.state) m row.bound)
        by None why = steps_grow old new grows row.state row.bound why
        by (Some m) why = why

    bare_refuted : (new : List (KeptRow S M)) (s : S) → is_done s ≡ false → IsRefuted next is_done shows new (bare_row s)
    bare_refuted new s not_done = record { not_done = not_done; why = tt }

    pub refuted_kept : (old rows new : List (KeptRow S M)) → AreFrom old rows new → HasAll old new → AreRefuted next is_done shows old → AreRefuted next is_done shows rows → AreRefuted next is_done shows new
    refuted_kept old rows new from grows all_old all_rows k d within =
        elim (from (get_or new k d) (there new k d within)) as (λ _. IsRefuted next is_done shows new (get_or new k d)) [
          | inl before ↦ refuted_grows old new grows (get_or new k d) (all_of (IsRefuted next is_done shows old) old (get_or new k d) all_old before)
          | inr added ↦ elim added as (λ _. IsRefuted next is_done shows new (get_or new k d)) [
            | inl bare ↦
                let why = all_of (IsRefuted next is_done shows rows) rows bare.1 all_rows (bare.0, bare.2, bare.3) in
                subst (IsRefuted next is_done shows new) bare.4 (bare_refuted new bare.1.state why.not_done)
            | inr taken ↦ refuted_grows rows new taken.1 (get_or new k d) (all_of (IsRefuted next is_done shows rows) rows (get_or new k d) all_rows taken.0)
          ]
        ]
