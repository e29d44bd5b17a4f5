-- The best bound of each state that has a row, and what it tells of successors and rows.
use Rattle.std.proofs.Common.{◌≡◌, ℕ, zero, suc, ◌-◌, Bool, List, [], ◌∷◌, ◌++◌, refl, sym, ◌∙◌, ap, subst, arith, Some, None}
use Rattle.std.specs.Prelude.{◌↔◌, IsTrue, All, Any, Contains}
use Rattle.std.proofs.lemmas.List.Elements.{All-nil, All-weaker, All-push, All-contains}
use Rattle.std.proofs.lemmas.List.Quantifiers.{Any-push}
use Rattle.std.proofs.lemmas.Option.{same_Some}
use Rattle.indexmap.specs.IndexMap.{insert_entry}
use Rattle.grd_base.specs.declared.bits.Bits.{Bits}
use Rattle.grd_base.specs.Bits.{members, IsWhole}
use Rattle.grd_base.specs.declared.ids.ActionId.{ActionId}
use Rattle.grd_base.specs.declared.limits.Bound.{Bound}
use Rattle.grd_base.specs.declared.limits.Bound.TheVariants.{Steps}
use Rattle.strips_model.specs.Plans.{State, set_of, step, step_without}
use Rattle.strips_model.specs.Moves.{allowed_of}
use Rattle.strips_model.specs.Values.{PlainTask}
use Rattle.strips_model.proofs.MoveLemmas.{allowed_step, step_allowed}
use Rattle.grd_base.proofs.SameLemmas.{bits_eq, bits_eq-Decides, same_by_members}
use Rattle.cost_certificate.specs.Rows.{PlainRow}
use Rattle.cost_certificate.specs.Tables.{IsAtMost, HasRow, SuccessorsHave, StepsHold, RowsHold}
use Rattle.cost_certificate.specs.declared.rows.Why.TheVariants.{Steps as BySteps}
use Rattle.cost_certificate.specs.Seen.{AreBest}
use Rattle.cost_certificate.proofs.OrderLemmas.{at_most_itself, at_most_along, at_most_other}
use Rattle.cost_certificate.proofs.EntryLemmas.{Any-weaker, Any-append_left, Any-contains, All-insert_entry, Any-inserted, Any-insert_entry}

-- a state with a row has it among more rows
pub has_row_more : (before : List PlainRow) (row : PlainRow) (s : State) (b : Bound) → HasRow before s b → HasRow (before ++ row ∷ []) s b
has_row_more before row s b has = Any-append_left (λ r. (set_of r.state ≡ s) × IsAtMost b r.bound) before (row ∷ []) has

module _ {W : ℕ} (entries : List (Bits W × Bound)) (before : List PlainRow) (row : PlainRow) (s : Bits W) (is : members s ≡ set_of row.state) (best : AreBest before entries) where
  -- some row of the entry's state is as high
  abbrev Shows : List PlainRow → Bits W × Bound → Type 0
  Shows rows e = HasRow rows (members e.0) e.1

  -- the entry is of the row's state, and as high
  abbrev HasBest : PlainRow → Bits W × Bound → Type 0
  HasBest r e = (members e.0 ≡ set_of r.state) × IsAtMost r.bound e.1

  -- what the rows before show, all rows show
  shown_more : All (Shows (before ++ row ∷ [])) entries
  shown_more = All-weaker (Shows before) (Shows (before ++ row ∷ [])) (λ e has. has_row_more before row (members e.0) e.1 has) entries best.shown

  -- a row whose state has a bound that is as high leaves the entries as they are
  pub best_known : Any (λ e. (e.0 ≡ s) × IsAtMost row.bound e.1) entries → AreBest (before ++ row ∷ []) entries
  best_known known = record {
    whole = best.whole;
    shown = shown_more;
    best = All-push (λ r. Any (HasBest r) entries) before row best.best
        (Any-weaker (λ e. (e.0 ≡ s) × IsAtMost row.bound e.1) (HasBest row) entries (λ e h. (ap (λ (x : Bits W). members x) h.0 ∙ is, h.1)) known);
  }

  -- the bound of any other row takes the place of its state's
  pub best_more : IsWhole s → (Any (λ e. (e.0 ≡ s) × IsAtMost row.bound e.1) entries → ⊥) → AreBest (before ++ row ∷ []) (insert_entry bits_eq entries s row.bound)
  best_more whole fresh = record {
    whole = All-insert_entry bits_eq bits_eq-Decides s row.bound (λ e. IsWhole e.0) entries best.whole whole;
    shown = All-insert_entry bits_eq bits_eq-Decides s row.bound (Shows (before ++ row ∷ [])) entries shown_more
        (Any-push (λ r. (set_of r.state ≡ members s) × IsAtMost row.bound r.bound) before row (sym is, at_most_itself row.bound));
    best = All-push (λ r. Any (HasBest r) (insert_entry bits_eq entries s row.bound)) before row
        (All-weaker (λ r. Any (HasBest r) entries) (λ r. Any (HasBest r) (insert_entry bits_eq entries s row.bound)) kept before best.best)
        (Any-inserted bits_eq bits_eq-Decides s row.bound (HasBest row) entries (is, at_most_itself row.bound));
  }
    where
      lower : (e : Bits W × Bound) → Contains entries e → e.0 ≡ s → IsAtMost e.1 row.bound
      lower e there same = at_most_other row.bound e.1 (λ high. fresh (Any-contains (λ x. (x.0 ≡ s) × IsAtMost row.bound x.1) entries e there (same, high)))

      kept : (r : PlainRow) → Any (HasBest r) entries → Any (HasBest r) (insert_entry bits_eq entries s row.bound)
      kept r some =
          Any-insert_entry bits_eq bits_eq-Decides s row.bound (λ e. HasBest r e × Contains entries e) (HasBest r) entries
          (λ e h. h.0)
          (λ e same h. (ap (λ (x : Bits W). members x) (sym same) ∙ h.0.0, at_most_along r.bound e.1 row.bound h.0.1 (lower e h.1 same)))
          (some.0, some.1, some.2, some.3, (some.4, (some.0, some.2, some.3)))

-- an entry of the state is as high as is needed exactly where a row of it is
pub best_tells : {W : ℕ} (rows : List PlainRow) (entries : List (Bits W × Bound)) (s : Bits W) (need : Bound) → IsWhole s → AreBest rows entries
    → Any (λ e. (e.0 ≡ s) × IsAtMost need e.1) entries ↔ HasRow rows (members s) need
best_tells {W} rows entries s need whole best = (to, from)
  where
    to : Any (λ e. (e.0 ≡ s) × IsAtMost need e.1) entries → HasRow rows (members s) need
    to (i, e, within, at, (same, high)) =
        let has : HasRow rows (members e.0) e.1 = All-contains (λ (x : Bits W × Bound). HasRow rows (members x.0) x.1) entries e best.shown (i, within, at) in
        Any-weaker (λ r. (set_of r.state ≡ members e.0) × IsAtMost e.1 r.bound) (λ r. (set_of r.state ≡ members s) × IsAtMost need r.bound) rows
        (λ r h. (h.0 ∙ ap (λ (x : Bits W). members x) same, at_most_along need e.1 r.bound high h.1)) has

    from : HasRow rows (members s) need → Any (λ e. (e.0 ≡ s) × IsAtMost need e.1) entries
    from (i, row, within, at, (same, high)) =
        let some : Any (λ (e : Bits W × Bound). (members e.0 ≡ set_of row.state) × IsAtMost row.bound e.1) entries =
        All-contains (λ (r : PlainRow). Any (λ (e : Bits W × Bound). (members e.0 ≡ set_of r.state) × IsAtMost r.bound e.1) entries) rows row best.best (i, within, at) in
        let e = some.1 in
        let whole_e : IsWhole e.0 = All-contains (λ (x : Bits W × Bound). IsWhole x.0) entries e best.whole (some.0, some.2, some.3) in
        (some.0, e, some.2, some.3, (same_by_members e.0 s whole_e whole (some.4.0 ∙ same), at_most_along need row.bound e.1 high some.4.1))

-- no rows and no entries
pub best_none : {W : ℕ} (entries : List (Bits W × Bound)) → entries ≡ [] → AreBest [] entries
best_none {W} entries none = subst (AreBest []) (sym none) (record {
  whole = All-nil (λ (e : Bits W × Bound). IsWhole e.0);
  shown = All-nil (λ (e : Bits W × Bound). HasRow [] (members e.0) e.1);
  best = All-nil (λ (r : PlainRow). Any (λ (e : Bits W × Bound). (members e.0 ≡ set_of r.state) × IsAtMost r.bound e.1) []);
})

module _ (t : PlainTask) (removed : List ActionId) where
  -- the step by the action, where there is one, leads to a state with a row
  abbrev pub HasNext : List PlainRow → State → Bound → ActionId → Type 0
  HasNext rows s need a = (u : State) → step_without t removed s a ≡ Some u → HasRow rows u need

  -- what the entries tell of the step by an allowed action
  pub next_tells : {W : ℕ} (rows : List PlainRow) (entries : List (Bits W × Bound)) (need : Bound) (s : State) (a : ActionId) → Contains (allowed_of t removed) a
      → (next : Bits W) → Some (members next) ≡ step t s a → IsWhole next → (b : Bool) → (IsTrue b ↔ Any (λ e. (e.0 ≡ next) × IsAtMost need e.1) entries) → AreBest rows entries
      → IsTrue b ↔ HasNext rows s need a
  next_tells rows entries need s a allowed next leads whole b tells best =
      let is : step_without t removed s a ≡ Some (members next) = allowed_step t removed a allowed s ∙ sym leads in
      let has = best_tells rows entries next need whole best in (
        λ holds u there. subst (λ v. HasRow rows v need) (same_Some (members next) u (sym is ∙ there)) (has.0 (tells.0 holds)),
        λ all. tells.1 (has.1 (all (members next) is)),
      )

  -- an action that does not apply leads nowhere
  pub no_next : (rows : List PlainRow) (need : Bound) (s : State) (a : ActionId) → Contains (allowed_of t removed) a → None ≡ step t s a → HasNext rows s need a
  no_next rows need s a allowed stuck u there =
      let e : None ≡ Some u = stuck ∙ sym (allowed_step t removed a allowed s) ∙ there in cc

  -- all successors are by allowed actions
  pub all_next : (rows : List PlainRow) (need : Bound) (s : State) → All (HasNext rows s need) (allowed_of t removed) → SuccessorsHave t removed rows s need
  all_next rows need s all a u there = All-contains (HasNext rows s need) (allowed_of t removed) a all (step_allowed t removed s a u there) u there

-- for some steps the successors need one less
pub steps_needed : (t : PlainTask) (removed : List ActionId) (rows : List PlainRow) (s : State) (bound : Bound) (r : ℕ) → bound ≡ Steps r → (r ≡ 0 → ⊥) → (b : Bool)
    → (IsTrue b ↔ SuccessorsHave t removed rows s (Steps (r - 1))) → IsTrue b ↔ StepsHold t removed rows s bound
steps_needed t removed rows s bound zero is some b tells = absurd (some refl)
steps_needed t removed rows s bound (suc r) is some b tells =
    let one_less : suc r - 1 ≡ r = omega arith in
    subst (λ x. IsTrue b ↔ StepsHold t removed rows s x) (sym is) (subst (λ n. IsTrue b ↔ SuccessorsHave t removed rows s (Steps n)) one_less tells)

-- what a row by steps needs
pub needed_by_steps : (t : PlainTask) (removed : List ActionId) (rows : List PlainRow) (row : PlainRow) (s : State) → row.why ≡ BySteps → s ≡ set_of row.state → (b : Bool)
    → (IsTrue b ↔ StepsHold t removed rows s row.bound) → IsTrue b ↔ RowsHold t removed rows row row.why
needed_by_steps t removed rows row s by_steps same b tells =
    subst (λ w. IsTrue b ↔ RowsHold t removed rows row w) (sym by_steps) (subst (λ u. IsTrue b ↔ StepsHold t removed rows u row.bound) same tells)

-- the row has what it needs of the others
abbrev pub HasNeeds : PlainTask → List ActionId → List PlainRow → PlainRow → Type 0
HasNeeds t removed rows r = RowsHold t removed rows r r.why
