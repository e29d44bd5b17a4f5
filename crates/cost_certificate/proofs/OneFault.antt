-- A table has at most one first fault, and a valid one has none.
use Rattle.std.proofs.Common.{◌≡◌, ℕ, ◌⊎◌, true, false, List, ◌∷◌, ◌++◌, length, refl, sym, ◌∙◌, ap, subst, inl, inr, Option, Some, None, Result, Ok, Err}
use Rattle.std.specs.Prelude.{All, IsErr, IfOk, IfSome, IfNone}
use Rattle.std.proofs.lemmas.Bool.{false≢true}
use Rattle.grd_base.specs.declared.ids.AtomId.{AtomId}
use Rattle.grd_base.specs.declared.ids.ActionId.{ActionId}
use Rattle.grd_base.specs.declared.ids.GoalId.{GoalId}
use Rattle.grd_base.specs.declared.limits.Bound.{Bound}
use Rattle.grd_base.specs.Sets.{IsSubset}
use Rattle.strips_model.specs.Values.{PlainTask}
use Rattle.strips_model.specs.Plans.{State, set_of, goal_holds}
use Rattle.strips_model.specs.Cuts.{AreApart, IsFamily}
use Rattle.cost_certificate.specs.declared.kinds.CheckKind.{CheckKind}
use Rattle.cost_certificate.specs.declared.kinds.CheckKind.TheVariants.{RowGoalHolds, CutMissesState, CutHoldsGoal, CutsMeet, TooFewCuts, RowSuccessor}
use Rattle.cost_certificate.specs.declared.kinds.TableFault.{TableFault}
use Rattle.cost_certificate.specs.declared.rows.Why.{Why}
use Rattle.cost_certificate.specs.declared.rows.Why.TheVariants.{Cuts, Steps as BySteps}
use Rattle.cost_certificate.specs.Rows.{PlainRow}
use Rattle.cost_certificate.specs.Tables.{CutsSuffice, SetsHold, RowsHold, IsSoundRow, IsValidTable}
use Rattle.cost_certificate.specs.Faults.{IsFirstBad, FailsSet, IsFirstBadSet, FailsSets, FailsWhy, FailsRow, IsFaultOf, IsTableFault}
use Rattle.cost_certificate.proofs.PlaceLemmas.{all_middle, pairs_middle, one_place, none_bad, one_bad}

module _ (t : PlainTask) (g : GoalId) (removed : List ActionId) where
  -- a set that fails behind others is in no family behind them
  fails_family : (s : State) (kind : CheckKind) (before : List (List AtomId)) (u : List AtomId) (behind : List (List AtomId))
      → FailsSet t g removed s before u kind → IsFamily t g removed s (before ++ u ∷ behind) → ⊥
  fails_family s CutMissesState before u behind fails family = fails (all_middle (λ v. IsSubset s (set_of v)) before u behind family.contain)
  fails_family s CutHoldsGoal before u behind fails family =
      false≢true (sym (all_middle (λ v. goal_holds t g (set_of v) ≡ false) before u behind family.leave_open) ∙ fails.1)
  fails_family s CutsMeet before u behind fails family = fails.2 (pairs_middle (AreApart t removed) before u behind family.apart)
  fails_family s _ before u behind fails family = absurd fails

  -- a set fails one thing alone
  one_kind : (s : State) (before : List (List AtomId)) (u : List AtomId) (kind other : CheckKind)
      → FailsSet t g removed s before u kind → FailsSet t g removed s before u other → kind ≡ other
  one_kind s before u CutMissesState CutMissesState f h = refl
  one_kind s before u CutMissesState CutHoldsGoal f h = absurd (f h.0)
  one_kind s before u CutMissesState CutsMeet f h = absurd (f h.0)
  one_kind s before u CutMissesState _ f h = absurd h
  one_kind s before u CutHoldsGoal CutMissesState f h = absurd (h f.0)
  one_kind s before u CutHoldsGoal CutHoldsGoal f h = refl
  one_kind s before u CutHoldsGoal CutsMeet f h = absurd (false≢true (sym h.1 ∙ f.1))
  one_kind s before u CutHoldsGoal _ f h = absurd h
  one_kind s before u CutsMeet CutMissesState f h = absurd (h f.0)
  one_kind s before u CutsMeet CutHoldsGoal f h = absurd (false≢true (sym f.1 ∙ h.1))
  one_kind s before u CutsMeet CutsMeet f h = refl
  one_kind s before u CutsMeet _ f h = absurd h
  one_kind s before u _ other f h = absurd f

  -- a row has one first bad set
  one_bad_set : (s : State) (sets : List (List AtomId)) (kind other : CheckKind) (place elsewhere : ℕ)
      → IsFirstBadSet t g removed s sets kind place → IsFirstBadSet t g removed s sets other elsewhere → (kind ≡ other) × (place ≡ elsewhere)
  one_bad_set s sets kind other place elsewhere f h =
      let (fronts, here) = one_place (IsFamily t g removed s) (λ before u. FailsSet t g removed s before u kind) (λ before u. FailsSet t g removed s before u other)
      (fails_family s kind) (fails_family s other) f.before f.set f.behind h.before h.set h.behind (sym f.whole ∙ h.whole) f.family h.family f.fails h.fails in
      let behind_same : FailsSet t g removed s h.before f.set kind = subst (λ before. FailsSet t g removed s before f.set kind) fronts f.fails in
      let fails : FailsSet t g removed s h.before h.set kind = subst (λ u. FailsSet t g removed s h.before u kind) here behind_same in
      (one_kind s h.before h.set kind other fails h.fails, f.counted ∙ ap length fronts ∙ sym h.counted)

  -- sets with a first bad one are no family
  no_family : (s : State) (sets : List (List AtomId)) (kind : CheckKind) (place : ℕ) → IsFirstBadSet t g removed s sets kind place → IsFamily t g removed s sets → ⊥
  no_family s sets kind place f family = fails_family s kind f.before f.set f.behind f.fails (subst (IsFamily t g removed s) f.whole family)

  -- the sets are a family that is too small for the bound
  abbrev AreTooFew : State → Bound → List (List AtomId) → CheckKind → ℕ → Type 0
  AreTooFew s b sets kind place = (kind ≡ TooFewCuts) × (place ≡ 0) × IsFamily t g removed s sets × (CutsSuffice t removed sets b → ⊥)

  -- sets that fail are too few, or one of them is bad
  sets_cases : (s : State) (b : Bound) (sets : List (List AtomId)) (kind : CheckKind) (place : ℕ)
      → FailsSets t g removed s b sets kind place → AreTooFew s b sets kind place ⊎ IsFirstBadSet t g removed s sets kind place
  sets_cases s b sets TooFewCuts place f = inl (refl, f.0, f.1, f.2)
  sets_cases s b sets _ place f = inr f

  -- sets fail one thing alone, at one place
  one_sets_fault : (s : State) (b : Bound) (sets : List (List AtomId)) (kind other : CheckKind) (place elsewhere : ℕ)
      → FailsSets t g removed s b sets kind place → FailsSets t g removed s b sets other elsewhere → (kind ≡ other) × (place ≡ elsewhere)
  one_sets_fault s b sets kind other place elsewhere f h =
      elim (sets_cases s b sets kind place f) [
        | inl few ↦ elim (sets_cases s b sets other elsewhere h) [
          | inl few_too ↦ (few.0 ∙ sym few_too.0, few.1 ∙ sym few_too.1)
          | inr bad ↦ absurd (no_family s sets other elsewhere bad few.2)
        ]
        | inr bad ↦ elim (sets_cases s b sets other elsewhere h) [
          | inl few ↦ absurd (no_family s sets kind place bad few.2)
          | inr bad_too ↦ one_bad_set s sets kind other place elsewhere bad bad_too
        ]
      ]

  -- a family that suffices fails nothing
  no_sets_fault : (s : State) (b : Bound) (sets : List (List AtomId)) (kind : CheckKind) (place : ℕ)
      → FailsSets t g removed s b sets kind place → IsFamily t g removed s sets → CutsSuffice t removed sets b → ⊥
  no_sets_fault s b sets kind place f family suffice =
      elim (sets_cases s b sets kind place f) [
        | inl few ↦ few.3 suffice
        | inr bad ↦ no_family s sets kind place bad family
      ]

  -- and so does what a row stands on
  one_why_fault : (row : PlainRow) (w : Why) (kind other : CheckKind) (place elsewhere : ℕ)
      → FailsWhy t g removed row w kind place → FailsWhy t g removed row w other elsewhere → (kind ≡ other) × (place ≡ elsewhere)
  one_why_fault row (Cuts sets) kind other place elsewhere f h = one_sets_fault (set_of row.state) row.bound sets kind other place elsewhere f h
  one_why_fault row BySteps kind other place elsewhere f h = absurd f

  -- what a row stands on fails nothing where it holds
  no_why_fault : (row : PlainRow) (w : Why) (kind : CheckKind) (place : ℕ) → FailsWhy t g removed row w kind place → SetsHold t g removed row w → ⊥
  no_why_fault row (Cuts sets) kind place f hold = no_sets_fault (set_of row.state) row.bound sets kind place f hold.0 hold.1
  no_why_fault row BySteps kind place f hold = f

  -- the goal holds in the row's state, or the row fails by its sets
  row_cases : (row : PlainRow) (kind : CheckKind) (place : ℕ) → FailsRow t g removed row kind place
      → ((kind ≡ RowGoalHolds) × (place ≡ 0) × (goal_holds t g (set_of row.state) ≡ true))
      ⊎ ((goal_holds t g (set_of row.state) ≡ false) × FailsWhy t g removed row row.why kind place)
  row_cases row RowGoalHolds place f = inl (refl, f.0, f.1)
  row_cases row _ place f = inr f

  -- a row fails one thing alone
  one_row_fault : (row : PlainRow) (kind other : CheckKind) (place elsewhere : ℕ)
      → FailsRow t g removed row kind place → FailsRow t g removed row other elsewhere → (kind ≡ other) × (place ≡ elsewhere)
  one_row_fault row kind other place elsewhere f h =
      elim (row_cases row kind place f) [
        | inl holds ↦ elim (row_cases row other elsewhere h) [
          | inl holds_too ↦ (holds.0 ∙ sym holds_too.0, holds.1 ∙ sym holds_too.1)
          | inr fails ↦ absurd (false≢true (sym fails.0 ∙ holds.2))
        ]
        | inr fails ↦ elim (row_cases row other elsewhere h) [
          | inl holds ↦ absurd (false≢true (sym fails.0 ∙ holds.2))
          | inr fails_too ↦ one_why_fault row row.why kind other place elsewhere fails.1 fails_too.1
        ]
      ]

  -- a sound row fails nothing
  no_row_fault : (kind : CheckKind) (place : ℕ) (row : PlainRow) → FailsRow t g removed row kind place → IsSoundRow t g removed row → ⊥
  no_row_fault kind place row f sound =
      elim (row_cases row kind place f) [
        | inl holds ↦ false≢true (sym sound.leaves_open ∙ holds.2)
        | inr fails ↦ no_why_fault row row.why kind place fails.1 sound.sets
      ]

  module _ (rows : List PlainRow) where
    -- the row has what it needs of the others
    abbrev Holds : PlainRow → Type 0
    Holds row = RowsHold t removed rows row row.why

    -- all rows are sound, and one lacks another
    abbrev LacksRow : CheckKind → ℕ → ℕ → Type 0
    LacksRow kind row set = (kind ≡ RowSuccessor) × (set ≡ 0) × All (IsSoundRow t g removed) rows × IsFirstBad Holds (λ r. Holds r → ⊥) rows row

    -- one of the rows is not sound
    abbrev IsUnsound : CheckKind → ℕ → ℕ → Type 0
    IsUnsound kind row set = IsFirstBad (IsSoundRow t g removed) (λ r. FailsRow t g removed r kind set) rows row

    -- the two kinds of a table's fault
    fault_cases : (kind : CheckKind) (row set : ℕ) → IsFaultOf t g removed rows kind row set → LacksRow kind row set ⊎ IsUnsound kind row set
    fault_cases RowSuccessor row set f = inl (refl, f.0, f.1, f.2)
    fault_cases _ row set f = inr f

    -- where all rows are sound, none is the first that is not
    no_unsound : (kind : CheckKind) (row set : ℕ) → IsUnsound kind row set → All (IsSoundRow t g removed) rows → ⊥
    no_unsound kind row set f = none_bad (IsSoundRow t g removed) (λ r. FailsRow t g removed r kind set) (no_row_fault kind set) rows row f

    -- the first row that is not sound fails one thing alone
    one_unsound : (kind other : CheckKind) (row set place elsewhere : ℕ) → IsUnsound kind row set → IsUnsound other place elsewhere
        → (kind ≡ other) × (row ≡ place) × (set ≡ elsewhere)
    one_unsound kind other row set place elsewhere f h =
        let (counted, here) = one_bad (IsSoundRow t g removed) (λ r. FailsRow t g removed r kind set) (λ r. FailsRow t g removed r other elsewhere)
        (no_row_fault kind set) (no_row_fault other elsewhere) rows row place f h in
        let fails : FailsRow t g removed h.item kind set = subst (λ r. FailsRow t g removed r kind set) here f.bad in
        let (same_kind, same_set) = one_row_fault h.item kind other set elsewhere fails h.bad in
        (same_kind, counted, same_set)

    -- the kinds and the places of two first faults are equal
    same_fault : (kind other : CheckKind) (row set place elsewhere : ℕ) → IsFaultOf t g removed rows kind row set → IsFaultOf t g removed rows other place elsewhere
        → (kind ≡ other) × (row ≡ place) × (set ≡ elsewhere)
    same_fault kind other row set place elsewhere f h =
        elim (fault_cases kind row set f) [
          | inl lacks ↦ elim (fault_cases other place elsewhere h) [
            | inl lacks_too ↦
                let counted = one_bad Holds (λ r. Holds r → ⊥) (λ r. Holds r → ⊥) (λ r fails. fails) (λ r fails. fails) rows row place lacks.3 lacks_too.3 in
                (lacks.0 ∙ sym lacks_too.0, counted.0, lacks.1 ∙ sym lacks_too.1)
            | inr unsound ↦ absurd (no_unsound other place elsewhere unsound lacks.2)
          ]
          | inr unsound ↦ elim (fault_cases other place elsewhere h) [
            | inl lacks ↦ absurd (no_unsound kind row set unsound lacks.2)
            | inr unsound_too ↦ one_unsound kind other row set place elsewhere unsound unsound_too
          ]
        ]

    -- a table has at most one first fault
    pub one_fault : (f h : TableFault) → IsTableFault t g removed rows f → IsTableFault t g removed rows h → f ≡ h
    one_fault f h is_f is_h =
        let (kind, row, set) = same_fault f.kind h.kind f.row f.set h.row h.set is_f is_h in
        let fault : CheckKind → ℕ → ℕ → TableFault = λ k r u. record { kind = k; row = r; set = u } in
        ap (λ k. fault k f.row f.set) kind ∙ ap (λ r. fault h.kind r f.set) row ∙ ap (fault h.kind h.row) set

    -- and a valid one has none
    pub no_fault : IsValidTable t g removed rows → (f : TableFault) → IsTableFault t g removed rows f → ⊥
    no_fault valid f is =
        elim (fault_cases f.kind f.row f.set is) [
          | inl lacks ↦ none_bad Holds (λ r. Holds r → ⊥) (λ r fails. fails) rows f.row lacks.3 valid.supported
          | inr unsound ↦ no_unsound f.kind f.row f.set unsound valid.sound
        ]

    -- so an answer that is right says that a valid table is valid, unless it is an error
    pub valid_told : {E : Type 0} (r : Result (Option TableFault) E) → IfOk r (λ found. IfSome found (IsTableFault t g removed rows))
        → IsValidTable t g removed rows → (r ≡ Ok None) ⊎ IsErr r
    valid_told (Ok None) right valid = inl refl
    valid_told (Ok (Some f)) right valid = absurd (no_fault valid f right)
    valid_told (Err e) right valid = inr refl

    -- and it tells the one fault of a table that has one
    pub fault_told : {E : Type 0} (r : Result (Option TableFault) E) → IfOk r (λ found. IfNone found (IsValidTable t g removed rows))
        → IfOk r (λ found. IfSome found (IsTableFault t g removed rows))
        → (f : TableFault) → IsTableFault t g removed rows f → (r ≡ Ok (Some f)) ⊎ IsErr r
    fault_told (Ok None) right_none right f is = absurd (no_fault right_none f is)
    fault_told (Ok (Some h)) right_none right f is = inl (ap (λ x. Ok (Some x)) (one_fault h f right is))
    fault_told (Err e) right_none right f is = inr refl
