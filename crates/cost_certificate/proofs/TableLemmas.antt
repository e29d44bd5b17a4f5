-- The rows of a valid table mean what they say.
use Rattle.std.proofs.Common.{ℕ, zero, suc, ◌<◌, List, [], ◌∷◌, length, sym, ◌∙◌, subst, inl, inr, arith}
use Rattle.std.specs.Prelude.{Contains, All}
use Rattle.std.proofs.lemmas.Bool.{false≢true}
use Rattle.std.proofs.lemmas.List.Elements.{All-contains}
use Rattle.grd_base.specs.declared.ids.AtomId.{AtomId}
use Rattle.grd_base.specs.declared.ids.ActionId.{ActionId}
use Rattle.grd_base.specs.declared.ids.GoalId.{GoalId}
use Rattle.grd_base.specs.declared.limits.Bound.{Bound}
use Rattle.grd_base.specs.declared.limits.Bound.TheVariants.{Steps, Never}
use Rattle.strips_model.specs.Values.{PlainTask}
use Rattle.strips_model.specs.Plans.{State, set_of, after, Reaches}
use Rattle.strips_model.specs.Cuts.{cut, IsFamily}
use Rattle.cost_certificate.specs.declared.rows.Why.{Why}
use Rattle.cost_certificate.specs.declared.rows.Why.TheVariants.{Cuts, Steps as BySteps}
use Rattle.cost_certificate.specs.Rows.{PlainRow}
use Rattle.cost_certificate.specs.Tables.{IsAtMost, SuccessorsHave, StepsHold, HasEmptyCut, CutsSuffice, SetsHold, RowsHold, IsSoundRow, IsValidTable, Refutes}
use Rattle.cost_certificate.proofs.ReachLemmas.{Meets, disjoint_met, first_step, cut_met}

-- what a bound refutes each lower bound refutes
refutes_lower : (low high : Bound) (n : ℕ) → IsAtMost low high → Refutes high n → Refutes low n
refutes_lower (Steps r) (Steps m) n lower far = omega arith
refutes_lower (Steps r) Never n lower far = absurd far
refutes_lower Never (Steps m) n lower far = absurd lower
refutes_lower Never Never n lower far = far

module _ (t : PlainTask) (g : GoalId) (removed : List ActionId) where
  -- each cut of a family is met
  all_met : (p : List ActionId) (s : State) (sets : List (List AtomId)) → IsFamily t g removed s sets → Reaches t g removed s p
      → All (λ u. Meets (cut t removed (set_of u)) p) sets
  all_met p s sets family reaches k d within = cut_met t g removed p s _ (family.contain k d within) (family.leave_open k d within) reaches

  -- so none of them is empty
  none_empty : (p : List ActionId) (s : State) (sets : List (List AtomId)) → IsFamily t g removed s sets → Reaches t g removed s p
      → HasEmptyCut t removed sets → ⊥
  none_empty p s sets family reaches (k, u, within, is, empty) =
      let m = All-contains (λ v. Meets (cut t removed (set_of v)) p) sets u (all_met p s sets family reaches) (k, within, is) in
      false≢true (sym (empty m.1) ∙ m.4)

  -- cuts that suffice for a bound refute it
  cuts_refute : (p : List ActionId) (s : State) (sets : List (List AtomId)) (b : Bound) → IsFamily t g removed s sets → Reaches t g removed s p
      → CutsSuffice t removed sets b → Refutes b (length p)
  cuts_refute p s sets Never family reaches empty = none_empty p s sets family reaches empty
  cuts_refute p s sets (Steps r) family reaches suffice =
      elim suffice as (λ _. r < length p) [
        | inl empty ↦ absurd (none_empty p s sets family reaches empty)
        | inr many ↦ omega (arith, disjoint_met (λ u. cut t removed (set_of u)) sets p (all_met p s sets family reaches) family.apart)
      ]

  module _ (rows : List PlainRow) where
    -- where the rows refute a sequence by their bounds, a bound that all successors have refutes it too
    successors_refute : (s : State) (b : Bound) (a : ActionId) (q : List ActionId) → SuccessorsHave t removed rows s b → Reaches t g removed s (a ∷ q)
        → ((row : PlainRow) → Contains rows row → Reaches t g removed (set_of row.state) q → Refutes row.bound (length q)) → Refutes b (length q)
    successors_refute s b a q have reaches refute =
        let next = first_step t g removed s a q reaches in
        let (k, row, within, is, fits) = have a next.0 next.1 in
        refutes_lower b row.bound (length q) fits.1 (refute row (k, within, is) (subst (λ u. Reaches t g removed u q) (sym fits.0) next.2))

    -- a row by steps refutes a sequence that is one action longer
    steps_refute : (s : State) (b : Bound) (a : ActionId) (q : List ActionId) → StepsHold t removed rows s b → Reaches t g removed s (a ∷ q)
        → ((row : PlainRow) → Contains rows row → Reaches t g removed (set_of row.state) q → Refutes row.bound (length q)) → Refutes b (length (a ∷ q))
    steps_refute s (Steps zero) a q hold reaches refute = omega arith
    steps_refute s (Steps (suc r)) a q hold reaches refute =
        let far : r < length q = successors_refute s (Steps r) a q hold reaches refute in omega arith
    steps_refute s Never a q hold reaches refute = successors_refute s Never a q hold reaches refute

    -- and so does each row, by its cuts or by the rows of its successors
    row_refutes : (row : PlainRow) (w : Why) (a : ActionId) (q : List ActionId) → SetsHold t g removed row w → RowsHold t removed rows row w
        → Reaches t g removed (set_of row.state) (a ∷ q)
        → ((other : PlainRow) → Contains rows other → Reaches t g removed (set_of other.state) q → Refutes other.bound (length q)) → Refutes row.bound (length (a ∷ q))
    row_refutes row (Cuts sets) a q sets_hold rows_hold reaches refute = cuts_refute (a ∷ q) (set_of row.state) sets row.bound sets_hold.0 reaches sets_hold.1
    row_refutes row BySteps a q sets_hold rows_hold reaches refute = steps_refute (set_of row.state) row.bound a q rows_hold reaches refute

    -- the rows of a valid table refute each sequence, however long
    pub table_refutes : IsValidTable t g removed rows → (p : List ActionId) (row : PlainRow) → Contains rows row
        → Reaches t g removed (set_of row.state) p → Refutes row.bound (length p)
    unfolding after
    table_refutes valid [] row has reaches =
        absurd (false≢true (sym (All-contains (IsSoundRow t g removed) rows row valid.sound has).leaves_open ∙ reaches))
    table_refutes valid (a ∷ q) row has reaches =
        let sound = All-contains (IsSoundRow t g removed) rows row valid.sound has in
        let supported = All-contains (λ r. RowsHold t removed rows r r.why) rows row valid.supported has in
        row_refutes row row.why a q sound.sets supported reaches (table_refutes valid q)
