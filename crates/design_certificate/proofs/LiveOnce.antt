-- Live rows have at most one first fault, and valid ones have none, where this is so of tables.
use Rattle.std.proofs.Common.{◌≡◌, ◌⊎◌, ◌<◌, ◌≤◌, ℕ, List, sym, ◌∙◌, ap, subst, inl, inr, arith, Option}
use Rattle.std.specs.Prelude.{All}
use Rattle.grd_base.specs.declared.ids.ActionId.{ActionId}
use Rattle.strips_model.specs.Values.{PlainTask}
use Rattle.cost_certificate.specs.declared.kinds.CheckKind.{CheckKind}
use Rattle.cost_certificate.specs.declared.kinds.CheckKind.TheVariants.{LiveSuccessor, LiveTooDeep}
use Rattle.cost_certificate.specs.declared.kinds.TableFault.{TableFault}
use Rattle.cost_certificate.specs.Faults.{IsFaultOf, IsFirstBad}
use Rattle.cost_certificate.proofs.PlaceLemmas.{none_bad, one_bad}
use Rattle.design_certificate.specs.declared.live.LiveFault.{LiveFault}
use Rattle.design_certificate.specs.Live.{PlainLiveRow, PlainLiveRows, GoalTable, IsValidLive}
use Rattle.design_certificate.specs.LiveFaults.{IsGoalTable, HasNumbers, IsFollowedOn, IsLeft, NoneBegins, RowsFail, NumbersFail, TablesFail, FailsLive, IsLiveFault}
use Rattle.design_certificate.proofs.ExactLemmas.{ValidTablesPass, TablesFailOnce, fault_at}

module _ (passes : ValidTablesPass) (once : TablesFailOnce) (t : PlainTask) (costs : List (Option ℕ)) (removed : List ActionId) (len : ℕ) (live : PlainLiveRows) where
  -- what a table fails
  abbrev FailsTable : CheckKind → ℕ → GoalTable → Type 0
  FailsTable kind row x = (set : ℕ) × IsFaultOf t x.0 removed x.1 kind row set

  no_table : (kind : CheckKind) (row : ℕ) (x : GoalTable) → FailsTable kind row x → IsGoalTable t costs removed len live x → ⊥
  no_table kind row x fails valid = passes t x.0 removed x.1 valid (fault_at kind row fails.0) fails.1

  no_left : (kind : CheckKind) (r : PlainLiveRow) → IsLeft t costs removed len live kind r → IsFollowedOn t costs removed len live r → ⊥
  no_left kind r left followed = left.0 followed

  no_numbers : (r : PlainLiveRow) → (HasNumbers t costs removed len live r → ⊥) → HasNumbers t costs removed len live r → ⊥
  no_numbers r fails has = fails has

  -- two kinds and rows are the same
  abbrev AreSame : CheckKind → CheckKind → ℕ → ℕ → Type 0
  AreSame kind other row place = (kind ≡ other) × (row ≡ place)

  tables_same : (kind other : CheckKind) (row place at elsewhere : ℕ) → IsFirstBad (IsGoalTable t costs removed len live) (FailsTable kind row) live.tables at
      → IsFirstBad (IsGoalTable t costs removed len live) (FailsTable other place) live.tables elsewhere → AreSame kind other row place
  tables_same kind other row place at elsewhere f h =
      let here = (one_bad (IsGoalTable t costs removed len live) (FailsTable kind row) (FailsTable other place) (no_table kind row) (no_table other place) live.tables at elsewhere f h).1 in
      let fails : FailsTable kind row h.item = subst (FailsTable kind row) here f.bad in
      let same = once t h.item.0 removed h.item.1 (fault_at kind row fails.0) (fault_at other place h.bad.0) fails.1 h.bad.1 in
      (ap (λ (x : TableFault). x.kind) same, ap (λ (x : TableFault). x.row) same)

  -- how a row is left follows from its depth
  left_same : (kind other : CheckKind) (r : PlainLiveRow) → IsLeft t costs removed len live kind r → IsLeft t costs removed len live other r → kind ≡ other
  left_same kind other r left also = by left.1 also.1
    where
      by : ((kind ≡ LiveSuccessor) × (r.depth < len)) ⊎ ((kind ≡ LiveTooDeep) × (len ≤ r.depth)) → ((other ≡ LiveSuccessor) × (r.depth < len)) ⊎ ((other ≡ LiveTooDeep) × (len ≤ r.depth)) → kind ≡ other
      by (inl low) (inl low_too) = low.0 ∙ sym low_too.0
      by (inl low) (inr deep) = absurd (omega (arith, low.1, deep.1))
      by (inr deep) (inl low) = absurd (omega (arith, low.1, deep.1))
      by (inr deep) (inr deep_too) = deep.0 ∙ sym deep_too.0

  none_same : (kind other : CheckKind) (row place : ℕ) → NoneBegins t costs removed len live kind row → NoneBegins t costs removed len live other place → AreSame kind other row place
  none_same kind other row place f h = (f.0 ∙ sym h.0, f.1 ∙ sym h.1)

  rows_same : (kind other : CheckKind) (row place : ℕ) → RowsFail t costs removed len live kind row → RowsFail t costs removed len live other place → AreSame kind other row place
  rows_same kind other row place (inl f) (inl h) =
      let same = one_bad (IsFollowedOn t costs removed len live) (IsLeft t costs removed len live kind) (IsLeft t costs removed len live other) (no_left kind) (no_left other) live.rows row place f h in
      (left_same kind other h.item (subst (IsLeft t costs removed len live kind) same.1 f.bad) h.bad, same.0)
  rows_same kind other row place (inl f) (inr h) = absurd (none_bad (IsFollowedOn t costs removed len live) (IsLeft t costs removed len live kind) (no_left kind) live.rows row f h.0)
  rows_same kind other row place (inr f) (inl h) = absurd (none_bad (IsFollowedOn t costs removed len live) (IsLeft t costs removed len live other) (no_left other) live.rows place h f.0)
  rows_same kind other row place (inr f) (inr h) = none_same kind other row place f.1 h.1

  numbers_same : (kind other : CheckKind) (row place : ℕ) → NumbersFail t costs removed len live kind row → NumbersFail t costs removed len live other place → AreSame kind other row place
  numbers_same kind other row place (inl f) (inl h) =
      let Has : PlainLiveRow → Type 0 = HasNumbers t costs removed len live in
      (f.0 ∙ sym h.0, (one_bad Has (λ r. Has r → ⊥) (λ r. Has r → ⊥) no_numbers no_numbers live.rows row place f.1 h.1).0)
  numbers_same kind other row place (inl f) (inr h) =
      let Has : PlainLiveRow → Type 0 = HasNumbers t costs removed len live in absurd (none_bad Has (λ r. Has r → ⊥) no_numbers live.rows row f.1 h.0)
  numbers_same kind other row place (inr f) (inl h) =
      let Has : PlainLiveRow → Type 0 = HasNumbers t costs removed len live in absurd (none_bad Has (λ r. Has r → ⊥) no_numbers live.rows place h.1 f.0)
  numbers_same kind other row place (inr f) (inr h) = rows_same kind other row place f.1 h.1

  all_tables : (kind : CheckKind) (row at : ℕ) → IsFirstBad (IsGoalTable t costs removed len live) (FailsTable kind row) live.tables at → All (IsGoalTable t costs removed len live) live.tables → ⊥
  all_tables kind row at f all = none_bad (IsGoalTable t costs removed len live) (FailsTable kind row) (no_table kind row) live.tables at f all

  parts_same : (kind other : CheckKind) (row place : ℕ) → TablesFail t costs removed len live kind row → TablesFail t costs removed len live other place → AreSame kind other row place
  parts_same kind other row place (inl (at, f)) (inl (elsewhere, h)) = tables_same kind other row place at elsewhere f h
  parts_same kind other row place (inl (at, f)) (inr h) = absurd (all_tables kind row at f h.0)
  parts_same kind other row place (inr f) (inl (elsewhere, h)) = absurd (all_tables other place elsewhere h f.0)
  parts_same kind other row place (inr f) (inr h) = numbers_same kind other row place f.1 h.1

  live_same : (kind other : CheckKind) (row place : ℕ) → FailsLive t costs removed len live kind row → FailsLive t costs removed len live other place → AreSame kind other row place
  live_same kind other row place (inl f) (inl h) = (f.0 ∙ sym h.0, f.1 ∙ sym h.1)
  live_same kind other row place (inl f) (inr h) = absurd (f.2 h.0)
  live_same kind other row place (inr f) (inl h) = absurd (h.2 f.0)
  live_same kind other row place (inr f) (inr h) = parts_same kind other row place f.1 h.1

  -- live rows have at most one first fault
  pub live_once : (f h : LiveFault) → IsLiveFault t costs removed len live f → IsLiveFault t costs removed len live h → f ≡ h
  live_once f h is_f is_h =
      let same = live_same f.kind h.kind f.row h.row is_f is_h in
      let made : CheckKind → ℕ → LiveFault = λ k r. record { kind = k; row = r } in
      ap (λ k. made k f.row) same.0 ∙ ap (made h.kind) same.1

  -- and valid ones have none
  pub live_passes : IsValidLive t costs removed len live → (f : LiveFault) → IsLiveFault t costs removed len live f → ⊥
  unfolding IsFollowedOn
  live_passes valid f (inl lines) = lines.2 valid.each_goal
  live_passes valid f (inr (goals, inl (at, table))) = all_tables f.kind f.row at table valid.tables
  live_passes valid f (inr (goals, inr (tables, inl numbers))) =
      let Has : PlainLiveRow → Type 0 = HasNumbers t costs removed len live in none_bad Has (λ r. Has r → ⊥) no_numbers live.rows f.row numbers.1 (λ k d within. (valid.deep k d within, valid.goals k d within))
  live_passes valid f (inr (goals, inr (tables, inr (numbers, inl left)))) = none_bad (IsFollowedOn t costs removed len live) (IsLeft t costs removed len live f.kind) (no_left f.kind) live.rows f.row left valid.followed
  live_passes valid f (inr (goals, inr (tables, inr (numbers, inr (followed, none))))) = none.2 valid.begins
