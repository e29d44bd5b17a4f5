-- A test that answers a fault or none answers exactly, where what is valid has no fault, and nothing has two.
use Rattle.std.proofs.Common.{◌≡◌, ◌⊎◌, ℕ, List, ap, refl, inl, inr, Option, Some, None, Result, Ok, Err}
use Rattle.std.specs.Prelude.{IsErr, IfOk, IfSome, IfNone}
use Rattle.grd_base.specs.declared.ids.ActionId.{ActionId}
use Rattle.grd_base.specs.declared.ids.GoalId.{GoalId}
use Rattle.strips_model.specs.Values.{PlainTask}
use Rattle.cost_certificate.specs.Rows.{PlainRow}
use Rattle.cost_certificate.specs.Tables.{IsValidTable}
use Rattle.cost_certificate.specs.Faults.{IsTableFault}
use Rattle.cost_certificate.specs.declared.kinds.CheckKind.{CheckKind}
use Rattle.cost_certificate.specs.declared.kinds.TableFault.{TableFault}

-- what the law of the first faults of tables says
abbrev pub ValidTablesPass : Type 0
ValidTablesPass = (t : PlainTask) (g : GoalId) (removed : List ActionId) (rows : List PlainRow) → IsValidTable t g removed rows → (fault : TableFault) → IsTableFault t g removed rows fault → ⊥

abbrev pub TablesFailOnce : Type 0
TablesFailOnce = (t : PlainTask) (g : GoalId) (removed : List ActionId) (rows : List PlainRow) (fault other : TableFault) → IsTableFault t g removed rows fault → IsTableFault t g removed rows other → fault ≡ other

-- a fault by its parts
abbrev pub fault_at : CheckKind → ℕ → ℕ → TableFault
fault_at kind row set = record { kind = kind; row = row; set = set }

module _ {X : Type 0} (Valid : Type 0) (Fault : X → Type 0) (passes : Valid → (x : X) → Fault x → ⊥) {E : Type 0} where
  -- what is valid is said to be, unless the answer is an error
  pub valid_told : (r : Result (Option X) E) → IfOk r (λ found. IfSome found Fault) → Valid → (r ≡ Ok None) ⊎ IsErr r
  valid_told (Ok None) right valid = inl refl
  valid_told (Ok (Some f)) right valid = absurd (passes valid f right)
  valid_told (Err e) right valid = inr refl

  -- and the fault of what has one is told
  pub fault_told : ((x y : X) → Fault x → Fault y → x ≡ y) → (r : Result (Option X) E) → IfOk r (λ found. IfNone found Valid) → IfOk r (λ found. IfSome found Fault)
      → (f : X) → Fault f → (r ≡ Ok (Some f)) ⊎ IsErr r
  fault_told once (Ok None) right_none right f is = absurd (passes right_none f is)
  fault_told once (Ok (Some h)) right_none right f is = inl (ap (λ x. Ok (Some x)) (once h f right is))
  fault_told once (Err e) right_none right f is = inr refl
