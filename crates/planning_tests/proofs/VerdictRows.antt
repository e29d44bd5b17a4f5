-- The rows of right verdicts.
use Rattle.std.proofs.Common.{◌≡◌, ℕ, ◌<◌, Vec, Global, Result, Ok, Err, List, [], length, get_or, sym, subst, arith, Option, Some, None}
use Rattle.std.specs.Prelude.{All, IfOk, slice_get}
use Rattle.std.proofs.lemmas.List.Elements.{All-nil}
use Rattle.std.proofs.lemmas.Option.{slice_get_within, slice_get-get_or}
use Rattle.grd_base.specs.declared.ids.ActionId.{ActionId}
use Rattle.grd_base.specs.declared.ids.GoalId.{GoalId}
use Rattle.strips_model.specs.Values.{PlainTask}
use Rattle.cost_certificate.specs.declared.found.Verdict.{Verdict}
use Rattle.cost_certificate.specs.declared.found.Verdict.TheVariants.{No}
use Rattle.cost_certificate.specs.Found.{PlainCost}
use Rattle.cost_certificate.specs.Rows.{PlainRow}
use Rattle.cost_certificate.specs.Tables.{IsRowOver}
use Rattle.strips_model.specs.Observed.{observed_task}
use Rattle.cost_certificate.specs.Verdicts.{plain_verdict, IsRightVerdict}

-- the verdicts are right for goals of these costs
abbrev pub AreRight : PlainTask → List ActionId → List PlainCost → List Verdict → Type 0
AreRight t os costs verdicts = (k : ℕ) (x : PlainCost) (verdict : Verdict) → slice_get costs k ≡ Some x → slice_get verdicts k ≡ Some verdict
    → IsRightVerdict t os (record { 0 = k }) x.cost (plain_verdict verdict)

-- the rows of a right verdict have atoms of the observed task alone
rows_over : (t : PlainTask) (os : List ActionId) (g : GoalId) (least : Option ℕ) (table : List PlainRow) → IsRightVerdict t os g least (plain_verdict (No table)) → All (IsRowOver (observed_task t os)) table
rows_over t os g None table is = subst (λ (xs : List PlainRow). All (IsRowOver (observed_task t os)) xs) (sym is.1) (All-nil (IsRowOver (observed_task t os)))
rows_over t os g (Some c) table is = is.1.2

-- so have those of all verdicts
pub all_over : {E : Type 0} (t : PlainTask) (os : List ActionId) (costs : List PlainCost) (n : ℕ) (r : Result (Vec Verdict Global) E) → length costs ≡ n → IfOk r (λ found. length found.items ≡ n) → IfOk r (λ found. AreRight t os costs found.items)
    → IfOk r (λ found. (k : ℕ) (table : List PlainRow) → slice_get found.items k ≡ Some (No table) → All (IsRowOver (observed_task t os)) table)
all_over t os costs n (Err e) each long right = tt
all_over t os costs n (Ok found) each long right = λ k table at.
    let none : PlainCost = record { cost = None; plan = []; table = [] } in
    let low : k < length costs = omega (arith, each, long, slice_get_within found.items k (No table) at) in
    rows_over t os (record { 0 = k }) (get_or costs k none).cost table (right k (get_or costs k none) (No table) (slice_get-get_or costs k none low) at)
