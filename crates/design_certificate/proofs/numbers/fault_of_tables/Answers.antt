use Rattle.std.proofs.Common.{ℕ, subst}
use Rattle.std.specs.Prelude.{All}
use Rattle.std.proofs.lemmas.List.{take_all}
use Rattle.cost_certificate.specs.Tables.{IsValidTable}
use Rattle.cost_certificate.specs.Faults.{IsFaultOf}
use Rattle.design_certificate.specs.Live.{GoalTable}
use Rattle.design_certificate.proofs.ChildLemmas.{some_told, none_told}
use Rattle.design_certificate.proofs.LoopLemmas.{all_next, first_bad}
use Rattle.design_certificate.proofs.numbers.fault_of_tables.Goals as goal

pub returns-in-Some-clause-fault : goal.returns-in-Some-clause-fault
returns-in-Some-clause-fault c =
    let Good : GoalTable → Type 0 = λ x. IsValidTable c.args.task.now x.0 c.args.removed.now x.1 in
    let Bad : GoalTable → Type 0 = λ x. (set : ℕ) × IsFaultOf c.args.task.now x.0 c.args.removed.now x.1 c.in-Some.fault.kind c.in-Some.fault.row set in
    let x : GoalTable = c.index-tables-i.result in
    let told = some_told (λ f. IsFaultOf c.args.task.now x.0 c.args.removed.now x.1 f.kind f.row f.set) c.in_ok-fault.field-0 c.in-Some.fault c.in-Some.is c.in_ok-fault.ensures.fault in
    (c.loop-i.i, first_bad Good Bad c.args.tables.now c.loop-i.i x c.loop-i-test.true c.index-tables-i.is c.loop-i.invariant (c.in-Some.fault.set, told))

pub loop-i-preserved : goal.loop-i-preserved
loop-i-preserved c =
    let Good : GoalTable → Type 0 = λ x. IsValidTable c.args.task.now x.0 c.args.removed.now x.1 in
    let x : GoalTable = c.index-tables-i.result in
    all_next Good c.args.tables.now c.loop-i.i x c.loop-i-test.true c.loop-i.invariant (subst Good c.index-tables-i.is (none_told (Good x) c.in_ok-fault.field-0 c.in_default.is c.in_ok-fault.ensures.valid))

pub returns-clause-valid : goal.returns-clause-valid
returns-clause-valid c =
    subst (All (λ (x : GoalTable). IsValidTable c.args.task.now x.0 c.args.removed.now x.1)) (take_all c.loop-i.i c.args.tables.now c.loop-i-test.false) c.loop-i.invariant
