use Rattle.std.proofs.Common.{◌++◌, List, subst, arith}
use Rattle.std.specs.Prelude.{All}
use Rattle.pddl_reader.specs.Values.{PlainTypedName}
use Rattle.type_check.specs.Types.{names_of}
use Rattle.type_check.specs.Checks.{Passes}
use Rattle.type_check.specs.Rules.{typed_checks}
use Rattle.type_check.specs.Tables.{HasFault}
use Rattle.type_check.specs.Parts.{names_rules}
use Rattle.type_check.proofs.FirstFaults.{fault_passes, each_passed, each_fault}
use Rattle.type_check.proofs.NameLists.{names_next}
use Rattle.type_check.proofs.declared.declare_each.Goals as goal

pub returns-in_err-declare-clause-fault : goal.returns-in_err-declare-clause-fault
unfolding names_rules
returns-in_err-declare-clause-fault c =
    let d = c.args.types.now in
    let old = c.args.names.now in
    let checks = λ (before : List PlainTypedName) (n : PlainTypedName). typed_checks c.args.file d (old ++ names_of before) n in
    let list = c.args.list.now in
    let i = c.loop-declared.declared-index in
    let item = c.declared-item.result in
    fault_passes d (names_rules c.args.file d old list) c.from_residual.result c.in_err-declare.field-0.0 c.from_residual.ensures.1
    (each_fault checks d list i item c.in_err-declare.field-0.0 (omega arith) c.declared-item.is c.loop-declared.invariant.passed
    (subst (λ names. HasFault d (typed_checks c.args.file d names item) c.in_err-declare.field-0.0) c.loop-declared.invariant.names c.in_err-declare.ensures.fault))

pub loop-declared-preserved : goal.loop-declared-preserved
unfolding names_rules
loop-declared-preserved c =
    let d = c.args.types.now in
    let old = c.args.names.now in
    let checks = λ (before : List PlainTypedName) (n : PlainTypedName). typed_checks c.args.file d (old ++ names_of before) n in
    let list = c.args.list.now in
    let i = c.loop-declared.declared-index in
    let item = c.declared-item.result in
    record {
      names = names_next old list i item (omega arith) c.declared-item.is c.loop-declared.names c.declare.new.names c.loop-declared.invariant.names c.in_ok-declare.ensures.added;
      passed = each_passed checks d list i item (omega arith) c.declared-item.is c.loop-declared.invariant.passed
          (subst (λ names. All (Passes d) (typed_checks c.args.file d names item)) c.loop-declared.invariant.names c.in_ok-declare.ensures.passed);
    }
