use Rattle.std.proofs.Common.{[], take, arith}
use Rattle.pddl_reader.specs.Values.{PlainPredicate}
use Rattle.type_check.specs.Rules.{predicate_checks}
use Rattle.type_check.specs.Parts.{predicate_rules, predicates_rules}
use Rattle.type_check.proofs.FirstFaults.{fault_passes, each_passed, each_fault}
use Rattle.type_check.proofs.NameLists.{name_next}
use Rattle.type_check.proofs.predicates.Predicates.of.Goals as goal

pub returns-in_err-add_predicate-clause-fault : goal.returns-in_err-add_predicate-clause-fault
unfolding predicate_rules predicates_rules
returns-in_err-add_predicate-clause-fault c =
    let d = c.args.types.now in
    let list = c.args.predicates.now in
    let i = c.loop-predicate.predicate-index in
    let fault = c.in_err-add_predicate.field-0.0 in
    fault_passes d (predicates_rules d list) c.from_residual.result fault c.from_residual.ensures.1
    (each_fault (predicate_checks d) d list i c.predicate-item.result fault (omega arith) c.predicate-item.is c.loop-predicate.invariant.passed
    (c.in_err-add_predicate.ensures.fault (take i list) c.loop-predicate.invariant.names))

pub loop-predicate-preserved : goal.loop-predicate-preserved
unfolding predicate_rules predicates_rules
loop-predicate-preserved c =
    let d = c.args.types.now in
    let list = c.args.predicates.now in
    let i = c.loop-predicate.predicate-index in
    record {
      names = name_next (λ (q : PlainPredicate). q.name.text) [] list i c.predicate-item.result (omega arith) c.predicate-item.is c.loop-predicate.names c.add_predicate.new.names c.loop-predicate.invariant.names c.in_ok-add_predicate.ensures.added;
      passed = each_passed (predicate_checks d) d list i c.predicate-item.result (omega arith) c.predicate-item.is c.loop-predicate.invariant.passed
          (c.in_ok-add_predicate.ensures.passed (take i list) c.loop-predicate.invariant.names);
    }
