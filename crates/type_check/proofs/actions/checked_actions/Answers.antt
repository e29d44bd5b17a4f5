use Rattle.std.proofs.Common.{[], take, arith}
use Rattle.pddl_reader.specs.Values.{PlainSchema}
use Rattle.type_check.specs.Rules.{action_checks}
use Rattle.type_check.specs.Tables.{checked_schema}
use Rattle.type_check.specs.Parts.{action_rules, actions_rules}
use Rattle.type_check.proofs.FirstFaults.{fault_passes, each_passed, each_fault}
use Rattle.type_check.proofs.NameLists.{name_next, made_next}
use Rattle.type_check.proofs.actions.checked_actions.Goals as goal

pub returns-in_err-literals-clause-fault : goal.returns-in_err-literals-clause-fault
unfolding action_rules actions_rules
returns-in_err-literals-clause-fault c =
    let d = c.args.types.now in
    let list = c.args.actions.now in
    let i = c.loop-action.action-index in
    let fault = c.in_err-literals.field-0.0 in
    fault_passes d (actions_rules d list) c.from_residual-in_err-literals.result fault c.from_residual-in_err-literals.ensures.1
    (each_fault (action_checks d) d list i c.action-item.result fault (omega arith) c.action-item.is c.loop-action.invariant.passed
    (c.in_err-literals.ensures.fault (take i list) c.loop-action.invariant.names))

pub loop-action-preserved : goal.loop-action-preserved
unfolding action_rules actions_rules
loop-action-preserved c =
    let d = c.args.types.now in
    let list = c.args.actions.now in
    let i = c.loop-action.action-index in
    record {
      names = name_next (λ (a : PlainSchema). a.name.text) [] list i c.action-item.result (omega arith) c.action-item.is c.loop-action.names c.checked_action.new.names c.loop-action.invariant.names c.in_ok-literals.ensures.added;
      checked = made_next (checked_schema d) list i c.action-item.result c.in_ok-literals.literals (omega arith) c.action-item.is c.loop-action.checked.items c.push.new.self.items c.loop-action.invariant.checked c.in_ok-literals.ensures.checked c.in_ok-push.ensures.items;
      passed = each_passed (action_checks d) d list i c.action-item.result (omega arith) c.action-item.is c.loop-action.invariant.passed
          (c.in_ok-literals.ensures.passed (take i list) c.loop-action.invariant.names);
    }
