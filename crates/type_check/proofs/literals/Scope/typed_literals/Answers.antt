use Rattle.std.proofs.Common.{arith}
use Rattle.type_check.specs.Scopes.{literal_in, typed_literal_in}
use Rattle.type_check.specs.Parts.{literals_rules}
use Rattle.type_check.proofs.FirstFaults.{fault_passes, flat_passed, flat_fault}
use Rattle.type_check.proofs.NameLists.{made_next}
use Rattle.type_check.proofs.literals.Scope.typed_literals.Goals as goal

pub returns-in_err-typed_literal-clause-fault : goal.returns-in_err-typed_literal-clause-fault
unfolding literals_rules
returns-in_err-typed_literal-clause-fault c =
    let s = c.args.self.now in
    let list = c.args.literals.now in
    let fault = c.in_err-typed_literal.field-0.0 in
    fault_passes s.domain (literals_rules s list) c.from_residual-in_err-typed_literal.result fault c.from_residual-in_err-typed_literal.ensures.1
    (flat_fault (literal_in s) s.domain list c.loop-literal.literal-index c.literal-item.result fault (omega arith) c.literal-item.is c.loop-literal.invariant.passed c.in_err-typed_literal.ensures.fault)

pub loop-literal-preserved : goal.loop-literal-preserved
unfolding literals_rules
loop-literal-preserved c =
    let s = c.args.self.now in
    let list = c.args.literals.now in
    let i = c.loop-literal.literal-index in
    record {
      typed = made_next (typed_literal_in s) list i c.literal-item.result c.in_ok-typed_literal.field-0 (omega arith) c.literal-item.is c.loop-literal.typed.items c.push.new.self.items c.loop-literal.invariant.typed c.in_ok-typed_literal.ensures.typed c.in_ok-push.ensures.items;
      passed = flat_passed (literal_in s) s.domain list i c.literal-item.result (omega arith) c.literal-item.is c.loop-literal.invariant.passed c.in_ok-typed_literal.ensures.passed;
    }
