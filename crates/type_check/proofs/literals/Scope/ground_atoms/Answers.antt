use Rattle.std.proofs.Common.{arith}
use Rattle.type_check.specs.Scopes.{literal_in, atom_in}
use Rattle.type_check.specs.Parts.{literals_rules}
use Rattle.type_check.proofs.FirstFaults.{fault_passes, flat_passed, flat_fault}
use Rattle.type_check.proofs.NameLists.{made_next}
use Rattle.type_check.proofs.literals.Scope.ground_atoms.Goals as goal

pub returns-in_err-ground_atom-clause-fault : goal.returns-in_err-ground_atom-clause-fault
unfolding literals_rules
returns-in_err-ground_atom-clause-fault c =
    let s = c.args.self.now in
    let list = c.args.atoms.now in
    let fault = c.in_err-ground_atom.field-0.0 in
    fault_passes s.domain (literals_rules s list) c.from_residual-in_err-ground_atom.result fault c.from_residual-in_err-ground_atom.ensures.1
    (flat_fault (literal_in s) s.domain list c.loop-atom.atom-index c.atom-item.result fault (omega arith) c.atom-item.is c.loop-atom.invariant.passed c.in_err-ground_atom.ensures.fault)

pub loop-atom-preserved : goal.loop-atom-preserved
unfolding literals_rules
loop-atom-preserved c =
    let s = c.args.self.now in
    let list = c.args.atoms.now in
    let i = c.loop-atom.atom-index in
    record {
      ground = made_next (atom_in s) list i c.atom-item.result c.in_ok-ground_atom.field-0 (omega arith) c.atom-item.is c.loop-atom.ground.items c.push.new.self.items c.loop-atom.invariant.ground c.in_ok-ground_atom.ensures.ground c.in_ok-push.ensures.items;
      passed = flat_passed (literal_in s) s.domain list i c.atom-item.result (omega arith) c.atom-item.is c.loop-atom.invariant.passed c.in_ok-ground_atom.ensures.passed;
    }
