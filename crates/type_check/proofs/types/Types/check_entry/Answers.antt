use Rattle.std.proofs.Common.{◌≡◌, rules, sym, subst}
use Rattle.std.proofs.lemmas.Bool.{false≢true}
use Rattle.type_check.specs.Types.{names_of}
use Rattle.type_check.specs.Checks.{Meets, Acyclic}
use Rattle.type_check.proofs.NameLaws.{was_there, was_new}
use Rattle.type_check.proofs.EntryLaws.{doubled_fault, cycle_fault}
use Rattle.type_check.proofs.types.Types.check_entry.Goals as goal

pub returns-then-not-branch-clause-fault : goal.returns-then-not-branch-clause-fault
returns-then-not-branch-clause-fault c = λ before is.
    let text : c.as_str.result.now ≡ c.args.n.now.name.text = search rules in
    doubled_fault c.args.self.now before c.args.n.now c.fault_of.result c.fault_of.ensures
    (was_there c.args.seen.now (names_of before) c.add.new.self c.as_str.result.now c.args.n.now.name.text c.in_ok-add.field-0 is text c.in_ok-add.ensures.added c.if-not-branch.true)

pub returns-then-not-is_acyclic-clause-fault : goal.returns-then-not-is_acyclic-clause-fault
returns-then-not-is_acyclic-clause-fault c = λ before is.
    let text : c.as_str.result.now ≡ c.args.n.now.name.text = search rules in
    let again : c.as_str-2.result.now ≡ c.args.n.now.name.text = search rules in
    cycle_fault c.args.self.now before c.args.n.now c.fault_of-then-not-is_acyclic.result c.fault_of-then-not-is_acyclic.ensures
    (was_new c.args.seen.now (names_of before) c.add.new.self c.as_str.result.now c.args.n.now.name.text c.in_ok-add.field-0 is text c.in_ok-add.ensures.added c.if-not-branch.false)
    (λ meets. false≢true (c.if-not-is_acyclic.ensures.1 (subst (λ t. Meets c.args.self.now (Acyclic t)) (sym again) meets)))
