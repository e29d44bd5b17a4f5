use Rattle.std.proofs.Common.{◌≡◌, ◌∙◌, List, ◌++◌, refl, sym, ap, subst}
use Rattle.std.specs.Prelude.{All}
use Rattle.std.specs.List.{flat_map}
use Rattle.std.proofs.lemmas.List.Concat.{flat_map-append}
use Rattle.std.proofs.lemmas.List.Elements.{All-append}
use Rattle.pddl_reader.specs.Values.{PlainSchema, PlainLiteral}
use Rattle.type_check.specs.Checks.{Check, Passes}
use Rattle.type_check.specs.Rules.{literals_of}
use Rattle.type_check.specs.Tables.{HasFault}
use Rattle.type_check.specs.Scopes.{literal_in}
use Rattle.type_check.specs.Parts.{literals_rules}
use Rattle.type_check.proofs.FirstFaults.{fault_passes, fault_front, fault_behind}
use Rattle.type_check.proofs.actions.checked_literals.Goals as goal

-- the checks of the literals of both parts, from what they were read from
both : (checks : PlainLiteral → List Check) (pre effect : List PlainLiteral) (a : PlainSchema) → pre ≡ a.pre → effect ≡ a.effect
    → flat_map checks pre ++ flat_map checks effect ≡ flat_map checks (literals_of a)
both checks pre effect a same_pre same_effect =
    sym (flat_map-append checks pre effect) ∙ ap (λ ls. flat_map checks (ls ++ effect)) same_pre ∙ ap (λ ls. flat_map checks (a.pre ++ ls)) same_effect

pub returns-in_err-typed_literals-clause-fault : goal.returns-in_err-typed_literals-clause-fault
unfolding literals_rules
returns-in_err-typed_literals-clause-fault c =
    let s = c.args.scope.now in
    let a = c.args.action.now in
    let fault = c.in_err-typed_literals.field-0.0 in
    let checks = literal_in s in
    let same_pre : c.deref.result.now ≡ a.pre = c.deref.ensures.value ∙ ap (λ (b : PlainSchema). b.pre) c.action.view_is in
    fault_passes s.domain (literals_rules s (literals_of a)) c.from_residual.result fault c.from_residual.ensures.1
    (subst (λ all. HasFault s.domain all fault) (both checks c.deref.result.now a.effect a same_pre refl)
    (fault_front s.domain (flat_map checks c.deref.result.now) (flat_map checks a.effect) fault c.in_err-typed_literals.ensures.fault))

pub returns-in_err-typed_literals-2-clause-fault : goal.returns-in_err-typed_literals-2-clause-fault
unfolding literals_rules
returns-in_err-typed_literals-2-clause-fault c =
    let s = c.args.scope.now in
    let a = c.args.action.now in
    let fault = c.in_err-typed_literals-2.field-0.0 in
    let checks = literal_in s in
    let same_pre : c.deref.result.now ≡ a.pre = c.deref.ensures.value ∙ ap (λ (b : PlainSchema). b.pre) c.action.view_is in
    let same_effect : c.deref-2.result.now ≡ a.effect = c.deref-2.ensures.value ∙ ap (λ (b : PlainSchema). b.effect) c.action.view_is in
    fault_passes s.domain (literals_rules s (literals_of a)) c.from_residual-in_err-typed_literals-2.result fault c.from_residual-in_err-typed_literals-2.ensures.1
    (subst (λ all. HasFault s.domain all fault) (both checks c.deref.result.now c.deref-2.result.now a same_pre same_effect)
    (fault_behind s.domain (flat_map checks c.deref.result.now) (flat_map checks c.deref-2.result.now) fault c.in_ok-typed_literals.ensures.passed c.in_err-typed_literals-2.ensures.fault))

pub returns-clause-passed : goal.returns-clause-passed
unfolding literals_rules
returns-clause-passed c =
    let s = c.args.scope.now in
    let a = c.args.action.now in
    let checks = literal_in s in
    let same_pre : c.deref.result.now ≡ a.pre = c.deref.ensures.value ∙ ap (λ (b : PlainSchema). b.pre) c.action.view_is in
    let same_effect : c.deref-2.result.now ≡ a.effect = c.deref-2.ensures.value ∙ ap (λ (b : PlainSchema). b.effect) c.action.view_is in
    subst (All (Passes s.domain)) (both checks c.deref.result.now c.deref-2.result.now a same_pre same_effect)
    (All-append (Passes s.domain) (flat_map checks c.deref.result.now) (flat_map checks c.deref-2.result.now) c.in_ok-typed_literals.ensures.passed c.in_ok-typed_literals-2.ensures.passed)
