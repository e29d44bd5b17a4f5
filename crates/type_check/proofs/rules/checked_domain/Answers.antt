use Rattle.std.proofs.Common.{◌≡◌, ◌∙◌, List, sym, ap, subst}
use Rattle.std.specs.Prelude.{All}
use Rattle.pddl_reader.specs.Values.{PlainSchema, PlainDomain}
use Rattle.type_check.specs.Checks.{Passes}
use Rattle.type_check.specs.Rules.{domain_checks}
use Rattle.type_check.specs.Tables.{HasFault, HaveKnownTypes}
use Rattle.type_check.specs.Parts.{actions_rules}
use Rattle.type_check.proofs.FirstFaults.{fault_passes}
use Rattle.type_check.proofs.DomainLaws.{front_fault, actions_fault, domain_passes}
use Rattle.type_check.proofs.rules.checked_domain.Goals as goal

-- what holds of the actions that were read, said of the domain
actions_of : (P : PlainDomain → List PlainSchema → Type 0) (e d : PlainDomain) (read : List PlainSchema) → e ≡ d → read ≡ d.actions → P e read → P d d.actions
actions_of P e d read same same_read h = subst (λ f. P f d.actions) same (subst (P e) same_read h)

pub returns-in_err-names-clause-fault : goal.returns-in_err-names-clause-fault
returns-in_err-names-clause-fault c =
    let d = c.args.domain.now in
    let fault = c.in_err-names.field-0.0 in
    fault_passes d (domain_checks d) c.from_residual.result fault c.from_residual.ensures.1 (front_fault d fault c.in_err-names.ensures.fault)

pub checked_actions-requires-clause-known : goal.checked_actions-requires-clause-known
checked_actions-requires-clause-known c = subst (λ d. HaveKnownTypes d c.in_ok-names.names.constants) (sym c.in_ok-names.ensures.types) c.in_ok-names.ensures.known

pub returns-in_err-actions-clause-fault : goal.returns-in_err-actions-clause-fault
returns-in_err-actions-clause-fault c =
    let d = c.args.domain.now in
    let fault = c.in_err-actions.field-0.0 in
    let read : c.deref.result.now ≡ d.actions = c.deref.ensures.value ∙ ap (λ (f : PlainDomain). f.actions) c.domain.view_is in
    fault_passes d (domain_checks d) c.from_residual-in_err-actions.result fault c.from_residual-in_err-actions.ensures.1
    (actions_fault d c.in_ok-names.ensures.passed fault
    (actions_of (λ f list. HasFault f (actions_rules f list) fault) c.in_ok-names.names.types d c.deref.result.now c.in_ok-names.ensures.types read c.in_err-actions.ensures.fault))

pub returns-clause-passed : goal.returns-clause-passed
returns-clause-passed c =
    let d = c.args.domain.now in
    let read : c.deref.result.now ≡ d.actions = c.deref.ensures.value ∙ ap (λ (f : PlainDomain). f.actions) c.domain.view_is in
    domain_passes d c.in_ok-names.ensures.passed
    (actions_of (λ f list. All (Passes f) (actions_rules f list)) c.in_ok-names.names.types d c.deref.result.now c.in_ok-names.ensures.types read c.in_ok-actions.ensures.passed)
