use Rattle.std.proofs.Common.{List, [], ◌∷◌, subst}
use Rattle.std.specs.Prelude.{All, IfErr}
use Rattle.grd_base.specs.declared.roles.FileRole.TheVariants.{Domain}
use Rattle.pddl_reader.specs.Values.{PlainPredicate}
use Rattle.type_check.specs.Types.{names_of}
use Rattle.type_check.specs.Checks.{Check, Passes}
use Rattle.type_check.specs.Rules.{is_new, few_parameters, predicate_names}
use Rattle.type_check.specs.Tables.{HasFault}
use Rattle.type_check.specs.Parts.{names_rules, predicate_rules}
use Rattle.type_check.proofs.FirstFaults.{fault_passes, fault_front, fault_second, fault_third, passed_third}
use Rattle.type_check.proofs.predicates.add_predicate.Goals as goal

pub returns-in_err-add_new-clause-fault : goal.returns-in_err-add_new-clause-fault
unfolding names_rules predicate_rules
returns-in_err-add_new-clause-fault c before same =
    let d = c.args.types.now in
    let q = c.args.predicate.now in
    let fault = c.in_err-add_new.field-0.0 in
    let rest : List Check = few_parameters q.parameters q.name ∷ names_rules Domain d [] q.parameters in
    fault_passes d (predicate_rules d before q) c.from_residual.result fault c.from_residual.ensures.1
    (fault_front d (is_new Domain (predicate_names before) q.name ∷ []) rest fault
    (subst (λ (p : PlainPredicate). HasFault d (is_new Domain (predicate_names before) p.name ∷ []) fault) c.predicate.view_is
    (subst (λ names. HasFault d (is_new Domain names c.predicate.inside.name ∷ []) fault) same (c.in_err-add_new.ensures.fault d))))

pub returns-in_err-check_few-clause-fault : goal.returns-in_err-check_few-clause-fault
unfolding names_rules predicate_rules
returns-in_err-check_few-clause-fault c before same =
    let d = c.args.types.now in
    let fault = c.in_err-check_few.field-0.0 in
    let name = c.predicate.inside.name in
    let parameters = c.predicate.inside.parameters.items in
    subst (λ (p : PlainPredicate). IfErr c.from_residual-in_err-check_few.result (HasFault d (predicate_rules d before p))) c.predicate.view_is
    (fault_passes d (predicate_rules d before (record { name = name; parameters = parameters })) c.from_residual-in_err-check_few.result fault c.from_residual-in_err-check_few.ensures.1
    (fault_second d (is_new Domain (predicate_names before) name) (few_parameters parameters name) (names_rules Domain d [] parameters) fault
    (subst (λ names. Passes d (is_new Domain names name)) same (c.in_ok-add_new.ensures.passed d))
    (subst (λ ps. HasFault d (few_parameters ps name ∷ []) fault) c.deref.ensures.value (c.in_err-check_few.ensures.fault d))))

pub returns-in_err-followed_by-clause-fault : goal.returns-in_err-followed_by-clause-fault
unfolding names_rules predicate_rules
returns-in_err-followed_by-clause-fault c before same =
    let d = c.args.types.now in
    let fault = c.in_err-followed_by.field-0.0 in
    let name = c.predicate.inside.name in
    let parameters = c.predicate.inside.parameters.items in
    subst (λ (p : PlainPredicate). IfErr c.from_residual-in_err-followed_by.result (HasFault d (predicate_rules d before p))) c.predicate.view_is
    (fault_passes d (predicate_rules d before (record { name = name; parameters = parameters })) c.from_residual-in_err-followed_by.result fault c.from_residual-in_err-followed_by.ensures.1
    (fault_third d (is_new Domain (predicate_names before) name) (few_parameters parameters name) (names_rules Domain d [] parameters) fault
    (subst (λ names. Passes d (is_new Domain names name)) same (c.in_ok-add_new.ensures.passed d))
    (subst (λ ps. Passes d (few_parameters ps name)) c.deref.ensures.value c.in_ok-check_few.ensures.few)
    (subst (λ ps. HasFault d (names_rules Domain d [] ps) fault) c.deref-2.ensures.value
    (subst (λ old. HasFault d (names_rules Domain d (names_of old) c.deref-2.result.now) fault) c.new.ensures c.in_err-followed_by.ensures.fault))))

pub returns-clause-passed : goal.returns-clause-passed
unfolding names_rules predicate_rules
returns-clause-passed c before same =
    let d = c.args.types.now in
    let name = c.predicate.inside.name in
    let parameters = c.predicate.inside.parameters.items in
    subst (λ (p : PlainPredicate). All (Passes d) (predicate_rules d before p)) c.predicate.view_is
    (passed_third d (is_new Domain (predicate_names before) name) (few_parameters parameters name) (names_rules Domain d [] parameters)
    (subst (λ names. Passes d (is_new Domain names name)) same (c.in_ok-add_new.ensures.passed d))
    (subst (λ ps. Passes d (few_parameters ps name)) c.deref.ensures.value c.in_ok-check_few.ensures.few)
    (subst (λ ps. All (Passes d) (names_rules Domain d [] ps)) c.deref-2.ensures.value
    (subst (λ old. All (Passes d) (names_rules Domain d (names_of old) c.deref-2.result.now)) c.new.ensures c.in_ok-followed_by.ensures.passed)))
