use Rattle.std.proofs.Common.{[], ◌∷◌, subst}
use Rattle.std.specs.Prelude.{All, IfErr, OnOk}
use Rattle.std.proofs.lemmas.Result.{IfErr-weaker, on_ok_weaker}
use Rattle.std.proofs.lemmas.List.Elements.{All-cons}
use Rattle.pddl_reader.specs.Values.{PlainTypedName}
use Rattle.type_check.specs.Checks.{Passes}
use Rattle.type_check.specs.Rules.{is_new, are_types, typed_checks}
use Rattle.type_check.specs.Tables.{HasFault}
use Rattle.type_check.proofs.FirstFaults.{fault_passes, fault_front, fault_later}
use Rattle.type_check.proofs.declared.declare.Goals as goal

pub returns-in_err-add_new-clause-fault : goal.returns-in_err-add_new-clause-fault
returns-in_err-add_new-clause-fault c =
    let d = c.args.types.now in
    let declared = c.args.declared.now in
    let file = c.args.file in
    let old = c.args.names.now in
    fault_passes d (typed_checks file d old declared) c.from_residual.result c.in_err-add_new.field-0.0 c.from_residual.ensures.1
    (fault_front d (is_new file old declared.name ∷ []) (are_types file d declared.types) c.in_err-add_new.field-0.0
    (subst (λ (n : PlainTypedName). HasFault d (is_new file old n.name ∷ []) c.in_err-add_new.field-0.0) c.declared.view_is (c.in_err-add_new.ensures.fault d)))

pub returns-clause-passed : goal.returns-clause-passed
returns-clause-passed c =
    let d = c.args.types.now in
    let file = c.args.file in
    let old = c.args.names.now in
    let inner : PlainTypedName = record { name = c.declared.inside.name; types = c.declared.inside.types } in
    subst (λ (n : PlainTypedName). OnOk c.check_types.result (All (Passes d) (typed_checks file d old n))) c.declared.view_is
    (on_ok_weaker c.check_types.result
    (λ types. All-cons (Passes d) (is_new file old inner.name) (are_types file d inner.types) (c.in_ok-add_new.ensures.passed d)
    (subst (λ names. All (Passes d) (are_types file d names)) c.as_slice.ensures types)) c.check_types.ensures.passed)

pub returns-clause-fault : goal.returns-clause-fault
returns-clause-fault c =
    let d = c.args.types.now in
    let file = c.args.file in
    let old = c.args.names.now in
    let inner : PlainTypedName = record { name = c.declared.inside.name; types = c.declared.inside.types } in
    subst (λ (n : PlainTypedName). IfErr c.check_types.result (HasFault d (typed_checks file d old n))) c.declared.view_is
    (IfErr-weaker c.check_types.result (HasFault d (are_types file d c.as_slice.result.now)) (HasFault d (typed_checks file d old inner))
    (λ fault has. fault_later d (is_new file old inner.name) (are_types file d inner.types) fault (c.in_ok-add_new.ensures.passed d)
    (subst (λ names. HasFault d (are_types file d names) fault) c.as_slice.ensures has)) c.check_types.ensures.fault)
