use Rattle.std.proofs.Common.{◌∙◌, ap, subst}
use Rattle.std.specs.Prelude.{All}
use Rattle.type_check.specs.Types.{names_of}
use Rattle.type_check.specs.Checks.{Passes}
use Rattle.type_check.specs.Parts.{names_rules}
use Rattle.type_check.specs.Tables.{HasFault}
use Rattle.type_check.proofs.FirstFaults.{fault_passes}
use Rattle.type_check.proofs.declared.Declared.followed_by.Goals as goal

pub returns-in_err-declare_each-clause-fault : goal.returns-in_err-declare_each-clause-fault
returns-in_err-declare_each-clause-fault c =
    let d = c.args.types.now in
    fault_passes d (names_rules c.args.file d (names_of c.args.self) c.args.list.now) c.from_residual.result c.in_err-declare_each.field-0.0 c.from_residual.ensures.1
    (subst (λ names. HasFault d (names_rules c.args.file d names c.args.list.now) c.in_err-declare_each.field-0.0) (c.self.invariant.0 ∙ ap names_of c.self.view_is) c.in_err-declare_each.ensures.fault)

pub returns-clause-passed : goal.returns-clause-passed
returns-clause-passed c =
    let d = c.args.types.now in
    subst (λ names. All (Passes d) (names_rules c.args.file d names c.args.list.now)) (c.self.invariant.0 ∙ ap names_of c.self.view_is) c.in_ok-declare_each.ensures.passed
