use Rattle.std.proofs.Common.{◌≡◌, Ok, IfErr, sym, subst}
use Rattle.std.specs.Prelude.{IfOk}
use Rattle.pddl_reader.specs.Items.{IsFaultOf, forms_at}
use Rattle.pddl_reader.proofs.TypedReadings.{either_type}
use Rattle.pddl_reader.proofs.typed.list_type.Goals as goal

pub returns-in-Variables-clause-read : goal.returns-in-Variables-clause-read
returns-in-Variables-clause-read c =
    let same = either_type c.args.listed c.args.at (forms_at c.args.text.now c.args.items.now) c.in-Variables.is in
    subst (λ read. IfOk c.either.result (λ types. read ≡ Ok types.items)) (sym same) c.either.ensures.read

pub returns-in-Variables-clause-fault : goal.returns-in-Variables-clause-fault
returns-in-Variables-clause-fault c =
    let same = either_type c.args.listed c.args.at (forms_at c.args.text.now c.args.items.now) c.in-Variables.is in
    subst (λ read. IfErr c.either.result (IsFaultOf read)) (sym same) c.either.ensures.fault
