use Rattle.type_check.proofs.OneTyped.{only_fault, typed_exactly, makes, fault_exactly}
use Rattle.type_check.proofs.typing.check.Goals as goal

pub returns-clause-fault : goal.returns-clause-fault
returns-clause-fault c f e = only_fault c.args.domain.now c.args.problem.now c.made.result c.made.ensures.fault f e

pub returns-clause-typed_exactly : goal.returns-clause-typed_exactly
returns-clause-typed_exactly c t well is = typed_exactly c.args.domain.now c.args.problem.now c.made.result c.made.ensures.typed c.made.ensures.fault t well is

pub returns-clause-makes : goal.returns-clause-makes
returns-clause-makes c well = makes c.args.domain.now c.args.problem.now c.made.result c.made.ensures.fault well

pub returns-clause-fault_exactly : goal.returns-clause-fault_exactly
returns-clause-fault_exactly c f is = fault_exactly c.args.domain.now c.args.problem.now c.made.result c.made.ensures.well_typed c.made.ensures.fault f is
