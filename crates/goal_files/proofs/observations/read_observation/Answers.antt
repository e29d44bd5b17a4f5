use Rattle.std.proofs.Common.{ap, subst}
use Rattle.goal_files.specs.Observations.{HasNoList, HasUnknownAction}
use Rattle.goal_files.specs.LineReading.{PlainLine}
use Rattle.goal_files.proofs.LineFaults.{unknown_action}
use Rattle.goal_files.proofs.observations.read_observation.Goals as goal

pub returns-in_default-clause-fault : goal.returns-in_default-clause-fault
returns-in_default-clause-fault c =
    let none = rw c.in_default.is at c.in_ok-names.ensures in
    (ap (λ (l : PlainLine). l.number) c.line.view_is, subst (λ (l : PlainLine). HasNoList l.bytes) c.line.view_is none)

pub returns-clause-fault : goal.returns-clause-fault
returns-clause-fault c =
    let spells = rw c.in-Some.is at c.in_ok-names.ensures in
    let none = rw c.in-None.is at c.in_ok-action.ensures in (
      ap (λ (l : PlainLine). l.number) c.line.view_is,
      subst (λ (l : PlainLine). HasUnknownAction c.args.index.now l.bytes) c.line.view_is (unknown_action c.args.index.now c.line.inside.bytes.now _ spells (rw c.deref.ensures.value at none)),
    )
