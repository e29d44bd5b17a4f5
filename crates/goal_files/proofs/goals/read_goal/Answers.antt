use Rattle.std.proofs.Common.{ap, subst}
use Rattle.goal_files.specs.Goals.{HasNoAtoms, HasUnknownAtom}
use Rattle.goal_files.specs.LineReading.{PlainLine}
use Rattle.goal_files.proofs.LineFaults.{unknown_atom}
use Rattle.goal_files.proofs.goals.read_goal.Goals as goal

pub returns-in_default-clause-fault : goal.returns-in_default-clause-fault
returns-in_default-clause-fault c =
    let none = rw c.in_default.is at c.in_ok-atoms.ensures in
    (ap (λ (l : PlainLine). l.number) c.line.view_is, subst (λ (l : PlainLine). HasNoAtoms l.bytes) c.line.view_is none)

pub returns-clause-fault : goal.returns-clause-fault
returns-clause-fault c =
    let spells = rw c.in-Some.is at c.in_ok-atoms.ensures in
    let none = rw c.in-None.is at c.in_ok-goal.ensures in (
      ap (λ (l : PlainLine). l.number) c.line.view_is,
      subst (λ (l : PlainLine). HasUnknownAtom c.args.index.now l.bytes) c.line.view_is (unknown_atom c.args.index.now c.line.inside.bytes.now _ spells (rw c.deref.ensures.value at none)),
    )
