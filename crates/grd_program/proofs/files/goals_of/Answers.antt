use Rattle.std.proofs.Common.{◌≡◌, subst}
use Rattle.goal_files.specs.Goals.{IsGoalFault}
use Rattle.grd_program.specs.Causes.{HasGoalsCause, HasOnlyFault}
use Rattle.grd_program.proofs.FileLemmas.{has, only_fault, not_ok, plain_fault, goals_cause}
use Rattle.grd_program.proofs.files.goals_of.Goals as goal

pub returns-clause-cause : goal.returns-clause-cause
returns-clause-cause g c =
    let typed = c.args.typed.now in
    let fault = c.in-Err.fault in
    goals_cause (HasGoalsCause (g.F.Shelf.told c.args.shelf.now c.args.name.now) (g.F.Shelf.faults c.args.shelf.now) (g.F.Shelf.faults c.text_of.new.shelf) c.args.name.now typed)
    fault c.goals_status.result c.goals_status.ensures.memory c.goals_status.ensures.refused tt
    (λ plain. (
      plain,
      c.in_ok-text.ensures.quiet,
      has _ c.in_ok-text.text.items (λ text. HasOnlyFault typed text fault) c.in_ok-text.ensures.whole c.in_ok-text.ensures.short
          (subst (λ text. HasOnlyFault typed text fault) c.deref.ensures.value (record {
            has = plain_fault (IsGoalFault typed c.deref.result.now) fault (c.read_goals.ensures.fault fault c.in-Err.is) plain;
            only = only_fault (IsGoalFault typed c.deref.result.now) c.read_goals.result c.read_goals.ensures.fault_exactly fault c.in-Err.is plain;
            no_goals = λ goals spells. not_ok (λ found. found.items ≡ goals) c.read_goals.result fault c.in-Err.is plain (c.read_goals.ensures.spelled_exactly goals spells);
          })),
    ))
