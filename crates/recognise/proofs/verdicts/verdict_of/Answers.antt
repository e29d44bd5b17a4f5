use Rattle.std.proofs.Common.{◌≡◌, Err, sym, subst, ap}
use Rattle.grd_base.specs.declared.ids.GoalId.{GoalId}
use Rattle.grd_base.specs.Counts.{MoreThan}
use Rattle.strips_model.specs.Reached.{IsNearObserved}
use Rattle.optimal_search.specs.declared.faults.GoalSearchFault.TheVariants.{TooManyStates}
use Rattle.recognise.proofs.verdicts.verdict_of.Goals as goal

pub returns-in-Err-clause-many : goal.returns-in-Err-clause-many
returns-in-Err-clause-many g c = λ other e.
    let same : c.of.result ≡ TooManyStates other = cc in
    let both = (c.of.ensures other).0 same in
    (both.1, subst (λ (h : GoalId). MoreThan c.args.limits.states (IsNearObserved c.args.task.now c.args.observations.now h)) (sym both.1) (c.in-Err.ensures.many (ap Err both.0)))
