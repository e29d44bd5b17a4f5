use Rattle.std.proofs.Common.{◌<◌, ◌≡◌, Err, length, sym, subst, ap}
use Rattle.grd_base.specs.declared.ids.GoalId.{GoalId}
use Rattle.grd_base.specs.Counts.{MoreThan}
use Rattle.strips_model.specs.Reached.{IsNear}
use Rattle.optimal_search.specs.declared.faults.GoalSearchFault.TheVariants.{TooManyStates}
use Rattle.optimal_search.proofs.cost.cost_of.Goals as goal

pub returns-in-Err-clause-many : goal.returns-in-Err-clause-many
returns-in-Err-clause-many g c = λ other e.
    let same : c.of.result ≡ TooManyStates other = cc in
    let both = (c.of.ensures other).0 same in
    subst (λ (h : GoalId). (h.0 < length c.args.table.now.goals) × MoreThan c.args.states (IsNear c.args.table.now h)) (sym both.1)
    (c.requires.goal, c.in-Err.ensures.many (ap Err both.0))
