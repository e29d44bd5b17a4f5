use Rattle.std.proofs.Common.{List, subst, rules}
use Rattle.grd_base.specs.declared.ids.ActionId.{ActionId}
use Rattle.grd_base.specs.Counts.{MoreThan}
use Rattle.strips_model.specs.Reached.{IsNearWithout}
use Rattle.optimal_search.specs.Plans.{IsLeastPlan}
use Rattle.optimal_search.proofs.AskLaws.{passed_on}
use Rattle.optimal_search.proofs.cost.cost_in.Goals as goal

pub returns-in_err-found-clause-many : goal.returns-in_err-found-clause-many
returns-in_err-found-clause-many g c = λ e.
    let space = c.args.space.now in
    subst (λ (removed : List ActionId). MoreThan c.args.states (IsNearWithout space.task space.goal removed)) c.requires.removed
    (c.in_err-found.ensures.many (passed_on c.from_residual.result _ _ c.from_residual.ensures.1 e))

pub shown_cost-requires : goal.shown_cost-requires
shown_cost-requires g c =
    let space = c.args.space.now in
    let least = subst (λ (removed : List ActionId). IsLeastPlan space.task space.goal removed c.args.states c.in_ok-found.found) c.requires.removed c.in_ok-found.ensures.least in
    (search rules, (search rules, (c.requires.width, (c.requires.states, (c.requires.removed, least)))))
