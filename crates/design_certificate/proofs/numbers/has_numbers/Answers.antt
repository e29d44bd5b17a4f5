use Rattle.std.proofs.Common.{◌≤◌, ◌∙◌, ap, sym, subst, arith, List}
use Rattle.std.specs.Prelude.{All}
use Rattle.grd_base.specs.declared.ids.GoalId.{GoalId}
use Rattle.design_certificate.specs.Live.{PlainLiveRow, HasNumber}
use Rattle.design_certificate.proofs.numbers.has_numbers.Goals as goal

pub returns : goal.returns
returns c =
    let goals = c.as_slice.ensures.value ∙ ap (λ (r : PlainLiveRow). r.goals) c.row.view_is in
    let low : c.args.row.now.depth ≤ c.args.length = omega (arith, ap (λ (r : PlainLiveRow). r.depth) c.row.view_is, c.if-length-row.false) in (
      λ h. (low, subst (λ (xs : List GoalId). All (HasNumber c.args.costs.now) xs) goals (c.are_numbered.ensures.0 h)),
      λ x. c.are_numbered.ensures.1 (subst (λ (xs : List GoalId). All (HasNumber c.args.costs.now) xs) (sym goals) x.1),
    )
