use Rattle.std.proofs.Common.{◌∙◌, ap, subst, List}
use Rattle.std.specs.Prelude.{◌↔◌, IsTrue, All, Contains}
use Rattle.grd_base.specs.declared.ids.GoalId.{GoalId}
use Rattle.design_certificate.specs.Live.{PlainLiveRow}
use Rattle.design_certificate.proofs.index.has_all.Goals as goal

pub returns : goal.returns
returns c =
    let same = c.as_slice.ensures.value ∙ ap (λ (r : PlainLiveRow). r.goals) c.row.view_is in
    subst (λ (xs : List GoalId). IsTrue c.has_goals_of.result ↔ All (Contains xs) c.args.wanted.now) same c.has_goals_of.ensures
