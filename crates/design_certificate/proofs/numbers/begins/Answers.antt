use Rattle.std.proofs.Common.{◌∙◌, ap, sym, subst, List}
use Rattle.std.specs.Prelude.{Contains}
use Rattle.grd_base.specs.declared.ids.GoalId.{GoalId}
use Rattle.strips_model.specs.Values.{PlainTask}
use Rattle.strips_model.specs.Plans.{set_of}
use Rattle.design_certificate.specs.Live.{PlainLiveRow, HasNumber}
use Rattle.design_certificate.proofs.numbers.begins.Goals as goal

pub returns : goal.returns
returns c =
    let state = c.as_slice.ensures.value ∙ ap (λ (r : PlainLiveRow). r.state) c.row.view_is in
    let init = c.as_slice-else-row-ne0.ensures.value ∙ ap (λ (t : PlainTask). t.init) c.task.view_is in
    let goals = c.as_slice-2.ensures.value ∙ ap (λ (r : PlainLiveRow). r.goals) c.row.view_is in (
      λ h. record {
        depth = sym (ap (λ (r : PlainLiveRow). r.depth) c.row.view_is) ∙ c.if-row-ne0.false;
        state = sym (ap set_of state) ∙ c.same_atoms.ensures.0 c.if-not-same_atoms.false ∙ ap set_of init;
        goals = subst (λ (xs : List GoalId). (g : GoalId) → HasNumber c.args.costs.now g → Contains xs g) goals (c.has_given.ensures.0 h);
      },
      λ x. c.has_given.ensures.1 (subst (λ (xs : List GoalId). (g : GoalId) → HasNumber c.args.costs.now g → Contains xs g) (sym goals) x.goals),
    )
