use Rattle.std.proofs.Common.{◌∙◌, ap, subst}
use Rattle.strips_model.specs.Values.{PlainTask, IsTask}
use Rattle.observation_compile.proofs.CompileLemmas.{parts_are}
use Rattle.observation_compile.proofs.compile.observed.Goals as goal

pub invariant_of-result : goal.invariant_of-result
invariant_of-result c =
    let whole = c.task.view_is in
    parts_are c.args.task.now c.args.observations.now c.task.inside.atoms c.in_ok-from_slice.field-0.items c.in_ok-actions.field-0.items c.in_ok-goals.field-0.items
    (subst IsTask whole c.task.invariant) c.requires.few_atoms c.requires.few_observations c.requires.few_actions
    (ap (λ (t : PlainTask). t.atoms) whole) (c.in_ok-from_slice.ensures.items ∙ c.as_slice.ensures.value ∙ ap (λ (t : PlainTask). t.init) whole)
    c.in_ok-actions.ensures c.in_ok-goals.ensures
