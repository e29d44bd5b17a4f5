use Rattle.std.proofs.Common.{◌≤◌, ◌^◌, length, sym, ◌∙◌, ap, subst}
use Rattle.std.specs.List.{All}
use Rattle.type_check.specs.Values.{PlainTyped, PlainTypedSchema}
use Rattle.ground_all.specs.Tuples.{tuples}
use Rattle.ground_all.proofs.TaskLaws.{few_tuples, task_is, parts_are}
use Rattle.ground_all.proofs.tasks.task.Goals as goal

pub instances-requires-clause-few : goal.instances-requires-clause-few
instances-requires-clause-few c =
    let whole = c.typed.view_is ∙ c.typed-typed.ensures.typed in
    let schemas = c.deref.ensures.value ∙ ap (λ (t : PlainTyped). t.schemas) whole in
    subst (All (λ (s : PlainTypedSchema). length (tuples s.places) ≤ 2 ^ 20)) (sym schemas) (few_tuples (2 ^ 20) c.args.atoms.now c.requires.few_actions)

pub invariant_of-result : goal.invariant_of-result
invariant_of-result c =
    let whole = c.typed.view_is ∙ c.typed-typed.ensures.typed in
    parts_are c.args.atoms.now c.args.goals.now c.count.result c.in_ok-init.init.items c.in_ok-actions.actions.items c.in_ok-goals.goals.items c.deref.result.now
    c.count.ensures (c.deref.ensures.value ∙ ap (λ (t : PlainTyped). t.schemas) whole)
    c.in_ok-init.ensures c.in_ok-actions.ensures c.in_ok-goals.ensures c.typed-typed.ensures.few c.requires.few_actions c.requires.few_goals

pub returns : goal.returns
returns c =
    let whole = c.typed.view_is ∙ c.typed-typed.ensures.typed in
    task_is c.args.atoms.now c.args.goals.now c.count.result c.in_ok-init.init.items c.in_ok-actions.actions.items c.in_ok-goals.goals.items c.deref.result.now
    c.count.ensures (c.deref.ensures.value ∙ ap (λ (t : PlainTyped). t.schemas) whole)
    c.in_ok-init.ensures c.in_ok-actions.ensures c.in_ok-goals.ensures
