use Rattle.std.proofs.Common.{◌≡◌, ◌||◌, sym, ◌∙◌, ap}
use Rattle.strips_model.specs.Worlds.{numbers_of, is_blocked, is_barred}
use Rattle.type_check.specs.Values.{PlainTypedSchema, is_same_atom}
use Rattle.ground_all.specs.Grounding.{positives, negatives}
use Rattle.ground_all.specs.Found.{start_world}
use Rattle.ground_all.proofs.TaskLaws.{action_is}
use Rattle.ground_all.proofs.tasks.world_action.Goals.{then-is_blocked, else-is_blocked}
use Rattle.ground_all.proofs.tasks.world_action.Goals as goal

pub returns : goal.returns
returns c =
    let objects = c.args.objects.now in
    let w = start_world c.args.atoms.now in
    let pre = c.in_ok-pre.pre.items in
    let absent = c.in_ok-absent.absent.items in
    let add = c.in_ok-add.add.items in
    let del = c.in_ok-del.del.items in
    let blocked : c.if-is_blocked.result ≡ (is_blocked is_same_atom w pre || is_barred is_same_atom w absent) = elim c.if-is_blocked.branch [
      | then-is_blocked b ↦
          b.result-is ∙ b.if-is_blocked.true ∙ ap (λ t. t || is_barred is_same_atom w absent) (sym (sym (c.is_blocked.ensures ∙ ap (is_blocked is_same_atom w) c.deref-9.ensures.value) ∙ b.if-is_blocked.true))
      | else-is_blocked b ↦
          b.result-is ∙ b.is_barred.ensures ∙ ap (is_barred is_same_atom w) b.deref-else-is_blocked.ensures.value
          ∙ ap (λ t. t || is_barred is_same_atom w absent) (sym (sym (c.is_blocked.ensures ∙ ap (is_blocked is_same_atom w) c.deref-9.ensures.value) ∙ b.if-is_blocked.false))
    ] in
    action_is w c.args.schema.now objects
    c.in_ok-numbers_of.field-0.items c.in_ok-numbers_of-2.field-0.items c.in_ok-numbers_of-3.field-0.items c.in_ok-numbers_of-4.field-0.items c.if-is_blocked.result
    pre absent add del
    (c.in_ok-pre.ensures ∙ ap (positives objects) (c.deref.ensures.value ∙ ap (λ (s : PlainTypedSchema). s.pre) c.schema.view_is))
    (c.in_ok-absent.ensures ∙ ap (negatives objects) (c.deref-2.ensures.value ∙ ap (λ (s : PlainTypedSchema). s.pre) c.schema.view_is))
    (c.in_ok-add.ensures ∙ ap (positives objects) (c.deref-3.ensures.value ∙ ap (λ (s : PlainTypedSchema). s.effect) c.schema.view_is))
    (c.in_ok-del.ensures ∙ ap (negatives objects) (c.deref-4.ensures.value ∙ ap (λ (s : PlainTypedSchema). s.effect) c.schema.view_is))
    (c.in_ok-numbers_of.ensures ∙ ap (numbers_of is_same_atom w) c.deref-5.ensures.value)
    (c.in_ok-numbers_of-2.ensures ∙ ap (numbers_of is_same_atom w) c.deref-6.ensures.value)
    (c.in_ok-numbers_of-3.ensures ∙ ap (numbers_of is_same_atom w) c.deref-7.ensures.value)
    (c.in_ok-numbers_of-4.ensures ∙ ap (numbers_of is_same_atom w) c.deref-8.ensures.value)
    blocked
