use Rattle.std.proofs.Common.{◌≡◌, sym, ◌∙◌, ap}
use Rattle.strips_model.specs.Values.{PlainTask}
use Rattle.strips_model.proofs.MoveLemmas.{numbers_from, all_numbers}
use Rattle.strips_model.proofs.moves.gather.Goals as goal

pub loop-i-init : goal.loop-i-init
loop-i-init c =
    let same : c.deref-action-items.result.now ≡ c.args.task.now.actions = c.deref-action-items.ensures.value ∙ ap (λ (t : PlainTask). t.actions) c.task.view_is in
    rw c.new-numbers.ensures.items (ap (numbers_from c.args.removed.now 0) same ∙ sym (all_numbers c.args.task.now c.args.removed.now))
