use Rattle.std.proofs.Common.{true, false, sym, ap, ◌∙◌, append-nil, arith, rules}
use Rattle.std.specs.Prelude.{◌==◌}
use Rattle.std.proofs.lemmas.Iterator.Splits.{YieldsList-from_slice_split}
use Rattle.goal_files.proofs.TextParts.{nothing_kept, few_before, part_kept, all_kept}
use Rattle.goal_files.proofs.text_lines.kept_lines.Goals as goal

pub loop-part-init : goal.loop-part-init
loop-part-init c =
    let made = c.into_iter-part-iterator.ensures.into_iter_gives in
    nothing_kept _ c.args.text.now c.new-lines.result.items c.into_iter-part-iterator.result c.new-lines.ensures.items
    (YieldsList-from_slice_split _ (λ b. b == 10) c.args.text.now
    (ap (λ it. it.rest.now) made ∙ c.split-part-items.ensures.rest) (ap (λ it. it.done) made ∙ c.split-part-items.ensures.done) (ap (λ it. it.pred) made ∙ c.split-part-items.ensures.closure)
    (λ x b q k. search rules))

pub overflow_add-number : goal.overflow_add-number
overflow_add-number c =
    let few = few_before _ c.args.text.now c.loop-part.number c.loop-part.lines.items c.loop-part.part-iterator c.next.new.self c.in-Some.part c.loop-part.invariant c.in-Some.ensures.steps in
    omega arith

pub loop-part-preserved : goal.loop-part-preserved
loop-part-preserved c =
    let lines = c.loop-part.lines.items in
    part_kept _ c.args.text.now c.loop-part.number lines lines c.loop-part.part-iterator c.next.new.self c.in-Some.part c.strip_carriage_return-bytes.result.now true
    c.loop-part.invariant c.in-Some.ensures.steps c.strip_carriage_return-bytes.ensures (sym c.is_skipped.ensures ∙ c.if-not-is_skipped.false) (sym (append-nil lines))

pub loop-part-preserved-in-Continue-1 : goal.loop-part-preserved-in-Continue-1
loop-part-preserved-in-Continue-1 c =
    part_kept _ c.args.text.now c.loop-part.number c.loop-part.lines.items c.push.new.self.items c.loop-part.part-iterator c.next.new.self c.in-Some.part c.strip_carriage_return-bytes.result.now false
    c.loop-part.invariant c.in-Some.ensures.steps c.strip_carriage_return-bytes.ensures (sym c.is_skipped.ensures ∙ c.if-not-is_skipped.true) c.in_ok-push.ensures.items

pub returns : goal.returns
returns c = all_kept _ c.args.text.now c.loop-part.number c.loop-part.lines.items c.loop-part.part-iterator _ c.loop-part.invariant c.in-None.ensures.steps
