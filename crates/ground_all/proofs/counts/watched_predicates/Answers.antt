use Rattle.std.proofs.Common.{ap, ◌∙◌, arith}
use Rattle.type_check.specs.Values.{PlainTyped}
use Rattle.ground_all.proofs.WatchedLaws.{watched_all}
use Rattle.ground_all.proofs.counts.watched_predicates.Goals as goal

pub returns : goal.returns
returns c =
    watched_all c.args.typed.now c.deref-schema-items.result.now (c.deref-schema-items.ensures.value ∙ ap (λ (t : PlainTyped). t.schemas) c.typed.view_is) c.loop-schema.schema-index c.loop-schema.marks.items (omega arith) c.loop-schema.invariant.long
    c.loop-schema.invariant.marked
