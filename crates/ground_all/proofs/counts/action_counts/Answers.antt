use Rattle.std.proofs.Common.{length, ap, ◌∙◌, arith}
use Rattle.type_check.specs.Values.{PlainTyped, PlainTypedSchema}
use Rattle.ground_all.specs.Tuples.{tuples}
use Rattle.ground_all.proofs.BlockCounts.{name_counts_more, name_counts_all}
use Rattle.ground_all.proofs.counts.action_counts.Goals as goal

pub loop-schema-preserved : goal.loop-schema-preserved
loop-schema-preserved c =
    name_counts_more c.args.typed.now c.deref-schema-items.result.now (c.deref-schema-items.ensures.value ∙ ap (λ (t : PlainTyped). t.schemas) c.typed.view_is) c.loop-schema.schema-index c.count.result c.schema-item.result c.loop-schema.counts.items _
    (omega arith) c.schema-item.is c.loop-schema.invariant c.in_ok-push.ensures.items
    (rw c.deref.ensures.value at c.count.ensures ∙ ap (λ (s : PlainTypedSchema). length (tuples s.places)) c.schema.view_is)

pub returns : goal.returns
returns c = name_counts_all c.args.typed.now c.deref-schema-items.result.now (c.deref-schema-items.ensures.value ∙ ap (λ (t : PlainTyped). t.schemas) c.typed.view_is) c.loop-schema.schema-index c.loop-schema.counts.items (omega arith) c.loop-schema.invariant
