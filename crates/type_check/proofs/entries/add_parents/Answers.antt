use Rattle.std.proofs.Common.{subst}
use Rattle.type_check.specs.Types.{type_of}
use Rattle.type_check.specs.Tables.{AddsTo}
use Rattle.type_check.proofs.NameLaws.{firsts_next}
use Rattle.type_check.proofs.entries.add_parents.Goals as goal

pub loop-n-preserved : goal.loop-n-preserved
loop-n-preserved c = λ front is.
    let adds = subst (λ t. AddsTo c.loop-n.names c.add.new.self t c.in_ok-add.field-0) c.type_text.ensures c.in_ok-add.ensures.added in
    firsts_next type_of front c.args.types.now c.loop-n.n-index c.n-item.result c.loop-n-test.true c.n-item.is c.loop-n.names c.add.new.self c.in_ok-add.field-0 (c.loop-n.invariant front is) adds
