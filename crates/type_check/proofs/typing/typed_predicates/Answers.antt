use Rattle.std.proofs.Common.{arith}
use Rattle.type_check.specs.Typing.{IsTypedPredicate}
use Rattle.type_check.proofs.Pairs.{pairs_more}
use Rattle.type_check.proofs.typing.typed_predicates.Goals as goal

pub loop-predicate-preserved : goal.loop-predicate-preserved
loop-predicate-preserved c =
    pairs_more (IsTypedPredicate c.args.files.now.domain c.args.files.now.problem) c.args.predicates.now c.loop-predicate.typed.items _
    c.loop-predicate.predicate-index c.predicate-item.result c.in_ok-typed_predicate.field-0 (omega arith) c.predicate-item.is
    c.in_ok-push.ensures.items c.loop-predicate.invariant c.in_ok-typed_predicate.ensures
