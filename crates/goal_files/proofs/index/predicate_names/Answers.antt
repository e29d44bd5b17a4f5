use Rattle.std.proofs.Common.{◌≡◌, get_or, arith, rules}
use Rattle.goal_files.proofs.NumberedNames.{not_before, names_more}
use Rattle.goal_files.proofs.index.predicate_names.Goals as goal

pub add-requires : goal.add-requires
add-requires c =
    let is : c.as_str.result.now ≡ (get_or c.args.predicates.now c.loop-predicate.predicate-index c.predicate-item.result).name.text = search rules in
    not_before (λ x. x.name.text) c.args.predicates.now c.loop-predicate.predicate-index c.predicate-item.result (omega arith) c.loop-predicate.names c.as_str.result.now c.loop-predicate.invariant is c.requires

pub loop-predicate-preserved : goal.loop-predicate-preserved
loop-predicate-preserved c =
    let is : c.as_str.result.now ≡ (get_or c.args.predicates.now c.loop-predicate.predicate-index c.predicate-item.result).name.text = search rules in
    names_more (λ x. x.name.text) c.args.predicates.now c.loop-predicate.predicate-index c.predicate-item.result (omega arith) c.loop-predicate.names c.as_str.result.now c.loop-predicate.invariant is c.add.new.self c.in_ok-add.ensures
