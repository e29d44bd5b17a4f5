use Rattle.std.proofs.Common.{◌≡◌, get_or, arith, rules}
use Rattle.goal_files.proofs.NumberedNames.{not_before, names_more}
use Rattle.goal_files.proofs.index.object_names.Goals as goal

pub add-requires : goal.add-requires
add-requires c =
    let is : c.as_str.result.now ≡ (get_or c.args.objects.now c.loop-object.object-index c.object-item.result).name.text = search rules in
    not_before (λ x. x.name.text) c.args.objects.now c.loop-object.object-index c.object-item.result (omega arith) c.loop-object.names c.as_str.result.now c.loop-object.invariant is c.requires

pub loop-object-preserved : goal.loop-object-preserved
loop-object-preserved c =
    let is : c.as_str.result.now ≡ (get_or c.args.objects.now c.loop-object.object-index c.object-item.result).name.text = search rules in
    names_more (λ x. x.name.text) c.args.objects.now c.loop-object.object-index c.object-item.result (omega arith) c.loop-object.names c.as_str.result.now c.loop-object.invariant is c.add.new.self c.in_ok-add.ensures
