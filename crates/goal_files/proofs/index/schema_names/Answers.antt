use Rattle.std.proofs.Common.{◌≡◌, get_or, arith, rules}
use Rattle.goal_files.proofs.NumberedNames.{not_before, names_more}
use Rattle.goal_files.proofs.index.schema_names.Goals as goal

pub add-requires : goal.add-requires
add-requires c =
    let is : c.as_str.result.now ≡ (get_or c.args.schemas.now c.loop-schema.schema-index c.schema-item.result).name.text = search rules in
    not_before (λ x. x.name.text) c.args.schemas.now c.loop-schema.schema-index c.schema-item.result (omega arith) c.loop-schema.names c.as_str.result.now c.loop-schema.invariant is c.requires

pub loop-schema-preserved : goal.loop-schema-preserved
loop-schema-preserved c =
    let is : c.as_str.result.now ≡ (get_or c.args.schemas.now c.loop-schema.schema-index c.schema-item.result).name.text = search rules in
    names_more (λ x. x.name.text) c.args.schemas.now c.loop-schema.schema-index c.schema-item.result (omega arith) c.loop-schema.names c.as_str.result.now c.loop-schema.invariant is c.add.new.self c.in_ok-add.ensures
