use Rattle.std.proofs.Common.{ap, ◌∙◌, subst}
use Rattle.type_check.specs.Values.{PlainTyped}
use Rattle.goal_files.specs.LineReading.{IsIndexed}
use Rattle.goal_files.proofs.GroundLaws.{few_schemas, only_schema}
use Rattle.goal_files.proofs.index.Index.schema.Goals as goal

pub number_of-requires : goal.number_of-requires
number_of-requires c = few_schemas c.self.inside.typed.now _ _ _ c.self.invariant

pub returns : goal.returns
returns c =
    let indexed = subst (λ t. IsIndexed t c.self.inside.predicates c.self.inside.schemas c.self.inside.objects) c.self.view_is c.self.invariant in
    only_schema c.args.self.now _ _ _ indexed c.args.name.now c.in_ok-number.number c.typed.inside.schemas.items c.index.result.now c.in_ok-number.ensures
    (ap (λ (t : PlainTyped). t.schemas) (c.typed.view_is ∙ c.self.view_is)) c.index.ensures
