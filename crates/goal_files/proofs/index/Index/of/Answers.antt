use Rattle.std.proofs.Common.{◌≡◌, List, map, sym, subst, rules}
use Rattle.type_check.specs.Values.{PlainTypedPredicate, PlainTypedSchema, PlainTypedObject}
use Rattle.type_check.specs.Numbered.{AreNumbered}
use Rattle.type_check.proofs.TypedTasks.{predicates_numbered, schemas_numbered, objects_numbered}
use Rattle.goal_files.proofs.index.Index.of.Goals as goal

pub predicate_names-requires : goal.predicate_names-requires
predicate_names-requires c =
    let is : c.deref.result.now ≡ c.args.typed.now.predicates = search rules in
    subst (λ (qs : List PlainTypedPredicate). AreNumbered (map (λ q. q.name.text) qs)) (sym is) (predicates_numbered c.args.typed.now c.requires)

pub schema_names-requires : goal.schema_names-requires
schema_names-requires c =
    let is : c.deref-2.result.now ≡ c.args.typed.now.schemas = search rules in
    subst (λ (ss : List PlainTypedSchema). AreNumbered (map (λ s. s.name.text) ss)) (sym is) (schemas_numbered c.args.typed.now c.requires)

pub object_names-requires : goal.object_names-requires
object_names-requires c =
    let is : c.deref-3.result.now ≡ c.args.typed.now.objects = search rules in
    subst (λ (os : List PlainTypedObject). AreNumbered (map (λ o. o.name.text) os)) (sym is) (objects_numbered c.args.typed.now c.requires)
