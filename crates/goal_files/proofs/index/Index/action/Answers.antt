use Rattle.std.proofs.Common.{◌≡◌, ◌∷◌, List, ℕ, map, string_bytes, sym, subst, rules}
use Rattle.grd_base.specs.Rising.{IsRisingBy}
use Rattle.goal_files.specs.Ground.{AreArguments}
use Rattle.goal_files.proofs.GroundLaws.{no_schema, no_action}
use Rattle.goal_files.proofs.Mapped.{all_mapped}
use Rattle.goal_files.proofs.index.Index.action.Goals as goal

pub returns-in_default-schema : goal.returns-in_default-schema
returns-in_default-schema c a =
    let whole : map string_bytes c.args.names.now ≡ c.as_str.result.now ∷ map string_bytes c.in-Some.arguments.now = search rules in
    no_schema c.args.self.now (map string_bytes c.args.names.now) c.as_str.result.now (map string_bytes c.in-Some.arguments.now) whole a c.in_default-schema.ensures

pub arguments-requires : goal.arguments-requires
arguments-requires c =
    let places : c.in-Some-schema.declared.now.places ≡ map (λ place. place.items) c.deref.result.now = search rules in
    all_mapped (IsRisingBy (λ k. k)) (λ place. place.items) c.deref.result.now c.in-Some-schema.declared.now.places places c.in-Some-schema.ensures.rise

pub returns-in-None : goal.returns-in-None
returns-in-None c a =
    let whole : map string_bytes c.args.names.now ≡ c.as_str.result.now ∷ map string_bytes c.in-Some.arguments.now = search rules in
    let places : map (λ place. place.items) c.deref.result.now ≡ c.in-Some-schema.declared.now.places = search rules in
    let none = rw c.in-None.is at c.in_ok-objects.ensures in
    no_action c.args.self.now (map string_bytes c.args.names.now) c.as_str.result.now (map string_bytes c.in-Some.arguments.now) whole c.in-Some-schema.schema c.in-Some-schema.declared.now c.in-Some-schema.ensures a
    (λ objects fit. none objects (subst (λ (places : List (List ℕ)). AreArguments c.args.self.now (map string_bytes c.in-Some.arguments.now) places objects) (sym places) fit))
