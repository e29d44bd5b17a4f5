use Rattle.std.proofs.Common.{◌≡◌, ◌∷◌, List, ℕ, map, string_bytes, sym, subst, rules}
use Rattle.grd_base.specs.Rising.{IsRisingBy}
use Rattle.goal_files.specs.Ground.{AreArguments}
use Rattle.goal_files.proofs.GroundLaws.{no_predicate, no_atom}
use Rattle.goal_files.proofs.Mapped.{all_mapped}
use Rattle.goal_files.proofs.index.Index.atom.Goals as goal

pub returns-in_default-predicate : goal.returns-in_default-predicate
returns-in_default-predicate c a =
    let whole : map string_bytes c.args.names.now ≡ c.as_str.result.now ∷ map string_bytes c.in-Some.arguments.now = search rules in
    no_predicate c.args.self.now (map string_bytes c.args.names.now) c.as_str.result.now (map string_bytes c.in-Some.arguments.now) whole a c.in_default-predicate.ensures

pub arguments-requires : goal.arguments-requires
arguments-requires c =
    let places : c.in-Some-predicate.declared.now.places ≡ map (λ place. place.items) c.deref.result.now = search rules in
    all_mapped (IsRisingBy (λ k. k)) (λ place. place.items) c.deref.result.now c.in-Some-predicate.declared.now.places places c.in-Some-predicate.ensures.rise

pub returns-in-None : goal.returns-in-None
returns-in-None c a =
    let whole : map string_bytes c.args.names.now ≡ c.as_str.result.now ∷ map string_bytes c.in-Some.arguments.now = search rules in
    let places : map (λ place. place.items) c.deref.result.now ≡ c.in-Some-predicate.declared.now.places = search rules in
    let none = rw c.in-None.is at c.in_ok-objects.ensures in
    no_atom c.args.self.now (map string_bytes c.args.names.now) c.as_str.result.now (map string_bytes c.in-Some.arguments.now) whole c.in-Some-predicate.predicate c.in-Some-predicate.declared.now c.in-Some-predicate.ensures a
    (λ objects fit. none objects (subst (λ (places : List (List ℕ)). AreArguments c.args.self.now (map string_bytes c.in-Some.arguments.now) places objects) (sym places) fit))
