use Rattle.std.proofs.Common.{◌≡◌, ◌<◌, List, ◌++◌, take, ℕ, ap, sym, ◌∙◌, subst, arith, length, map, slice_get, Some, Vec, Global}
use Rattle.std.proofs.lemmas.List.{length-map, take_at}
use borrow.Rule.Slice.PartMut.{post_of}
use Rattle.type_check.specs.Values.{PlainTyped, PlainTypedSchema}
use Rattle.ground_all.specs.Tuples.{tuples}
use Rattle.ground_all.specs.Grounding.{instances, PlainGrounded}
use Rattle.ground_all.specs.Found.{name_blocks, IsActionAt}
use Rattle.ground_all.specs.Sound.{ArePlaces}
use Rattle.ground_all.proofs.SoundLaws.{sound}
use Rattle.ground_all.proofs.BlockLaws.{instances_sum}
use Rattle.ground_all.proofs.ItemPlaces.{action_list, placed_action, schema_places, schema_there, name_tuple, action_there}
use Rattle.ground_all.proofs.grounded.Grounded.action_at.Goals as goal

-- a number of the world seen is one of the typed files kept
within : (t : PlainTyped) (g : PlainGrounded) (number : ℕ) → t ≡ g.typed → number < length (instances g.typed) → number < length (instances t)
within t g number same one = subst (λ t. number < length (instances t)) (sym same) one

pub place_in-schema-requires : goal.place_in-schema-requires
place_in-schema-requires c =
    let t = c.self.inside.typed.now in
    let one = within t c.args.self.now c.args.a.0 (ap (λ (g : PlainGrounded). g.typed) c.self.view_is) c.requires in
    (map length (name_blocks t), c.deref.ensures.value ∙ c.self.invariant.actions, omega (arith, one, instances_sum t))

pub index-schema-requires : goal.index-schema-requires
index-schema-requires c =
    let t = c.self.inside.typed.now in
    let one = within t c.args.self.now c.args.a.0 (ap (λ (g : PlainGrounded). g.typed) c.self.view_is) c.requires in
    let is = action_list t c.deref.result.now c.args.a.0 c.place_in-schema.result.0 c.place_in-schema.result.1 (c.deref.ensures.value ∙ c.self.invariant.actions) one c.place_in-schema.ensures in
    omega (arith, schema_there t c.args.a.0 c.place_in-schema.result.0 c.place_in-schema.result.1 is, ap (λ (t : PlainTyped). length t.schemas) c.typed.view_is, c.typed.inside.schemas.ok.0)

pub slice_bounds-fill-end : goal.slice_bounds-fill-end
slice_bounds-fill-end c =
    let t = c.self.inside.typed.now in
    let s = c.index-schema.result.now in
    let one = within t c.args.self.now c.args.a.0 (ap (λ (g : PlainGrounded). g.typed) c.self.view_is) c.requires in
    let placed = placed_action t c.deref.result.now c.args.a.0 c.place_in-schema.result.0 c.place_in-schema.result.1 s c.typed.inside.schemas.items
    (c.deref.ensures.value ∙ c.self.invariant.actions) one c.place_in-schema.ensures (ap (λ (t : PlainTyped). t.schemas) c.typed.view_is) c.index-schema.ensures in
    let places = schema_places t c.place_in-schema.result.0 s (sound t c.self.invariant.typed) placed.declared in
    omega (
      arith,
      places.few,
      c.len-count.ensures,
      c.schema.inside.places.ok.0,
      ap (λ (s : PlainTypedSchema). length s.places) c.schema.view_is,
      length-map c.schema.inside.places.items (λ (place : Vec ℕ Global). place.items),
    )

pub fill-requires-clause-places : goal.fill-requires-clause-places
fill-requires-clause-places c =
    let t = c.self.inside.typed.now in
    let s = c.index-schema.result.now in
    let one = within t c.args.self.now c.args.a.0 (ap (λ (g : PlainGrounded). g.typed) c.self.view_is) c.requires in
    let placed = placed_action t c.deref.result.now c.args.a.0 c.place_in-schema.result.0 c.place_in-schema.result.1 s c.typed.inside.schemas.items
    (c.deref.ensures.value ∙ c.self.invariant.actions) one c.place_in-schema.ensures (ap (λ (t : PlainTyped). t.schemas) c.typed.view_is) c.index-schema.ensures in
    let places = schema_places t c.place_in-schema.result.0 s (sound t c.self.invariant.typed) placed.declared in
    let listed : map {A = Vec ℕ Global} {B = List ℕ} (λ place. place.items) c.deref-2.result.now ≡ s.places =
    ap (map (λ (place : Vec ℕ Global). place.items)) c.deref-2.ensures.value ∙ ap (λ (s : PlainTypedSchema). s.places) c.schema.view_is in
    subst ArePlaces (sym listed) places

pub fill-requires-clause-one : goal.fill-requires-clause-one
fill-requires-clause-one c =
    let t = c.self.inside.typed.now in
    let s = c.index-schema.result.now in
    let one = within t c.args.self.now c.args.a.0 (ap (λ (g : PlainGrounded). g.typed) c.self.view_is) c.requires in
    let placed = placed_action t c.deref.result.now c.args.a.0 c.place_in-schema.result.0 c.place_in-schema.result.1 s c.typed.inside.schemas.items
    (c.deref.ensures.value ∙ c.self.invariant.actions) one c.place_in-schema.ensures (ap (λ (t : PlainTyped). t.schemas) c.typed.view_is) c.index-schema.ensures in
    let places = schema_places t c.place_in-schema.result.0 s (sound t c.self.invariant.typed) placed.declared in
    let listed : map {A = Vec ℕ Global} {B = List ℕ} (λ place. place.items) c.deref-2.result.now ≡ s.places =
    ap (map (λ (place : Vec ℕ Global). place.items)) c.deref-2.ensures.value ∙ ap (λ (s : PlainTypedSchema). s.places) c.schema.view_is in
    subst (λ places. c.place_in-schema.result.1 < length (tuples places)) (sym listed)
    (name_tuple t c.place_in-schema.result.0 s placed.declared c.args.a.0 c.place_in-schema.result.1 placed.is)

pub returns-clause-action : goal.returns-clause-action
returns-clause-action c =
    let t = c.self.inside.typed.now in
    let s = c.index-schema.result.now in
    let one = within t c.args.self.now c.args.a.0 (ap (λ (g : PlainGrounded). g.typed) c.self.view_is) c.requires in
    let placed = placed_action t c.deref.result.now c.args.a.0 c.place_in-schema.result.0 c.place_in-schema.result.1 s c.typed.inside.schemas.items
    (c.deref.ensures.value ∙ c.self.invariant.actions) one c.place_in-schema.ensures (ap (λ (t : PlainTyped). t.schemas) c.typed.view_is) c.index-schema.ensures in
    let places = schema_places t c.place_in-schema.result.0 s (sound t c.self.invariant.typed) placed.declared in
    let listed : map {A = Vec ℕ Global} {B = List ℕ} (λ place. place.items) c.deref-2.result.now ≡ s.places =
    ap (map (λ (place : Vec ℕ Global). place.items)) c.deref-2.ensures.value ∙ ap (λ (s : PlainTypedSchema). s.places) c.schema.view_is in
    let there = action_there t c.place_in-schema.result.0 s placed.declared c.args.a.0 c.place_in-schema.result.1 placed.is c.fill.new.objects
    (subst (λ places. slice_get (tuples places) c.place_in-schema.result.1 ≡ Some c.fill.new.objects) listed c.fill.ensures) in
    let front = take_at c.fill.new.objects (post_of 0 c.len-count.result c.args.objects.now) c.len-count.result (omega (arith, c.fill.auto.objects)) in
    subst (λ t. IsActionAt t c.args.a.0 s (take c.len-count.result (c.fill.new.objects ++ post_of 0 c.len-count.result c.args.objects.now))) (ap (λ (g : PlainGrounded). g.typed) c.self.view_is)
    (subst (λ objects. IsActionAt t c.args.a.0 s objects) (sym front) there)
