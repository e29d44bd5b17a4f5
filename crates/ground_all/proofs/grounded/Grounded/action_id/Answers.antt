use Rattle.std.proofs.Common.{◌≡◌, ◌+◌, List, ℕ, ap, sym, ◌∙◌, subst, arith, length, map, slice_get, Some, Vec, Global}
use Rattle.std.proofs.lemmas.Bool.{some_since}
use Rattle.std.proofs.lemmas.Option.{MatchOption-at_some, slice_get_within}
use Rattle.type_check.specs.Values.{PlainTyped, PlainTypedSchema, PlainGroundName}
use Rattle.type_check.specs.Ground.{FitPlaces, IsTypedName}
use Rattle.ground_all.specs.Tuples.{tuples}
use Rattle.ground_all.specs.Grounding.{instances, PlainGrounded}
use Rattle.ground_all.specs.Sound.{ArePlaces}
use Rattle.ground_all.proofs.SoundLaws.{sound}
use Rattle.ground_all.proofs.ItemPlaces.{action_starts_many, schema_places, named, fits, number_there}
use Rattle.ground_all.proofs.grounded.Grounded.action_id.Goals as goal

pub number_of-requires : goal.number_of-requires
number_of-requires c =
    let t = c.self.inside.typed.now in
    let n = c.args.name.now in
    let s = c.index.result.now in
    let one : c.name.inside.schema ≡ n.schema = ap (λ (n : PlainGroundName). n.schema) c.name.view_is in
    let is = named t n c.typed.inside.schemas.items c.name.inside.schema s (subst (λ t. IsTypedName t n) (sym (ap (λ (g : PlainGrounded). g.typed) c.self.view_is)) c.requires)
    (ap (λ (t : PlainTyped). t.schemas) c.typed.view_is) one c.index.ensures in
    let listed : map {A = Vec ℕ Global} {B = List ℕ} (λ place. place.items) c.deref.result.now ≡ s.places =
    ap (map (λ (place : Vec ℕ Global). place.items)) c.deref.ensures.value ∙ ap (λ (s : PlainTypedSchema). s.places) c.behind-typed.view_is in
    subst ArePlaces (sym listed) (schema_places t n.schema s (sound t c.self.invariant.typed) is.declared)

pub unwrap-number-requires : goal.unwrap-number-requires
unwrap-number-requires c =
    let t = c.self.inside.typed.now in
    let n = c.args.name.now in
    let s = c.index.result.now in
    let one : c.name.inside.schema ≡ n.schema = ap (λ (n : PlainGroundName). n.schema) c.name.view_is in
    let is = named t n c.typed.inside.schemas.items c.name.inside.schema s (subst (λ t. IsTypedName t n) (sym (ap (λ (g : PlainGrounded). g.typed) c.self.view_is)) c.requires)
    (ap (λ (t : PlainTyped). t.schemas) c.typed.view_is) one c.index.ensures in
    let listed : map {A = Vec ℕ Global} {B = List ℕ} (λ place. place.items) c.deref.result.now ≡ s.places =
    ap (map (λ (place : Vec ℕ Global). place.items)) c.deref.ensures.value ∙ ap (λ (s : PlainTypedSchema). s.places) c.behind-typed.view_is in
    let same : c.deref-2.result.now ≡ n.objects = c.deref-2.ensures.value ∙ ap (λ (n : PlainGroundName). n.objects) c.name.view_is in
    let places = map {A = Vec ℕ Global} {B = List ℕ} (λ place. place.items) c.deref.result.now in
    some_since c.number_of.result (FitPlaces places c.deref-2.result.now → ⊥) (λ number. slice_get (tuples places) number ≡ Some c.deref-2.result.now) c.number_of.ensures
    (λ none. none (fits t n s places c.deref-2.result.now is listed same))

pub index-requires-2 : goal.index-requires-2
index-requires-2 c =
    let t = c.self.inside.typed.now in
    let n = c.args.name.now in
    let s = c.index.result.now in
    let one : c.name.inside.schema ≡ n.schema = ap (λ (n : PlainGroundName). n.schema) c.name.view_is in
    let is = named t n c.typed.inside.schemas.items c.name.inside.schema s (subst (λ t. IsTypedName t n) (sym (ap (λ (g : PlainGrounded). g.typed) c.self.view_is)) c.requires)
    (ap (λ (t : PlainTyped). t.schemas) c.typed.view_is) one c.index.ensures in
    omega (arith, one, slice_get_within t.schemas n.schema s is.declared, action_starts_many t, ap length c.self.invariant.actions, c.self.inside.action_starts.ok.0)

pub overflow_cast-result : goal.overflow_cast-result
overflow_cast-result c =
    let t = c.self.inside.typed.now in
    let n = c.args.name.now in
    let s = c.index.result.now in
    let one : c.name.inside.schema ≡ n.schema = ap (λ (n : PlainGroundName). n.schema) c.name.view_is in
    let is = named t n c.typed.inside.schemas.items c.name.inside.schema s (subst (λ t. IsTypedName t n) (sym (ap (λ (g : PlainGrounded). g.typed) c.self.view_is)) c.requires)
    (ap (λ (t : PlainTyped). t.schemas) c.typed.view_is) one c.index.ensures in
    let listed : map {A = Vec ℕ Global} {B = List ℕ} (λ place. place.items) c.deref.result.now ≡ s.places =
    ap (map (λ (place : Vec ℕ Global). place.items)) c.deref.ensures.value ∙ ap (λ (s : PlainTypedSchema). s.places) c.behind-typed.view_is in
    let same : c.deref-2.result.now ≡ n.objects = c.deref-2.ensures.value ∙ ap (λ (n : PlainGroundName). n.objects) c.name.view_is in
    let places = map {A = Vec ℕ Global} {B = List ℕ} (λ place. place.items) c.deref.result.now in
    let at = MatchOption-at_some (FitPlaces places c.deref-2.result.now → ⊥) (λ number. slice_get (tuples places) number ≡ Some c.deref-2.result.now) c.unwrap-number.result c.unwrap-number.ensures c.number_of.ensures in
    let there = number_there t n s places c.deref-2.result.now c.self.inside.action_starts.items c.name.inside.schema c.index-2.result.now c.unwrap-number.result
    is listed same c.self.invariant.actions one c.index-2.ensures at in
    omega (arith, slice_get_within (instances t) (c.index-2.result.now + c.unwrap-number.result) n there, c.self.invariant.few_actions)

pub overflow_add-result : goal.overflow_add-result
overflow_add-result c =
    let t = c.self.inside.typed.now in
    let n = c.args.name.now in
    let s = c.index.result.now in
    let one : c.name.inside.schema ≡ n.schema = ap (λ (n : PlainGroundName). n.schema) c.name.view_is in
    let is = named t n c.typed.inside.schemas.items c.name.inside.schema s (subst (λ t. IsTypedName t n) (sym (ap (λ (g : PlainGrounded). g.typed) c.self.view_is)) c.requires)
    (ap (λ (t : PlainTyped). t.schemas) c.typed.view_is) one c.index.ensures in
    let listed : map {A = Vec ℕ Global} {B = List ℕ} (λ place. place.items) c.deref.result.now ≡ s.places =
    ap (map (λ (place : Vec ℕ Global). place.items)) c.deref.ensures.value ∙ ap (λ (s : PlainTypedSchema). s.places) c.behind-typed.view_is in
    let same : c.deref-2.result.now ≡ n.objects = c.deref-2.ensures.value ∙ ap (λ (n : PlainGroundName). n.objects) c.name.view_is in
    let places = map {A = Vec ℕ Global} {B = List ℕ} (λ place. place.items) c.deref.result.now in
    let at = MatchOption-at_some (FitPlaces places c.deref-2.result.now → ⊥) (λ number. slice_get (tuples places) number ≡ Some c.deref-2.result.now) c.unwrap-number.result c.unwrap-number.ensures c.number_of.ensures in
    let there = number_there t n s places c.deref-2.result.now c.self.inside.action_starts.items c.name.inside.schema c.index-2.result.now c.unwrap-number.result
    is listed same c.self.invariant.actions one c.index-2.ensures at in
    omega (arith, slice_get_within (instances t) (c.index-2.result.now + c.unwrap-number.result) n there, c.self.invariant.few_actions)

pub returns : goal.returns
returns c =
    let t = c.self.inside.typed.now in
    let n = c.args.name.now in
    let s = c.index.result.now in
    let one : c.name.inside.schema ≡ n.schema = ap (λ (n : PlainGroundName). n.schema) c.name.view_is in
    let is = named t n c.typed.inside.schemas.items c.name.inside.schema s (subst (λ t. IsTypedName t n) (sym (ap (λ (g : PlainGrounded). g.typed) c.self.view_is)) c.requires)
    (ap (λ (t : PlainTyped). t.schemas) c.typed.view_is) one c.index.ensures in
    let listed : map {A = Vec ℕ Global} {B = List ℕ} (λ place. place.items) c.deref.result.now ≡ s.places =
    ap (map (λ (place : Vec ℕ Global). place.items)) c.deref.ensures.value ∙ ap (λ (s : PlainTypedSchema). s.places) c.behind-typed.view_is in
    let same : c.deref-2.result.now ≡ n.objects = c.deref-2.ensures.value ∙ ap (λ (n : PlainGroundName). n.objects) c.name.view_is in
    let places = map {A = Vec ℕ Global} {B = List ℕ} (λ place. place.items) c.deref.result.now in
    let at = MatchOption-at_some (FitPlaces places c.deref-2.result.now → ⊥) (λ number. slice_get (tuples places) number ≡ Some c.deref-2.result.now) c.unwrap-number.result c.unwrap-number.ensures c.number_of.ensures in
    let there = number_there t n s places c.deref-2.result.now c.self.inside.action_starts.items c.name.inside.schema c.index-2.result.now c.unwrap-number.result
    is listed same c.self.invariant.actions one c.index-2.ensures at in
    subst (λ t. slice_get (instances t) (c.index-2.result.now + c.unwrap-number.result) ≡ Some n) (ap (λ (g : PlainGrounded). g.typed) c.self.view_is) there
