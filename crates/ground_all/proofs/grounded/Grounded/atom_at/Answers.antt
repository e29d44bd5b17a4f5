use Rattle.std.proofs.Common.{◌≡◌, ◌<◌, List, ◌++◌, take, ℕ, ap, sym, ◌∙◌, subst, arith, length, map, slice_get, Some, Vec, Global}
use Rattle.std.proofs.lemmas.List.{length-map, take_at}
use borrow.Rule.Slice.PartMut.{post_of}
use Rattle.type_check.specs.Values.{PlainTyped, PlainTypedPredicate}
use Rattle.ground_all.specs.Tuples.{tuples}
use Rattle.ground_all.specs.Grounding.{fluent_atoms, PlainGrounded}
use Rattle.ground_all.specs.Found.{atom_blocks, IsAtomAt}
use Rattle.ground_all.specs.Sound.{ArePlaces}
use Rattle.ground_all.proofs.SoundLaws.{sound}
use Rattle.ground_all.proofs.BlockLaws.{atoms_sum}
use Rattle.ground_all.proofs.ItemPlaces.{atom_list, placed_atom, predicate_places, predicate_there, atom_tuple, atom_there}
use Rattle.ground_all.proofs.grounded.Grounded.atom_at.Goals as goal

-- a number of the world seen is one of the typed files kept
within : (t : PlainTyped) (g : PlainGrounded) (number : ℕ) → t ≡ g.typed → number < length (fluent_atoms g.typed) → number < length (fluent_atoms t)
within t g number same one = subst (λ t. number < length (fluent_atoms t)) (sym same) one

pub place_in-predicate-requires : goal.place_in-predicate-requires
place_in-predicate-requires c =
    let t = c.self.inside.typed.now in
    let one = within t c.args.self.now c.args.a.0 (ap (λ (g : PlainGrounded). g.typed) c.self.view_is) c.requires in
    (map length (atom_blocks t), c.deref.ensures.value ∙ c.self.invariant.atoms, omega (arith, one, atoms_sum t))

pub index-predicate-requires : goal.index-predicate-requires
index-predicate-requires c =
    let t = c.self.inside.typed.now in
    let one = within t c.args.self.now c.args.a.0 (ap (λ (g : PlainGrounded). g.typed) c.self.view_is) c.requires in
    let is = atom_list t c.deref.result.now c.args.a.0 c.place_in-predicate.result.0 c.place_in-predicate.result.1 (c.deref.ensures.value ∙ c.self.invariant.atoms) one c.place_in-predicate.ensures in
    omega (arith, predicate_there t c.args.a.0 c.place_in-predicate.result.0 c.place_in-predicate.result.1 is, ap (λ (t : PlainTyped). length t.predicates) c.typed.view_is, c.typed.inside.predicates.ok.0)

pub slice_bounds-fill-end : goal.slice_bounds-fill-end
slice_bounds-fill-end c =
    let t = c.self.inside.typed.now in
    let q = c.index-predicate.result.now in
    let one = within t c.args.self.now c.args.a.0 (ap (λ (g : PlainGrounded). g.typed) c.self.view_is) c.requires in
    let placed = placed_atom t c.deref.result.now c.args.a.0 c.place_in-predicate.result.0 c.place_in-predicate.result.1 q c.typed.inside.predicates.items
    (c.deref.ensures.value ∙ c.self.invariant.atoms) one c.place_in-predicate.ensures (ap (λ (t : PlainTyped). t.predicates) c.typed.view_is) c.index-predicate.ensures in
    let places = predicate_places t c.place_in-predicate.result.0 q (sound t c.self.invariant.typed) placed.declared in
    omega (
      arith,
      places.few,
      c.len-count.ensures,
      c.predicate.inside.places.ok.0,
      ap (λ (q : PlainTypedPredicate). length q.places) c.predicate.view_is,
      length-map c.predicate.inside.places.items (λ (place : Vec ℕ Global). place.items),
    )

pub fill-requires-clause-places : goal.fill-requires-clause-places
fill-requires-clause-places c =
    let t = c.self.inside.typed.now in
    let q = c.index-predicate.result.now in
    let one = within t c.args.self.now c.args.a.0 (ap (λ (g : PlainGrounded). g.typed) c.self.view_is) c.requires in
    let placed = placed_atom t c.deref.result.now c.args.a.0 c.place_in-predicate.result.0 c.place_in-predicate.result.1 q c.typed.inside.predicates.items
    (c.deref.ensures.value ∙ c.self.invariant.atoms) one c.place_in-predicate.ensures (ap (λ (t : PlainTyped). t.predicates) c.typed.view_is) c.index-predicate.ensures in
    let places = predicate_places t c.place_in-predicate.result.0 q (sound t c.self.invariant.typed) placed.declared in
    let listed : map {A = Vec ℕ Global} {B = List ℕ} (λ place. place.items) c.deref-2.result.now ≡ q.places =
    ap (map (λ (place : Vec ℕ Global). place.items)) c.deref-2.ensures.value ∙ ap (λ (q : PlainTypedPredicate). q.places) c.predicate.view_is in
    subst ArePlaces (sym listed) places

pub fill-requires-clause-one : goal.fill-requires-clause-one
fill-requires-clause-one c =
    let t = c.self.inside.typed.now in
    let q = c.index-predicate.result.now in
    let one = within t c.args.self.now c.args.a.0 (ap (λ (g : PlainGrounded). g.typed) c.self.view_is) c.requires in
    let placed = placed_atom t c.deref.result.now c.args.a.0 c.place_in-predicate.result.0 c.place_in-predicate.result.1 q c.typed.inside.predicates.items
    (c.deref.ensures.value ∙ c.self.invariant.atoms) one c.place_in-predicate.ensures (ap (λ (t : PlainTyped). t.predicates) c.typed.view_is) c.index-predicate.ensures in
    let places = predicate_places t c.place_in-predicate.result.0 q (sound t c.self.invariant.typed) placed.declared in
    let listed : map {A = Vec ℕ Global} {B = List ℕ} (λ place. place.items) c.deref-2.result.now ≡ q.places =
    ap (map (λ (place : Vec ℕ Global). place.items)) c.deref-2.ensures.value ∙ ap (λ (q : PlainTypedPredicate). q.places) c.predicate.view_is in
    subst (λ places. c.place_in-predicate.result.1 < length (tuples places)) (sym listed)
    (atom_tuple t c.place_in-predicate.result.0 q placed.declared c.args.a.0 c.place_in-predicate.result.1 placed.is)

pub returns-clause-atom : goal.returns-clause-atom
returns-clause-atom c =
    let t = c.self.inside.typed.now in
    let q = c.index-predicate.result.now in
    let one = within t c.args.self.now c.args.a.0 (ap (λ (g : PlainGrounded). g.typed) c.self.view_is) c.requires in
    let placed = placed_atom t c.deref.result.now c.args.a.0 c.place_in-predicate.result.0 c.place_in-predicate.result.1 q c.typed.inside.predicates.items
    (c.deref.ensures.value ∙ c.self.invariant.atoms) one c.place_in-predicate.ensures (ap (λ (t : PlainTyped). t.predicates) c.typed.view_is) c.index-predicate.ensures in
    let places = predicate_places t c.place_in-predicate.result.0 q (sound t c.self.invariant.typed) placed.declared in
    let listed : map {A = Vec ℕ Global} {B = List ℕ} (λ place. place.items) c.deref-2.result.now ≡ q.places =
    ap (map (λ (place : Vec ℕ Global). place.items)) c.deref-2.ensures.value ∙ ap (λ (q : PlainTypedPredicate). q.places) c.predicate.view_is in
    let there = atom_there t c.place_in-predicate.result.0 q placed.declared c.args.a.0 c.place_in-predicate.result.1 placed.is c.fill.new.objects
    (subst (λ places. slice_get (tuples places) c.place_in-predicate.result.1 ≡ Some c.fill.new.objects) listed c.fill.ensures) in
    let front = take_at c.fill.new.objects (post_of 0 c.len-count.result c.args.objects.now) c.len-count.result (omega (arith, c.fill.auto.objects)) in
    subst (λ t. IsAtomAt t c.args.a.0 q (take c.len-count.result (c.fill.new.objects ++ post_of 0 c.len-count.result c.args.objects.now))) (ap (λ (g : PlainGrounded). g.typed) c.self.view_is)
    (subst (λ objects. IsAtomAt t c.args.a.0 q objects) (sym front) there)
