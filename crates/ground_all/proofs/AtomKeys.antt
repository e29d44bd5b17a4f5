-- The keys of atoms, and how an atom stands by its key.
use Rattle.std.proofs.Common.{◌≡◌, ◌≢◌, ℕ, ◌+◌, ◌<◌, ◌≤◌, Bool, true, false, List, [], ◌∷◌, ◌++◌, length, map, take, get_or, sum, Some, Contains, refl, sym, ap, ◌∙◌, subst, inl, inr, arith}
use Rattle.std.proofs.Math.Path.{ap₂}
use Rattle.std.specs.Prelude.{◌↔◌, ◌⊎◌, ◌==◌, ◌&&◌, AllPairs, slice_get, if◌then◌else◌}
use Rattle.std.specs.Bool.{Decides}
use Rattle.std.specs.List.{list_any, flat_map}
use Rattle.std.specs.Option.{option_map}
use Rattle.std.proofs.lemmas.Bool.{false_from_ne_true, false≢true, cases_order, ne_eqb, eq-eqb}
use Rattle.std.proofs.lemmas.Bool.Decides.{Decides-eqb, Decides-and, Decides-like}
use Rattle.std.proofs.lemmas.List.{get_or_default, take_more, take_all, length-map}
use Rattle.std.proofs.lemmas.List.Elements.{All-contains, Contains-get_or, Contains-push, Contains-push_cases, Contains-append_left}
use Rattle.std.proofs.lemmas.List.Folds.{Any-from_list_any, list_any_at}
use Rattle.std.proofs.lemmas.Option.{same_Some, slice_get-map, slice_get_within, get_or_from_slice_get}
use Rattle.std.proofs.lemmas.Slice.Eq.{bytes_eq-Decides}
use Rattle.indexmap.specs.IndexSet.{insert_key}
use Rattle.indexmap.proofs.CallerLemmas.{Contains-insert_key, Contains-list_any}
use Rattle.strips_model.specs.Worlds.{has_atom, places_of}
use Rattle.type_check.specs.Values.{PlainTyped, PlainTypedPredicate, PlainGroundAtom, is_same_atom}
use Rattle.type_check.specs.Ground.{IsTypedAtom}
use Rattle.ground_all.specs.declared.atoms.Standing.TheVariants.{True, False}
use Rattle.ground_all.specs.declared.atoms.StaticAtom.{StaticAtom}
use Rattle.ground_all.specs.Tuples.{tuples}
use Rattle.ground_all.specs.Grounding.{is_fluent, atoms_of, fluent_atoms, is_one_twice, is_true_at_start}
use Rattle.ground_all.specs.Sound.{ArePlaces, IsSound}
use Rattle.ground_all.specs.Found.{atom_blocks, fluent_marks, IsKeyOf, IsStanding, AreIndexed}
use Rattle.ground_all.proofs.TupleLaws.{tuples_differ}
use Rattle.ground_all.proofs.BlockLists.{place_member, length-starts_of, start_at}
use Rattle.ground_all.proofs.BlockLaws.{block_item, atom_block_at, atoms_are, atoms_typed, atoms_fluent}
use Rattle.ground_all.proofs.BlockCounts.{mark_at, length-marks}
use Rattle.ground_all.proofs.WatchedLaws.{length-task_atoms}
use Rattle.ground_all.proofs.ComplementLaws.{places_same}

-- ---- tests

-- an element is in the list exactly where the test finds it
module _ {X : Type 0} (same : X → X → Bool) (decides : (x y : X) → Decides (same x y) (x ≡ y)) where
  pub found_by : (xs : List X) (x : X) → list_any (λ y. same y x) xs ≡ true → Contains xs x
  found_by xs x e =
      let any = Any-from_list_any (λ y. same y x) xs e in
      (any.0, any.2, get_or_default xs any.0 x any.1 any.2 ∙ any.3 ∙ (decides any.1 x).0 any.4)

  pub finds : (xs : List X) (x : X) → Contains xs x → list_any (λ y. same y x) xs ≡ true
  finds xs x h = list_any_at (λ y. same y x) xs h.0 x h.1 (ap (λ y. same y x) h.2 ∙ (decides x x).1 refl)

  pub finds_none : (xs : List X) (x : X) → (Contains xs x → ⊥) → list_any (λ y. same y x) xs ≡ false
  finds_none xs x none = false_from_ne_true (list_any (λ y. same y x) xs) (λ e. none (found_by xs x e))

pub same_atom_is : (a b : PlainGroundAtom) → Decides (is_same_atom a b) (a ≡ b)
same_atom_is a b =
    Decides-like (is_same_atom a b) (λ e. ap₂ made e.0 e.1) (λ e. (ap (λ (x : PlainGroundAtom). x.predicate) e, ap (λ (x : PlainGroundAtom). x.objects) e))
    (Decides-and _ _ (Decides-eqb a.predicate b.predicate) (bytes_eq-Decides a.objects b.objects))
  where
    made : ℕ → List ℕ → PlainGroundAtom
    made q objects = record { predicate = q; objects = objects }

abbrev pub is_same_key : StaticAtom → StaticAtom → Bool
is_same_key x y = x.predicate == y.predicate && x.number == y.number

pub same_key_is : (x y : StaticAtom) → Decides (is_same_key x y) (x ≡ y)
same_key_is x y =
    Decides-like (is_same_key x y) (λ e. ap₂ made e.0 e.1) (λ e. (ap (λ (k : StaticAtom). k.predicate) e, ap (λ (k : StaticAtom). k.number) e))
    (Decides-and _ _ (Decides-eqb x.predicate y.predicate) (Decides-eqb x.number y.number))
  where
    made : ℕ → ℕ → StaticAtom
    made q n = record { predicate = q; number = n }

-- ---- an atom has one key, and a key is that of one atom

pub one_atom : (t : PlainTyped) (a b : PlainGroundAtom) (key : StaticAtom) → IsKeyOf t a key → IsKeyOf t b key → a ≡ b
one_atom t a b key one other =
    let made : ℕ → List ℕ → PlainGroundAtom = λ q objects. record { predicate = q; objects = objects } in
    let declared : a.predicate ≡ b.predicate = sym one.same ∙ other.same in
    let predicate : one.predicate ≡ other.predicate = same_Some one.predicate other.predicate (sym one.there ∙ ap (slice_get t.predicates) declared ∙ other.there) in
    let objects : a.objects ≡ b.objects = same_Some a.objects b.objects (sym one.is ∙ ap (λ (q : PlainTypedPredicate). slice_get (tuples q.places) key.number) predicate ∙ other.is) in
    ap₂ made declared objects

-- an element of a list without repeats has one place
one_place : {X : Type 0} (xs : List X) → AllPairs (λ x y. x ≢ y) xs → (i j : ℕ) (x : X) → slice_get xs i ≡ Some x → slice_get xs j ≡ Some x → i ≡ j
one_place xs apart i j x one other =
    let here = get_or_from_slice_get xs i x x one in
    let there = get_or_from_slice_get xs j x x other in
    elim (cases_order i j) [
      | inl same ↦ same
      | inr (inl before) ↦ absurd (apart i j x before (slice_get_within xs j x other) (here ∙ sym there))
      | inr (inr behind) ↦ absurd (apart j i x behind (slice_get_within xs i x one) (there ∙ sym here))
    ]

one_key : (t : PlainTyped) → IsSound t → (a : PlainGroundAtom) (key other : StaticAtom) → IsKeyOf t a key → IsKeyOf t a other → key ≡ other
one_key t sound a key other one two =
    let made : ℕ → ℕ → StaticAtom = λ q n. record { predicate = q; number = n } in
    let declared : key.predicate ≡ other.predicate = one.same ∙ sym two.same in
    let predicate : one.predicate ≡ two.predicate = same_Some one.predicate two.predicate (sym one.there ∙ two.there) in
    let places : ArePlaces two.predicate.places = All-contains (λ q. ArePlaces q.places) t.predicates two.predicate sound.predicates (place_member t.predicates a.predicate two.predicate two.there) in
    let here : slice_get (tuples two.predicate.places) key.number ≡ Some a.objects = ap (λ (q : PlainTypedPredicate). slice_get (tuples q.places) key.number) (sym predicate) ∙ one.is in
    ap₂ made declared (one_place (tuples two.predicate.places) (tuples_differ two.predicate.places places.rise) key.number other.number a.objects here two.is)

-- ---- the keys of the atoms that are true at the start

abbrev pub AreKeysOf : PlainTyped → List PlainGroundAtom → List StaticAtom → Type 0
AreKeysOf t atoms keys = (key : StaticAtom) → Contains keys key ↔ ((a : PlainGroundAtom) × Contains atoms a × IsKeyOf t a key)

from_insert : (old : List StaticAtom) (key other : StaticAtom) → Contains (insert_key is_same_key old key) other → Contains old other ⊎ (key ≡ other)
from_insert old key other = by (list_any (is_same_key key) old)
  where
    by : (b : Bool) → Contains (if b then old else old ++ key ∷ []) other → Contains old other ⊎ (key ≡ other)
    by true h = inl h
    by false h = Contains-push_cases old key other h

into_insert : (old : List StaticAtom) (key other : StaticAtom) → Contains old other → Contains (insert_key is_same_key old key) other
into_insert old key other h = by (list_any (is_same_key key) old)
  where
    by : (b : Bool) → Contains (if b then old else old ++ key ∷ []) other
    by true = h
    by false = Contains-append_left old (key ∷ []) other h

module _ (t : PlainTyped) (sound : IsSound t) where
  key_put : (atoms : List PlainGroundAtom) (old : List StaticAtom) (a : PlainGroundAtom) (key : StaticAtom) → IsKeyOf t a key → AreKeysOf t atoms old → AreKeysOf t (atoms ++ a ∷ []) (insert_key is_same_key old key)
  key_put atoms old a key is keyed other = (
    λ h. elim (from_insert old key other h) [
      | inl before ↦ let was = (keyed other).0 before in (was.0, Contains-append_left atoms (a ∷ []) was.0 was.1, was.2)
      | inr new ↦ (a, Contains-push atoms a, subst (IsKeyOf t a) new is)
    ],
    λ h. elim (Contains-push_cases atoms a h.0 h.1) [
      | inl before ↦ into_insert old key other ((keyed other).1 (h.0, before, h.2))
      | inr new ↦
          let same : key ≡ other = one_key t sound a key other is (subst (λ b. IsKeyOf t b other) (sym new) h.2) in
          subst (Contains (insert_key is_same_key old key)) same (Contains-insert_key is_same_key (λ x y. (same_key_is x y).0) old key)
    ],
  )

  module _ (init : List PlainGroundAtom) (same : init ≡ t.init) (i : ℕ) where
    pub keys_more : (a : PlainGroundAtom) (key : StaticAtom) (old new : List StaticAtom) → i < length init → a ≡ get_or init i a → IsKeyOf t a key → new ≡ insert_key is_same_key old key → AreKeysOf t (take i t.init) old → AreKeysOf t (take (i + 1) t.init) new
    keys_more a key old new within is keyed more before =
        let here : a ≡ get_or t.init i a = is ∙ ap (λ (xs : List PlainGroundAtom). get_or xs i a) same in
        let longer : take i t.init ++ a ∷ [] ≡ take (i + 1) t.init = ap (λ b. take i t.init ++ b ∷ []) here ∙ sym (take_more t.init i a (omega (arith, ap length same))) in
        subst (AreKeysOf t (take (i + 1) t.init)) (sym more) (subst (λ atoms. AreKeysOf t atoms (insert_key is_same_key old key)) longer (key_put (take i t.init) old a key keyed before))

    pub each_typed : (a : PlainGroundAtom) → i < length init → a ≡ get_or init i a → IsTypedAtom t a
    each_typed a within is =
        subst (IsTypedAtom t) (sym (is ∙ ap (λ (xs : List PlainGroundAtom). get_or xs i a) same)) (sound.init i a (omega (arith, ap length same)))

    pub keys_all : (keys : List StaticAtom) → length init ≤ i → AreKeysOf t (take i t.init) keys → AreKeysOf t t.init keys
    keys_all keys past h = subst (λ atoms. AreKeysOf t atoms keys) (take_all i t.init (omega (arith, ap length same))) h

-- ---- how an atom stands

-- an atom that is no equality is true at the start where it is listed
listed : (t : PlainTyped) (a : PlainGroundAtom) → a.predicate ≢ length t.predicates → is_true_at_start t a ≡ has_atom is_same_atom t.init a
listed t a other = ap (λ b. if b then is_one_twice a.objects else has_atom is_same_atom t.init a) (ne_eqb a.predicate (length t.predicates) other)

typed_listed : (t : PlainTyped) (a : PlainGroundAtom) → IsTypedAtom t a → is_true_at_start t a ≡ has_atom is_same_atom t.init a
typed_listed t a typed = listed t a (λ e. absurd (let within : a.predicate < length t.predicates = slice_get_within t.predicates a.predicate typed.predicate typed.there in omega arith))

-- an equality is static, and true of an object and itself
pub equality_stands : (t : PlainTyped) (a : PlainGroundAtom) → a.predicate ≡ length t.predicates
    → (has_atom is_same_atom (fluent_atoms t) a ≡ false) × (is_true_at_start t a ≡ is_one_twice a.objects)
equality_stands t a equality = (
  finds_none is_same_atom same_atom_is (fluent_atoms t) a
      (λ h. let typed = atoms_typed t a h in let within : a.predicate < length t.predicates = slice_get_within t.predicates a.predicate typed.predicate typed.there in omega arith),
  ap (λ b. if b then is_one_twice a.objects else has_atom is_same_atom t.init a) (eq-eqb a.predicate (length t.predicates) equality),
)

-- the fluent atoms that are true at the start are those that are listed
pub start_is : (t : PlainTyped) → places_of (is_true_at_start t) 0 (fluent_atoms t) ≡ places_of (has_atom is_same_atom t.init) 0 (fluent_atoms t)
start_is t = places_same (has_atom is_same_atom t.init) (is_true_at_start t) 0 (fluent_atoms t)
    (λ j d within. typed_listed t (get_or (fluent_atoms t) j d) (atoms_typed t (get_or (fluent_atoms t) j d) (Contains-get_or (fluent_atoms t) j d within)))

module _ (t : PlainTyped) (marks : List Bool) (starts : List ℕ) (keys : List StaticAtom) (index : AreIndexed t marks starts keys) (a : PlainGroundAtom) where
  pub untyped_stands : a.predicate ≢ length t.predicates → (IsTypedAtom t a → ⊥) → IsStanding t a False
  untyped_stands other none = (
    finds_none is_same_atom same_atom_is (fluent_atoms t) a (λ h. none (atoms_typed t a h)),
    listed t a other ∙ finds_none is_same_atom same_atom_is t.init a (λ h. none (All-contains (IsTypedAtom t) t.init a index.sound.init h)),
  )

  module _ (key : StaticAtom) (is : IsKeyOf t a key) (at : ℕ) (here : at ≡ a.predicate) where
    start_listed : is_true_at_start t a ≡ has_atom is_same_atom t.init a
    start_listed = listed t a (λ e. absurd (let within : a.predicate < length t.predicates = slice_get_within t.predicates a.predicate is.predicate is.there in omega arith))

    declared : slice_get t.predicates at ≡ Some is.predicate
    declared = ap (slice_get t.predicates) here ∙ is.there

    counted : at < length (map length (atom_blocks t))
    counted = omega (arith, slice_get_within t.predicates at is.predicate declared, length-map (atom_blocks t) (λ (b : List PlainGroundAtom). length b), slice_get_within (atom_blocks t) at _ (atom_block_at t at is.predicate declared))

    pub mark_within : at < length marks
    mark_within = omega (arith, slice_get_within t.predicates at is.predicate declared, ap length index.marked, length-marks t)

    pub start_within : at < length starts
    start_within = omega (arith, counted, ap length index.start, length-starts_of 0 (map length (atom_blocks t)))

    module _ (mark : Bool) (marked : mark ≡ get_or marks at mark) where
      mark_is : mark ≡ is_fluent t at
      mark_is = marked ∙ ap (λ (ms : List Bool). get_or ms at mark) index.marked ∙ get_or_from_slice_get (fluent_marks t) at (is_fluent t at) mark (mark_at t at is.predicate declared)

      static : mark ≡ false → has_atom is_same_atom (fluent_atoms t) a ≡ false
      static unmarked = finds_none is_same_atom same_atom_is (fluent_atoms t) a (λ h. false≢true (sym unmarked ∙ mark_is ∙ ap (is_fluent t) here ∙ atoms_fluent t a h))

      pub true_stands : mark ≡ false → list_any (is_same_key key) keys ≡ true → IsStanding t a True
      true_stands unmarked there =
          let found = (index.keyed key).0 (Contains-list_any is_same_key (λ x y. (same_key_is x y).0) keys key there) in
          (static unmarked, start_listed ∙ finds is_same_atom same_atom_is t.init a (subst (Contains t.init) (one_atom t found.0 a key found.2 is) found.1))

      pub false_stands : mark ≡ false → list_any (is_same_key key) keys ≡ false → IsStanding t a False
      false_stands unmarked lacks = (
        static unmarked,
        start_listed ∙ finds_none is_same_atom same_atom_is t.init a
            (λ h. let has = (index.keyed key).1 (a, h, is) in
            false≢true (sym lacks ∙ list_any_at (is_same_key key) keys has.0 key has.1 (ap (is_same_key key) has.2 ∙ (same_key_is key key).1 refl))),
      )

      module _ (start : ℕ) (begins : start ≡ get_or starts at start) (yes : mark ≡ true) where
        pub fluent_stands : slice_get (fluent_atoms t) (start + key.number) ≡ Some a
        fluent_stands =
            let made : List ℕ → PlainGroundAtom = λ objects. record { predicate = a.predicate; objects = objects } in
            let q = is.predicate in
            let block : slice_get (atom_blocks t) a.predicate ≡ Some (atoms_of a.predicate q) =
            atom_block_at t a.predicate q is.there ∙ ap (λ (b : Bool). Some (if b then atoms_of a.predicate q else [])) (sym (sym yes ∙ mark_is ∙ ap (is_fluent t) here)) in
            let item : slice_get (atoms_of a.predicate q) key.number ≡ Some a = slice_get-map made (tuples q.places) key.number ∙ ap (option_map made) is.is in
            let first : sum (take a.predicate (map length (atom_blocks t))) ≡ start =
            omega (arith, begins, ap (λ (ns : List ℕ). get_or ns at start) index.start, start_at 0 (map length (atom_blocks t)) at start counted, ap (λ (n : ℕ). sum (take n (map length (atom_blocks t)))) here) in
            ap (λ (atoms : List PlainGroundAtom). slice_get atoms (start + key.number)) (atoms_are t)
            ∙ subst (λ n. slice_get (flat_map (λ (b : List PlainGroundAtom). b) (atom_blocks t)) (n + key.number) ≡ Some a) first (block_item (atom_blocks t) a.predicate key.number (atoms_of a.predicate q) a block item)

        pub number_short : start + key.number < 3072
        number_short = omega (arith, slice_get_within (fluent_atoms t) (start + key.number) a fluent_stands, length-task_atoms t, index.few)
