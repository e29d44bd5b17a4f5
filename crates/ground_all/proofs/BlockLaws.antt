-- The fluent atoms and the typed instances as lists that stand behind one another.
use Rattle.std.proofs.Common.{◌≡◌, ◌≢◌, ℕ, ◌+◌, ◌^◌, ◌≤◌, Bool, true, false, List, [], length, map, take, get_or, sum, Some, Contains, refl, sym, ap, ◌∙◌, subst, zero-add, arith}
use Rattle.std.specs.Prelude.{All, AllPairs, slice_get, if◌then◌else◌}
use Rattle.std.specs.List.{flat_map}
use Rattle.std.proofs.lemmas.List.{length-map}
use Rattle.std.proofs.lemmas.List.Elements.{All-map}
use Rattle.std.proofs.lemmas.List.Folds.{flat_map-map}
use Rattle.std.proofs.lemmas.List.Sums.{sum_by-le, sum-map}
use Rattle.std.proofs.Math.Nat.{pow-le-pow_right}
use Rattle.std.proofs.lemmas.Option.{slice_get-map, slice_get_within, slice_get-get_or, get_or_from_slice_get}
use Rattle.std.specs.Option.{option_map}
use Rattle.type_check.specs.Values.{PlainTyped, PlainTypedPredicate, PlainTypedSchema, PlainGroundAtom, PlainGroundName}
use Rattle.type_check.specs.Ground.{FitPlaces, IsTypedAtom, IsTypedName}
use Rattle.ground_all.specs.Tuples.{tuples, numbered}
use Rattle.ground_all.specs.Grounding.{is_fluent, atoms_of, names_of_schema, fluent_atoms, instances}
use Rattle.ground_all.specs.Sound.{ArePlaces, IsSound}
use Rattle.ground_all.specs.Found.{atom_blocks, name_blocks}
use Rattle.ground_all.proofs.TupleLaws.{has_fit, tuples_differ}
use Rattle.ground_all.proofs.BlockLists.{in_map, in_flat_map, numbered_at, at_numbered, length-numbered, item_at, length-blocks, Differ, differ_map, differ_numbered, tuples_few}

pub block_item : {X : Type 0} (blocks : List (List X)) (n k : ℕ) (block : List X) (x : X) → slice_get blocks n ≡ Some block → slice_get block k ≡ Some x
    → slice_get (flat_map (λ (b : List X). b) blocks) (sum (take n (map length blocks)) + k) ≡ Some x
block_item blocks n k block x at within = item_at blocks n k block x at within

-- ---- the blocks

-- the atoms of a predicate with this number, and the instances of such a schema
abbrev atoms_at : PlainTyped → ℕ × PlainTypedPredicate → List PlainGroundAtom
atoms_at t x = if is_fluent t x.0 then atoms_of x.0 x.1 else []

abbrev names_at : ℕ × PlainTypedSchema → List PlainGroundName
names_at x = names_of_schema x.0 x.1

pub atom_block_at : (t : PlainTyped) (n : ℕ) (q : PlainTypedPredicate) → slice_get t.predicates n ≡ Some q → slice_get (atom_blocks t) n ≡ Some (if is_fluent t n then atoms_of n q else [])
atom_block_at t n q at =
    slice_get-map (atoms_at t) (numbered 0 t.predicates) n ∙ ap (option_map (atoms_at t)) (numbered_at 0 t.predicates n q at) ∙ ap (λ i. Some (atoms_at t (i, q))) (zero-add n)

pub name_block_at : (t : PlainTyped) (n : ℕ) (s : PlainTypedSchema) → slice_get t.schemas n ≡ Some s → slice_get (name_blocks t) n ≡ Some (names_of_schema n s)
name_block_at t n s at =
    slice_get-map names_at (numbered 0 t.schemas) n ∙ ap (option_map names_at) (numbered_at 0 t.schemas n s at) ∙ ap (λ i. Some (names_at (i, s))) (zero-add n)

pub atoms_are : (t : PlainTyped) → fluent_atoms t ≡ flat_map (λ (b : List PlainGroundAtom). b) (atom_blocks t)
unfolding fluent_atoms
atoms_are t = sym (flat_map-map (λ (b : List PlainGroundAtom). b) (atoms_at t) (numbered 0 t.predicates))

pub instances_are : (t : PlainTyped) → instances t ≡ flat_map (λ (b : List PlainGroundName). b) (name_blocks t)
unfolding instances
instances_are t = sym (flat_map-map (λ (b : List PlainGroundName). b) names_at (numbered 0 t.schemas))

-- ---- what is typed

-- an atom among those of a predicate
atom_in : (n : ℕ) (q : PlainTypedPredicate) (a : PlainGroundAtom) (b : Bool) → Contains (if b then atoms_of n q else []) a → (a.predicate ≡ n) × FitPlaces q.places a.objects × (b ≡ true)
atom_in n q a false has = absurd (omega (arith, has.1))
atom_in n q a true has =
    let made : List ℕ → PlainGroundAtom = λ objects. record { predicate = n; objects = objects } in
    let found = in_map made (tuples q.places) a has in
    (sym (ap (λ (x : PlainGroundAtom). x.predicate) found.2), subst (FitPlaces q.places) (ap (λ (x : PlainGroundAtom). x.objects) found.2) (has_fit q.places found.0 found.1), refl)

name_in : (n : ℕ) (s : PlainTypedSchema) (a : PlainGroundName) → Contains (names_of_schema n s) a → (a.schema ≡ n) × FitPlaces s.places a.objects
name_in n s a has =
    let made : List ℕ → PlainGroundName = λ objects. record { schema = n; objects = objects } in
    let found = in_map made (tuples s.places) a has in
    (sym (ap (λ (x : PlainGroundName). x.schema) found.2), subst (FitPlaces s.places) (ap (λ (x : PlainGroundName). x.objects) found.2) (has_fit s.places found.0 found.1))

atom_typed : (t : PlainTyped) (a : PlainGroundAtom) → Contains (flat_map (atoms_at t) (numbered 0 t.predicates)) a → IsTypedAtom t a × (is_fluent t a.predicate ≡ true)
atom_typed t a has =
    let found = in_flat_map (atoms_at t) (numbered 0 t.predicates) a has in
    let at = at_numbered 0 t.predicates found.0 found.1 found.2 in
    let is = atom_in found.1.0 found.1.1 a (is_fluent t found.1.0) found.3 in
    let number : found.0 ≡ a.predicate = omega (arith, at.0, is.0) in
    (record { predicate = found.1.1; there = subst (λ i. slice_get t.predicates i ≡ Some found.1.1) number at.1; fit = is.1 }, ap (is_fluent t) is.0 ∙ is.2)

name_typed : (t : PlainTyped) (n : PlainGroundName) → Contains (flat_map names_at (numbered 0 t.schemas)) n → IsTypedName t n
name_typed t n has =
    let found = in_flat_map names_at (numbered 0 t.schemas) n has in
    let at = at_numbered 0 t.schemas found.0 found.1 found.2 in
    let is = name_in found.1.0 found.1.1 n found.3 in
    let number : found.0 ≡ n.schema = omega (arith, at.0, is.0) in
    record { schema = found.1.1; there = subst (λ i. slice_get t.schemas i ≡ Some found.1.1) number at.1; fit = is.1 }

pub atoms_typed : (t : PlainTyped) (a : PlainGroundAtom) → Contains (fluent_atoms t) a → IsTypedAtom t a
unfolding fluent_atoms
atoms_typed t a has = (atom_typed t a has).0

pub atoms_fluent : (t : PlainTyped) (a : PlainGroundAtom) → Contains (fluent_atoms t) a → is_fluent t a.predicate ≡ true
unfolding fluent_atoms
atoms_fluent t a has = (atom_typed t a has).1

pub instances_typed : (t : PlainTyped) (n : PlainGroundName) → Contains (instances t) n → IsTypedName t n
unfolding instances
instances_typed t n has = name_typed t n has

-- ---- no two are the same

atoms_apart : (t : PlainTyped) → IsSound t → Differ (flat_map (atoms_at t) (numbered 0 t.predicates))
atoms_apart t sound =
    differ_numbered (atoms_at t) (λ a. a.predicate) (λ q. ArePlaces q.places) (λ n q a has. (atom_in n q a (is_fluent t n) has).0) (λ n q places. each n q places (is_fluent t n)) 0 t.predicates sound.predicates
  where
    each : (n : ℕ) (q : PlainTypedPredicate) → ArePlaces q.places → (b : Bool) → Differ (if b then atoms_of n q else [])
    each n q places true =
        differ_map (λ (objects : List ℕ). record { predicate = n; objects = objects }) (λ x y same. ap (λ (a : PlainGroundAtom). a.objects) same) (tuples q.places) (tuples_differ q.places places.rise)
    each n q places false = λ i j d before within. absurd (omega arith)

names_apart : (t : PlainTyped) → IsSound t → Differ (flat_map names_at (numbered 0 t.schemas))
names_apart t sound = differ_numbered names_at (λ n. n.schema) (λ s. ArePlaces s.places) (λ n s a has. (name_in n s a has).0) each 0 t.schemas sound.schemas
  where
    each : (n : ℕ) (s : PlainTypedSchema) → ArePlaces s.places → Differ (names_of_schema n s)
    each n s places =
        differ_map (λ (objects : List ℕ). record { schema = n; objects = objects }) (λ x y same. ap (λ (a : PlainGroundName). a.objects) same) (tuples s.places) (tuples_differ s.places places.rise)

pub atoms_differ : (t : PlainTyped) → IsSound t → AllPairs (λ a b. a ≢ b) (fluent_atoms t)
unfolding fluent_atoms
atoms_differ t sound = atoms_apart t sound

pub instances_differ : (t : PlainTyped) → IsSound t → AllPairs (λ a b. a ≢ b) (instances t)
unfolding instances
instances_differ t sound = names_apart t sound

-- ---- how many there are

pub atoms_sum : (t : PlainTyped) → length (fluent_atoms t) ≡ sum (map length (atom_blocks t))
atoms_sum t = ap length (atoms_are t) ∙ length-blocks (atom_blocks t)

pub instances_sum : (t : PlainTyped) → length (instances t) ≡ sum (map length (name_blocks t))
instances_sum t = ap length (instances_are t) ∙ length-blocks (name_blocks t)

-- at most 8 places with at most 1,024 objects have at most 2^80 tuples
pub few_tuples : (places : List (List ℕ)) → ArePlaces places → length (tuples places) ≤ 2 ^ 80
few_tuples places are =
    let powers : 1024 ^ length places ≤ 1024 ^ 8 = pow-le-pow_right (omega arith) are.few in
    omega (arith, tuples_few 1024 places are.short, powers)

-- so at most 2^20 blocks of them have at most 2^100 items together
module _ {X A : Type 0} (f : ℕ × X → List A) (P : X → Type 0) (each : (n : ℕ) (x : X) → P x → length (f (n, x)) ≤ 2 ^ 80) where
  short_blocks : (xs : List X) → All P xs → All (λ y. length (f y) ≤ 2 ^ 80) (numbered 0 xs)
  short_blocks xs all k d within =
      let y = get_or (numbered 0 xs) k d in
      let at : slice_get xs k ≡ Some y.1 = (at_numbered 0 xs k y (slice_get-get_or (numbered 0 xs) k d within)).1 in
      each y.0 y.1 (subst P (get_or_from_slice_get xs k y.1 y.1 at) (all k y.1 (slice_get_within xs k y.1 at)))

  pub few_blocks : (xs : List X) → All P xs → length xs ≤ 2 ^ 20 → sum (map length (map f (numbered 0 xs))) ≤ 2 ^ 100
  few_blocks xs all few =
      let blocks = map f (numbered 0 xs) in
      let short : All (λ b. length b ≤ 2 ^ 80) blocks = All-map (λ (b : List A). length b ≤ 2 ^ 80) f (numbered 0 xs) (short_blocks xs all) in
      omega (arith, sum-map (λ (b : List A). length b) blocks, sum_by-le (λ (b : List A). length b) (2 ^ 80) blocks short, length-map (numbered 0 xs) f, length-numbered 0 xs)

-- a predicate's atoms
pub length-few : (n : ℕ) (q : PlainTypedPredicate) → ArePlaces q.places → length (atoms_of n q) ≤ 2 ^ 80
length-few n q places = omega (arith, length-map (tuples q.places) (λ (objects : List ℕ). let a : PlainGroundAtom = record { predicate = n; objects = objects } in a), few_tuples q.places places)

pub few_all : (t : PlainTyped) → IsSound t → sum (map length (atom_blocks t)) ≤ 2 ^ 100
few_all t sound = few_blocks (atoms_at t) (λ q. ArePlaces q.places) (λ n q places. each n q places (is_fluent t n)) t.predicates sound.predicates sound.few_predicates
  where
    each : (n : ℕ) (q : PlainTypedPredicate) → ArePlaces q.places → (b : Bool) → length (if b then atoms_of n q else []) ≤ 2 ^ 80
    each n q places true = length-few n q places
    each n q places false = omega arith

pub few_all_names : (t : PlainTyped) → IsSound t → sum (map length (name_blocks t)) ≤ 2 ^ 100
few_all_names t sound = few_blocks names_at (λ s. ArePlaces s.places) each t.schemas sound.schemas sound.few_schemas
  where
    each : (n : ℕ) (s : PlainTypedSchema) → ArePlaces s.places → length (names_of_schema n s) ≤ 2 ^ 80
    each n s places = omega (arith, length-map (tuples s.places) (λ (objects : List ℕ). let a : PlainGroundName = record { schema = n; objects = objects } in a), few_tuples s.places places)
