-- Where the atoms of a predicate and the instances of a schema stand.
use Rattle.std.proofs.Common.{◌≡◌, ℕ, ◌+◌, ◌<◌, Bool, true, false, cond, List, [], length, get_or, map, take, Some, slice_get, refl, sym, ap, ◌∙◌, subst, arith}
use mathlib.Core.Path.{ap₂}
use Rattle.std.specs.List.{flat_map, sum}
use Rattle.std.specs.Option.{option_map}
use Rattle.std.proofs.lemmas.List.{length-map, get_or-map}
use Rattle.std.proofs.lemmas.Option.{slice_get-map, slice_get_within, slice_get_read, get_or_from_slice_get, same_Some}
use Rattle.type_check.specs.Values.{PlainTyped, PlainTypedPredicate, PlainTypedSchema, PlainGroundAtom, PlainGroundName}
use Rattle.type_check.specs.Ground.{FitPlaces, IsTypedName}
use Rattle.ground_all.specs.Tuples.{tuples, numbered}
use Rattle.ground_all.specs.Grounding.{is_fluent, atoms_of, names_of_schema, fluent_atoms, instances}
use Rattle.ground_all.specs.Sound.{ArePlaces, IsSound}
use Rattle.ground_all.specs.Found.{atom_blocks, name_blocks, atom_starts, action_starts, starts_of, IsPlaceIn, IsAtomAt, IsActionAt}
use Rattle.ground_all.proofs.BlockLists.{place_within as tuple_within, length-numbered, length-starts_of, start_at}
use Rattle.ground_all.proofs.BlockLaws.{block_item, atom_block_at, name_block_at, atoms_are, instances_are, atoms_sum, instances_sum}

map_at : {X Y : Type 0} (f : X → Y) (xs : List X) (n : ℕ) (x : X) → slice_get xs n ≡ Some x → slice_get (map f xs) n ≡ Some (f x)
map_at f xs n x at = slice_get-map f xs n ∙ ap (option_map f) at

-- ---- lists that stand behind one another

module _ {X : Type 0} (blocks : List (List X)) where
  -- the item at a place of a list, by its number among all
  item_at : (number list place : ℕ) (block : List X) (x : X) → IsPlaceIn (map length blocks) number list place → slice_get blocks list ≡ Some block
      → slice_get block place ≡ Some x → slice_get (flat_map (λ (b : List X). b) blocks) number ≡ Some x
  item_at number list place block x is one there =
      subst (λ n. slice_get (flat_map (λ (b : List X). b) blocks) n ≡ Some x) is.whole (block_item blocks list place block x one there)

  place_within : (number list place : ℕ) (block : List X) → IsPlaceIn (map length blocks) number list place → slice_get blocks list ≡ Some block → place < length block
  place_within number list place block is one =
      let many : get_or (map length blocks) list 0 ≡ length block =
      get_or-map length blocks list block 0 (slice_get_within blocks list block one) ∙ ap length (get_or_from_slice_get blocks list block block one) in
      omega (arith, is.within)

  list_within : (number list place : ℕ) → IsPlaceIn (map length blocks) number list place → list < length blocks
  list_within number list place is = omega (arith, is.one, length-map blocks (length {A = X}))

-- what stands in a list that may be left out
whole_list : {X : Type 0} (kept : Bool) (items : List X) (place : ℕ) → place < length (cond kept items []) → cond kept items [] ≡ items
whole_list true items place within = refl
whole_list false items place within = absurd (omega arith)

-- ---- atoms

module _ (t : PlainTyped) (k : ℕ) (q : PlainTypedPredicate) (declared : slice_get t.predicates k ≡ Some q) (number place : ℕ) (is : IsPlaceIn (map length (atom_blocks t)) number k place) where
  fluent_block : slice_get (atom_blocks t) k ≡ Some (atoms_of k q)
  fluent_block =
      let kept : List PlainGroundAtom = cond (is_fluent t k) (atoms_of k q) [] in
      let block = atom_block_at t k q declared in
      block ∙ ap Some (whole_list (is_fluent t k) (atoms_of k q) place (place_within (atom_blocks t) number k place kept is block))

  -- the place is that of a tuple
  pub atom_tuple : place < length (tuples q.places)
  atom_tuple =
      let atom : List ℕ → PlainGroundAtom = λ objects. record { predicate = k; objects = objects } in
      omega (arith, place_within (atom_blocks t) number k place (atoms_of k q) is fluent_block, length-map (tuples q.places) atom)

  atom_is : (objects : List ℕ) → slice_get (tuples q.places) place ≡ Some objects → slice_get (fluent_atoms t) number ≡ Some (record { predicate = k; objects = objects })
  atom_is objects at =
      let atom : List ℕ → PlainGroundAtom = λ objects. record { predicate = k; objects = objects } in
      subst (λ atoms. slice_get atoms number ≡ Some (atom objects)) (sym (atoms_are t))
      (item_at (atom_blocks t) number k place (atoms_of k q) (atom objects) is fluent_block (map_at atom (tuples q.places) place objects at))

  pub atom_there : (objects : List ℕ) → slice_get (tuples q.places) place ≡ Some objects → IsAtomAt t number q objects
  atom_there objects at = record { atom = record { predicate = k; objects = objects }; there = atom_is objects at; declared = declared; are = refl }

  -- the atom with this number is one of the predicate
  pub predicate_of : (atom : PlainGroundAtom) → slice_get (fluent_atoms t) number ≡ Some atom → atom.predicate ≡ k
  predicate_of atom there =
      let found = tuple_within (tuples q.places) place atom_tuple in
      ap (λ (a : PlainGroundAtom). a.predicate) (same_Some atom _ (sym there ∙ atom_is found.0 found.1))

pub predicate_there : (t : PlainTyped) (number k place : ℕ) → IsPlaceIn (map length (atom_blocks t)) number k place → k < length t.predicates
predicate_there t number k place is =
    omega (arith, list_within (atom_blocks t) number k place is, length-map (numbered 0 t.predicates) (λ (x : ℕ × PlainTypedPredicate). cond (is_fluent t x.0) (atoms_of x.0 x.1) []), length-numbered 0 t.predicates)

-- where an atom with a number stands
pub record IsPlacedAtom (t : PlainTyped) (number k place : ℕ) (q : PlainTypedPredicate) : Type 0 where
  pub is : IsPlaceIn (map length (atom_blocks t)) number k place
  pub declared : slice_get t.predicates k ≡ Some q

pub atom_list : (t : PlainTyped) (starts : List ℕ) (number k place : ℕ) → starts ≡ atom_starts t → number < length (fluent_atoms t)
    → ((lengths : List ℕ) → starts ≡ starts_of 0 lengths → number < sum lengths → IsPlaceIn lengths number k place) → IsPlaceIn (map length (atom_blocks t)) number k place
atom_list t starts number k place are one found = found (map length (atom_blocks t)) are (omega (arith, one, atoms_sum t))

pub placed_atom : (t : PlainTyped) (starts : List ℕ) (number k place : ℕ) (q : PlainTypedPredicate) (predicates : List PlainTypedPredicate) → starts ≡ atom_starts t → number < length (fluent_atoms t)
    → ((lengths : List ℕ) → starts ≡ starts_of 0 lengths → number < sum lengths → IsPlaceIn lengths number k place)
    → predicates ≡ t.predicates → q ≡ get_or predicates k q → IsPlacedAtom t number k place q
placed_atom t starts number k place q predicates are one found listed read =
    let is = atom_list t starts number k place are one found in
    record {
      is = is;
      declared = slice_get_read t.predicates (length t.predicates) k q refl (predicate_there t number k place is) (read ∙ ap (λ qs. get_or qs k q) listed);
    }

pub predicate_places : (t : PlainTyped) (k : ℕ) (q : PlainTypedPredicate) → IsSound t → slice_get t.predicates k ≡ Some q → ArePlaces q.places
predicate_places t k q sound declared =
    subst (λ q. ArePlaces q.places) (get_or_from_slice_get t.predicates k q q declared) (sound.predicates k q (slice_get_within t.predicates k q declared))

-- ---- actions

module _ (t : PlainTyped) (k : ℕ) (s : PlainTypedSchema) (declared : slice_get t.schemas k ≡ Some s) (number place : ℕ) (is : IsPlaceIn (map length (name_blocks t)) number k place) where
  -- the place is that of a tuple
  pub name_tuple : place < length (tuples s.places)
  name_tuple =
      let name : List ℕ → PlainGroundName = λ objects. record { schema = k; objects = objects } in
      omega (arith, place_within (name_blocks t) number k place (names_of_schema k s) is (name_block_at t k s declared), length-map (tuples s.places) name)

  pub action_there : (objects : List ℕ) → slice_get (tuples s.places) place ≡ Some objects → IsActionAt t number s objects
  action_there objects at =
      let name : List ℕ → PlainGroundName = λ objects. record { schema = k; objects = objects } in
      record {
        name = name objects;
        there = subst (λ names. slice_get names number ≡ Some (name objects)) (sym (instances_are t))
            (item_at (name_blocks t) number k place (names_of_schema k s) (name objects) is (name_block_at t k s declared) (map_at name (tuples s.places) place objects at));
        declared = declared;
        are = refl;
      }

pub schema_there : (t : PlainTyped) (number k place : ℕ) → IsPlaceIn (map length (name_blocks t)) number k place → k < length t.schemas
schema_there t number k place is =
    omega (arith, list_within (name_blocks t) number k place is, length-map (numbered 0 t.schemas) (λ (x : ℕ × PlainTypedSchema). names_of_schema x.0 x.1), length-numbered 0 t.schemas)

-- where an action with a number stands
pub record IsPlacedAction (t : PlainTyped) (number k place : ℕ) (s : PlainTypedSchema) : Type 0 where
  pub is : IsPlaceIn (map length (name_blocks t)) number k place
  pub declared : slice_get t.schemas k ≡ Some s

pub action_list : (t : PlainTyped) (starts : List ℕ) (number k place : ℕ) → starts ≡ action_starts t → number < length (instances t)
    → ((lengths : List ℕ) → starts ≡ starts_of 0 lengths → number < sum lengths → IsPlaceIn lengths number k place) → IsPlaceIn (map length (name_blocks t)) number k place
action_list t starts number k place are one found = found (map length (name_blocks t)) are (omega (arith, one, instances_sum t))

pub placed_action : (t : PlainTyped) (starts : List ℕ) (number k place : ℕ) (s : PlainTypedSchema) (schemas : List PlainTypedSchema) → starts ≡ action_starts t → number < length (instances t)
    → ((lengths : List ℕ) → starts ≡ starts_of 0 lengths → number < sum lengths → IsPlaceIn lengths number k place)
    → schemas ≡ t.schemas → s ≡ get_or schemas k s → IsPlacedAction t number k place s
placed_action t starts number k place s schemas are one found listed read =
    let is = action_list t starts number k place are one found in
    record {
      is = is;
      declared = slice_get_read t.schemas (length t.schemas) k s refl (schema_there t number k place is) (read ∙ ap (λ ss. get_or ss k s) listed);
    }

pub schema_places : (t : PlainTyped) (k : ℕ) (s : PlainTypedSchema) → IsSound t → slice_get t.schemas k ≡ Some s → ArePlaces s.places
schema_places t k s sound declared =
    subst (λ s. ArePlaces s.places) (get_or_from_slice_get t.schemas k s s declared) (sound.schemas k s (slice_get_within t.schemas k s declared))

pub action_starts_many : (t : PlainTyped) → length (action_starts t) ≡ length t.schemas
action_starts_many t =
    length-starts_of 0 (map length (name_blocks t)) ∙ length-map (name_blocks t) (length {A = PlainGroundName})
    ∙ length-map (numbered 0 t.schemas) (λ (x : ℕ × PlainTypedSchema). names_of_schema x.0 x.1) ∙ length-numbered 0 t.schemas

-- the number of an instance: its schema's first, and the number of its objects among the tuples
instance_at : (t : PlainTyped) (n : PlainGroundName) (s : PlainTypedSchema) (start number : ℕ) → slice_get t.schemas n.schema ≡ Some s
    → slice_get (tuples s.places) number ≡ Some n.objects → start ≡ get_or (action_starts t) n.schema start → slice_get (instances t) (start + number) ≡ Some n
instance_at t n s start number declared at is =
    let block = name_block_at t n.schema s declared in
    let within : n.schema < length (map length (name_blocks t)) =
    omega (arith, slice_get_within (name_blocks t) n.schema (names_of_schema n.schema s) block, length-map (name_blocks t) (length {A = PlainGroundName})) in
    let first : start ≡ sum (take n.schema (map length (name_blocks t))) =
    is ∙ start_at 0 (map length (name_blocks t)) n.schema start within ∙ omega arith in
    subst (λ names. slice_get names (start + number) ≡ Some n) (sym (instances_are t))
    (subst (λ m. slice_get (flat_map (λ (b : List PlainGroundName). b) (name_blocks t)) (m + number) ≡ Some n) (sym first)
    (block_item (name_blocks t) n.schema number (names_of_schema n.schema s) n block
    (map_at (λ (objects : List ℕ). record { schema = n.schema; objects = objects }) (tuples s.places) number n.objects at)))

-- the schema is the name's
pub record IsNamed (t : PlainTyped) (n : PlainGroundName) (s : PlainTypedSchema) : Type 0 where
  pub declared : slice_get t.schemas n.schema ≡ Some s
  pub fit : FitPlaces s.places n.objects

pub named : (t : PlainTyped) (n : PlainGroundName) (schemas : List PlainTypedSchema) (k : ℕ) (s : PlainTypedSchema) → IsTypedName t n
    → schemas ≡ t.schemas → k ≡ n.schema → s ≡ get_or schemas k s → IsNamed t n s
named t n schemas k s typed listed one read =
    let same : typed.schema ≡ s =
    sym (read ∙ ap₂ (λ schemas k. get_or schemas k s) listed one ∙ get_or_from_slice_get t.schemas n.schema typed.schema s typed.there) in
    record { declared = typed.there ∙ ap Some same; fit = subst (λ s. FitPlaces s.places n.objects) same typed.fit }

pub fits : (t : PlainTyped) (n : PlainGroundName) (s : PlainTypedSchema) (places : List (List ℕ)) (objects : List ℕ) → IsNamed t n s
    → places ≡ s.places → objects ≡ n.objects → FitPlaces places objects
fits t n s places objects is listed same =
    subst (λ places. FitPlaces places objects) (sym listed) (subst (FitPlaces s.places) (sym same) is.fit)

-- the instance has its schema's first number and that of its objects
pub number_there : (t : PlainTyped) (n : PlainGroundName) (s : PlainTypedSchema) (places : List (List ℕ)) (objects starts : List ℕ) (k start number : ℕ) → IsNamed t n s
    → places ≡ s.places → objects ≡ n.objects → starts ≡ action_starts t → k ≡ n.schema → start ≡ get_or starts k start
    → slice_get (tuples places) number ≡ Some objects → slice_get (instances t) (start + number) ≡ Some n
number_there t n s places objects starts k start number is listed same are one read at =
    instance_at t n s start number is.declared (ap (λ places. slice_get (tuples places) number) (sym listed) ∙ at ∙ ap Some same)
    (read ∙ ap₂ (λ starts k. get_or starts k start) are one)
