-- Ground atoms and ground actions by their names: each list of names has one at most.
use Rattle.std.proofs.Common.{◌≡◌, ℕ, ◌+◌, ◌<◌, ◌≤◌, ◌^◌, List, [], ◌∷◌, ◌++◌, length, map, take, zero, suc, get_or, refl, sym, ap, ◌∙◌, subst, arith, Option, Some, None, slice_get}
use mathlib.Core.Path.{ap₂}
use Rattle.std.specs.List.{All, Contains}
use Rattle.std.specs.Option.{option_map}
use Rattle.std.proofs.lemmas.List.{take_more}
use Rattle.std.proofs.lemmas.Option.{slice_get-map, get_or_from_slice_get}
use Rattle.grd_base.specs.Rising.{IsRisingBy}
use Rattle.type_check.specs.Values.{PlainTypedObject, PlainTypedPredicate, PlainTypedSchema, PlainGroundAtom, PlainGroundName, PlainTyped}
use Rattle.type_check.specs.Typing.{IsTypedTask}
use Rattle.goal_files.specs.Ground.{IsNamed, AreArguments, IsAtomOf, IsActionOf}
use Rattle.type_check.specs.Numbered.{AreNumbered, predicate_texts, schema_texts, object_texts}
use Rattle.goal_files.specs.LineReading.{IsOnly, IsOnlyPredicate, IsOnlySchema, IsIndexed}
use Rattle.goal_files.proofs.NumberedNames.{one_place}
use Rattle.type_check.proofs.TypedTasks.{predicates_numbered, schemas_numbered, objects_numbered, predicate_places, schema_places}

-- ---- what stands at the place of a name

record StandsAt {X : Type 0} (name : X → List ℕ) (xs : List X) (n : ℕ) (text : List ℕ) : Type 0 where
  item : X
  there : slice_get xs n ≡ Some item
  named : name item ≡ text

stands_at : {X : Type 0} (name : X → List ℕ) (xs : List X) (n : ℕ) (text : List ℕ) → slice_get (map name xs) n ≡ Some text → StandsAt name xs n text
stands_at {X} name xs n text e = at (slice_get xs n) refl (sym (slice_get-map name xs n) ∙ e)
  where
    at : (found : Option X) → slice_get xs n ≡ found → option_map name found ≡ Some text → StandsAt name xs n text
    at None is e = cc
    at (Some x) is e = let same : name x ≡ text = cc in record { item = x; there = is; named = same }

text_at : {X : Type 0} (name : X → List ℕ) (xs : List X) (n : ℕ) (x : X) → slice_get xs n ≡ Some x → slice_get (map name xs) n ≡ Some (name x)
text_at name xs n x e = slice_get-map name xs n ∙ ap (option_map name) e

-- what is read at the number of a name is the only one of that name
only_at : {X : Type 0} (name : X → List ℕ) (places : X → List (List ℕ)) (xs : List X) (names : List (List ℕ)) → names ≡ map name xs → AreNumbered (map name xs)
    → (text : List ℕ) (n : ℕ) (items : List X) (x : X) → slice_get names n ≡ Some text → items ≡ xs → x ≡ get_or items n x → (slice_get xs n ≡ Some x → All (IsRisingBy (λ k. k)) (places x)) → IsOnly name places xs text n x
only_at name places xs names are numbered text n items x named same is rise =
    let here : slice_get (map name xs) n ≡ Some text = sym (ap (λ names. slice_get names n) are) ∙ named in
    let at = stands_at name xs n text here in
    let there : slice_get xs n ≡ Some x = at.there ∙ ap Some (sym (get_or_from_slice_get xs n at.item x at.there) ∙ sym (ap (λ l. get_or l n x) same) ∙ sym is) in
    let read : Some (name x) ≡ Some text = sym (text_at name xs n x there) ∙ here in
    record { there = there; named = cc; only = λ m e. one_place (map name xs) text m n numbered e here; rise = rise there }

named_at : (t : PlainTyped) (name : List ℕ) (n : ℕ) → IsNamed t name n → slice_get (object_texts t) n ≡ Some name
named_at t name n h = text_at (λ (o : PlainTypedObject). o.name.text) t.objects n h.object h.there ∙ ap Some h.named

-- ---- arguments

are_as_many : (t : PlainTyped) (names places : List (List ℕ)) (numbers : List ℕ) → AreArguments t names places numbers → length names ≡ length places
are_as_many t [] [] [] h = refl
are_as_many t [] [] (number ∷ numbers) h = absurd h
are_as_many t [] (place ∷ places) numbers h = absurd h
are_as_many t (name ∷ names) [] numbers h = absurd h
are_as_many t (name ∷ names) (place ∷ places) [] h = absurd h
are_as_many t (name ∷ names) (place ∷ places) (number ∷ numbers) h = omega (arith, are_as_many t names places numbers h.2)

pub too_few : (t : PlainTyped) (names places : List (List ℕ)) (numbers : List ℕ) → (length names ≡ length places → ⊥) → AreArguments t names places numbers → ⊥
too_few t names places numbers other h = other (are_as_many t names places numbers h)

arguments_push : (t : PlainTyped) (names places : List (List ℕ)) (numbers : List ℕ) (name place : List ℕ) (number : ℕ) → AreArguments t names places numbers
    → IsNamed t name number → Contains place number → AreArguments t (names ++ name ∷ []) (places ++ place ∷ []) (numbers ++ number ∷ [])
arguments_push t [] [] [] name place number h named fits = (named, fits, tt)
arguments_push t [] [] (first ∷ numbers) name place number h named fits = absurd h
arguments_push t [] (other ∷ places) numbers name place number h named fits = absurd h
arguments_push t (next ∷ names) [] numbers name place number h named fits = absurd h
arguments_push t (next ∷ names) (other ∷ places) [] name place number h named fits = absurd h
arguments_push t (next ∷ names) (other ∷ places) (first ∷ numbers) name place number h named fits = (h.0, h.1, arguments_push t names places numbers name place number h.2 named fits)

argument_at : (t : PlainTyped) (names places : List (List ℕ)) (numbers : List ℕ) (i : ℕ) (d e : List ℕ) → AreArguments t names places numbers → i < length names
    → (number : ℕ) × IsNamed t (get_or names i d) number × Contains (get_or places i e) number
argument_at t [] places numbers i d e h within = absurd (omega arith)
argument_at t (name ∷ names) [] numbers i d e h within = absurd h
argument_at t (name ∷ names) (place ∷ places) [] i d e h within = absurd h
argument_at t (name ∷ names) (place ∷ places) (number ∷ numbers) zero d e h within = (number, h.0, h.1)
argument_at t (name ∷ names) (place ∷ places) (number ∷ numbers) (suc i) d e h within = argument_at t names places numbers i d e h.2 (omega arith)

module _ (t : PlainTyped) (names places : List (List ℕ)) (i : ℕ) (name place : List ℕ)
    (named_here : (i < length names) × (name ≡ get_or names i name)) (place_here : (i < length places) × (place ≡ get_or places i place)) where
  pub arguments_more : (numbers : List ℕ) (number : ℕ) → AreArguments t (take i names) (take i places) numbers → IsNamed t name number × Contains place number
      → AreArguments t (take (i + 1) names) (take (i + 1) places) (numbers ++ number ∷ [])
  arguments_more numbers number h is =
      subst (λ ns. AreArguments t ns (take (i + 1) places) (numbers ++ number ∷ [])) (sym (take_more names i name named_here.0 ∙ ap (λ n. take i names ++ n ∷ []) (sym named_here.1)))
      (subst (λ ps. AreArguments t (take i names ++ name ∷ []) ps (numbers ++ number ∷ [])) (sym (take_more places i place place_here.0 ∙ ap (λ p. take i places ++ p ∷ []) (sym place_here.1)))
      (arguments_push t (take i names) (take i places) numbers name place number h is.0 is.1))

  pub no_arguments : (numbers : List ℕ) → ((number : ℕ) → IsNamed t name number → Contains place number → ⊥) → AreArguments t names places numbers → ⊥
  no_arguments numbers none h =
      let found = argument_at t names places numbers i name place h named_here.0 in
      none found.0 (subst (λ n. IsNamed t n found.0) (sym named_here.1) found.1) (subst (λ p. Contains p found.0) (sym place_here.1) found.2)

-- ---- what is ground, by the name of its head and those of its objects

-- the objects are the only ones of these names
same_numbers : (t : PlainTyped) (numbered : AreNumbered (object_texts t)) (names places : List (List ℕ)) (ns ms : List ℕ) → AreArguments t names places ns → AreArguments t names places ms → ns ≡ ms
same_numbers t numbered [] [] [] [] h k = refl
same_numbers t numbered [] [] [] (m ∷ ms) h k = absurd k
same_numbers t numbered [] [] (n ∷ ns) ms h k = absurd h
same_numbers t numbered [] (place ∷ places) ns ms h k = absurd h
same_numbers t numbered (name ∷ names) [] ns ms h k = absurd h
same_numbers t numbered (name ∷ names) (place ∷ places) [] ms h k = absurd h
same_numbers t numbered (name ∷ names) (place ∷ places) (n ∷ ns) [] h k = absurd k
same_numbers t numbered (name ∷ names) (place ∷ places) (n ∷ ns) (m ∷ ms) h k =
    ap₂ ◌∷◌ (one_place (object_texts t) name n m numbered (named_at t name n h.0) (named_at t name m k.0)) (same_numbers t numbered names places ns ms h.2 k.2)

module _ {X : Type 0} (name : X → List ℕ) (places : X → List (List ℕ)) (t : PlainTyped) (xs : List X) where
  record IsGround (names : List (List ℕ)) (n : ℕ) (objects : List ℕ) : Type 0 where
    head : X
    arguments : List (List ℕ)
    whole : names ≡ name head ∷ arguments
    there : slice_get xs n ≡ Some head
    fit : AreArguments t arguments (places head) objects

  named_head : (names : List (List ℕ)) (n : ℕ) (objects : List ℕ) (text : List ℕ) (arguments : List (List ℕ)) → names ≡ text ∷ arguments → IsGround names n objects → slice_get (map name xs) n ≡ Some text
  named_head names n objects text arguments whole h =
      let same : name h.head ≡ text = let e : name h.head ∷ h.arguments ≡ text ∷ arguments = sym h.whole ∙ whole in cc in
      text_at name xs n h.head h.there ∙ ap Some same

  -- those of one head are its arguments
  arguments_of : (names : List (List ℕ)) (n m : ℕ) (objects : List ℕ) (text : List ℕ) (arguments : List (List ℕ)) (head : X) → names ≡ text ∷ arguments
      → slice_get xs n ≡ Some head → ((m : ℕ) → slice_get (map name xs) m ≡ Some text → m ≡ n) → IsGround names m objects → (m ≡ n) × AreArguments t arguments (places head) objects
  arguments_of names n m objects text arguments head whole there only h =
      let same : m ≡ n = only m (named_head names m objects text arguments whole h) in
      let both : Some h.head ≡ Some head = sym h.there ∙ ap (slice_get xs) same ∙ there in
      let same_head : h.head ≡ head = cc in
      let rest : h.arguments ≡ arguments = let e : name h.head ∷ h.arguments ≡ text ∷ arguments = sym h.whole ∙ whole in cc in
      (same, subst (λ x. AreArguments t arguments (places x) objects) same_head (subst (λ names. AreArguments t names (places h.head) objects) rest h.fit))

  record SameGround (n m : ℕ) (ns ms : List ℕ) : Type 0 where
    number : n ≡ m
    objects : ns ≡ ms

  one_ground : (names : List (List ℕ)) (n m : ℕ) (ns ms : List ℕ) → AreNumbered (map name xs) → AreNumbered (object_texts t) → IsGround names n ns → IsGround names m ms → SameGround n m ns ms
  one_ground names n m ns ms numbered objects h k =
      let found = arguments_of names n m ms (name h.head) h.arguments h.head h.whole h.there
      (λ m e. one_place (map name xs) (name h.head) m n numbered e (text_at name xs n h.head h.there)) k in
      record { number = sym found.0; objects = same_numbers t objects h.arguments (places h.head) ns ms h.fit found.1 }

-- ---- with the names of a typed domain and problem

module _ (t : PlainTyped) (predicates schemas objects : List (List ℕ)) (h : IsIndexed t predicates schemas objects) where
  pub few_predicates : length predicates ≤ 2 ^ 32
  few_predicates = omega (arith, ap length h.predicates_are, (predicates_numbered t h.task).few)

  pub few_schemas : length schemas ≤ 2 ^ 32
  few_schemas = omega (arith, ap length h.schemas_are, (schemas_numbered t h.task).few)

  pub few_objects : length objects ≤ 2 ^ 32
  few_objects = omega (arith, ap length h.objects_are, (objects_numbered t h.task).few)

  named_in : (name : List ℕ) (n : ℕ) → IsNamed t name n → slice_get objects n ≡ Some name
  named_in name n named = ap (λ names. slice_get names n) h.objects_are ∙ named_at t name n named

  pub object_named : (name : List ℕ) (n : ℕ) → slice_get objects n ≡ Some name → IsNamed t name n
  object_named name n e =
      let at = stands_at (λ (o : PlainTypedObject). o.name.text) t.objects n name (sym (ap (λ names. slice_get names n) h.objects_are) ∙ e) in
      record { object = at.item; there = at.there; named = at.named }

  pub not_named : (name : List ℕ) (n : ℕ) → ((m : ℕ) → slice_get objects m ≡ Some name → ⊥) → IsNamed t name n → ⊥
  not_named name n none named = none n (named_in name n named)

  pub only_named : (name : List ℕ) (m n : ℕ) → slice_get objects m ≡ Some name → IsNamed t name n → n ≡ m
  only_named name m n e named =
      one_place (object_texts t) name n m (objects_numbered t h.task) (named_at t name n named) (sym (ap (λ names. slice_get names m) h.objects_are) ∙ e)

  pub only_predicate : (text : List ℕ) (n : ℕ) (items : List PlainTypedPredicate) (q : PlainTypedPredicate) → slice_get predicates n ≡ Some text → items ≡ t.predicates → q ≡ get_or items n q → IsOnlyPredicate t text n q
  only_predicate text n items q named same is =
      only_at (λ (q : PlainTypedPredicate). q.name.text) (λ q. q.places) t.predicates predicates h.predicates_are (predicates_numbered t h.task) text n items q named same is (predicate_places t h.task n q)

  pub only_schema : (text : List ℕ) (n : ℕ) (items : List PlainTypedSchema) (s : PlainTypedSchema) → slice_get schemas n ≡ Some text → items ≡ t.schemas → s ≡ get_or items n s → IsOnlySchema t text n s
  only_schema text n items s named same is =
      only_at (λ (s : PlainTypedSchema). s.name.text) (λ s. s.places) t.schemas schemas h.schemas_are (schemas_numbered t h.task) text n items s named same is (schema_places t h.task n s)

-- ---- atoms

module _ (t : PlainTyped) (names : List (List ℕ)) where
  as_ground : (a : PlainGroundAtom) → IsAtomOf t names a → IsGround (λ (q : PlainTypedPredicate). q.name.text) (λ q. q.places) t t.predicates names a.predicate a.objects
  as_ground a is = record { head = is.predicate; arguments = is.arguments; whole = is.whole; there = is.there; fit = is.fit }

  pub one_atom : (a b : PlainGroundAtom) → IsTypedTask t → IsAtomOf t names a → IsAtomOf t names b → a ≡ b
  one_atom a b task is other =
      let same = one_ground (λ (q : PlainTypedPredicate). q.name.text) (λ q. q.places) t t.predicates names a.predicate b.predicate a.objects b.objects (predicates_numbered t task) (objects_numbered t task)
      (as_ground a is) (as_ground b other) in
      let made : ℕ → List ℕ → PlainGroundAtom = λ n objects. record { predicate = n; objects = objects } in
      ap₂ made same.number same.objects

  module _ (text : List ℕ) (arguments : List (List ℕ)) (whole : names ≡ text ∷ arguments) where
    pub no_predicate : (a : PlainGroundAtom) → ((m : ℕ) → slice_get (predicate_texts t) m ≡ Some text → ⊥) → IsAtomOf t names a → ⊥
    no_predicate a none is =
        none a.predicate (named_head (λ (q : PlainTypedPredicate). q.name.text) (λ q. q.places) t t.predicates names a.predicate a.objects text arguments whole (as_ground a is))

    module _ (n : ℕ) (q : PlainTypedPredicate) (only : IsOnlyPredicate t text n q) where
      pub no_atom : (a : PlainGroundAtom) → ((objects : List ℕ) → AreArguments t arguments q.places objects → ⊥) → IsAtomOf t names a → ⊥
      no_atom a none is =
          none a.objects
          (arguments_of (λ (q : PlainTypedPredicate). q.name.text) (λ q. q.places) t t.predicates names n a.predicate a.objects text arguments q whole only.there only.only (as_ground a is)).1

-- ---- ground actions

module _ (t : PlainTyped) (names : List (List ℕ)) where
  as_ground_action : (a : PlainGroundName) → IsActionOf t names a → IsGround (λ (s : PlainTypedSchema). s.name.text) (λ s. s.places) t t.schemas names a.schema a.objects
  as_ground_action a is = record { head = is.schema; arguments = is.arguments; whole = is.whole; there = is.there; fit = is.fit }

  pub one_action : (a b : PlainGroundName) → IsTypedTask t → IsActionOf t names a → IsActionOf t names b → a ≡ b
  one_action a b task is other =
      let same = one_ground (λ (s : PlainTypedSchema). s.name.text) (λ s. s.places) t t.schemas names a.schema b.schema a.objects b.objects (schemas_numbered t task) (objects_numbered t task)
      (as_ground_action a is) (as_ground_action b other) in
      let made : ℕ → List ℕ → PlainGroundName = λ n objects. record { schema = n; objects = objects } in
      ap₂ made same.number same.objects

  module _ (text : List ℕ) (arguments : List (List ℕ)) (whole : names ≡ text ∷ arguments) where
    pub no_schema : (a : PlainGroundName) → ((m : ℕ) → slice_get (schema_texts t) m ≡ Some text → ⊥) → IsActionOf t names a → ⊥
    no_schema a none is =
        none a.schema (named_head (λ (s : PlainTypedSchema). s.name.text) (λ s. s.places) t t.schemas names a.schema a.objects text arguments whole (as_ground_action a is))

    module _ (n : ℕ) (s : PlainTypedSchema) (only : IsOnlySchema t text n s) where
      pub no_action : (a : PlainGroundName) → ((objects : List ℕ) → AreArguments t arguments s.places objects → ⊥) → IsActionOf t names a → ⊥
      no_action a none is =
          none a.objects
          (arguments_of (λ (s : PlainTypedSchema). s.name.text) (λ s. s.places) t t.schemas names n a.schema a.objects text arguments s whole only.there only.only (as_ground_action a is)).1
