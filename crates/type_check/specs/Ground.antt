-- What is ground over a typed domain and problem: atoms and actions whose objects fit, and their texts.
use Rattle.std.specs.Prelude.{◌≡◌, ℕ, List, [], ◌∷◌, ◌++◌, codes, Contains, Some, slice_get, unwrap_or}
use Rattle.std.specs.List.{flat_map}
use Rattle.type_check.specs.Values.{PlainTyped, PlainTypedPredicate, PlainTypedSchema, PlainGroundAtom, PlainGroundName}
use Rattle.type_check.specs.Numbered.{predicate_texts, schema_texts, object_texts}

-- one by one, the objects fit the places
abbrev pub FitPlaces : List (List ℕ) → List ℕ → Type 0
FitPlaces [] [] = Unit {0}
FitPlaces (place ∷ places) (k ∷ objects) = Contains place k × FitPlaces places objects
FitPlaces places objects = ⊥

-- the atom is one of a predicate's, with an object that fits for each of its places
pub record IsTypedAtom (t : PlainTyped) (a : PlainGroundAtom) : Type 0 where
  pub predicate : PlainTypedPredicate
  pub there : slice_get t.predicates a.predicate ≡ Some predicate
  pub fit : FitPlaces predicate.places a.objects

-- the name is one of an action of the domain, with an object that fits for each of its parameters
pub record IsTypedName (t : PlainTyped) (n : PlainGroundName) : Type 0 where
  pub schema : PlainTypedSchema
  pub there : slice_get t.schemas n.schema ≡ Some schema
  pub fit : FitPlaces schema.places n.objects

-- the text with this number
abbrev pub text_at : List (List ℕ) → ℕ → List ℕ
text_at texts k = unwrap_or (slice_get texts k) []

-- a name and the names of objects, in brackets, with single spaces
unfoldable pub bracketed : PlainTyped → List ℕ → List ℕ → List ℕ
bracketed t name objects =
    codes "(" ++ name ++ flat_map (λ k. codes " " ++ text_at (object_texts t) k) objects ++ codes ")"

abbrev pub atom_text : PlainTyped → PlainGroundAtom → List ℕ
atom_text t a = bracketed t (text_at (predicate_texts t) a.predicate) a.objects

abbrev pub action_text : PlainTyped → PlainGroundName → List ℕ
action_text t n = bracketed t (text_at (schema_texts t) n.schema) n.objects
