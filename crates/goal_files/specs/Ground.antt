-- Ground atoms and ground actions by the names of their predicate or schema and of their objects.
use Rattle.std.specs.Prelude.{◌≡◌, ℕ, not, List, [], ◌∷◌, filter, Contains, Some, slice_get}
use Rattle.type_check.specs.Values.{PlainTyped, PlainTypedObject, PlainTypedPredicate, PlainTypedSchema, PlainGroundAtom, PlainGroundName, is_same_atom}

-- the object with this number has the name
pub record IsNamed (t : PlainTyped) (name : List ℕ) (number : ℕ) : Type 0 where
  pub object : PlainTypedObject
  pub there : slice_get t.objects number ≡ Some object
  pub named : object.name.text ≡ name

-- one by one, the objects have these names and fit these places
abbrev pub AreArguments : PlainTyped → List (List ℕ) → List (List ℕ) → List ℕ → Type 0
AreArguments t [] [] [] = Unit {0}
AreArguments t (name ∷ names) (place ∷ places) (number ∷ numbers) =
    IsNamed t name number × Contains place number × AreArguments t names places numbers
AreArguments t names places numbers = ⊥

-- the names are those of the atom: its predicate's, and of objects that fit the predicate's places
pub record IsAtomOf (t : PlainTyped) (names : List (List ℕ)) (a : PlainGroundAtom) : Type 0 where
  pub predicate : PlainTypedPredicate
  pub arguments : List (List ℕ)
  pub whole : names ≡ predicate.name.text ∷ arguments
  pub there : slice_get t.predicates a.predicate ≡ Some predicate
  pub fit : AreArguments t arguments predicate.places a.objects

-- the names are those of the ground action: its schema's, and of objects that fit the parameters
pub record IsActionOf (t : PlainTyped) (names : List (List ℕ)) (n : PlainGroundName) : Type 0 where
  pub schema : PlainTypedSchema
  pub arguments : List (List ℕ)
  pub whole : names ≡ schema.name.text ∷ arguments
  pub there : slice_get t.schemas n.schema ≡ Some schema
  pub fit : AreArguments t arguments schema.places n.objects

-- each atom once, at its first place
abbrev pub without_repeats : List PlainGroundAtom → List PlainGroundAtom
without_repeats [] = []
without_repeats (a ∷ atoms) = a ∷ filter (λ b. not (is_same_atom a b)) (without_repeats atoms)
