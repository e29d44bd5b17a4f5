-- The names of what is typed, by which numbers are found.
use Rattle.std.specs.Prelude.{◌≢◌, ℕ, ◌≤◌, ◌^◌, List, length, map, AllPairs}
use Rattle.type_check.specs.Values.{PlainTyped}

-- the names of the predicates
abbrev pub predicate_texts : PlainTyped → List (List ℕ)
predicate_texts t = map (λ q. q.name.text) t.predicates

-- the names of the schemas
abbrev pub schema_texts : PlainTyped → List (List ℕ)
schema_texts t = map (λ s. s.name.text) t.schemas

-- the names of the objects
abbrev pub object_texts : PlainTyped → List (List ℕ)
object_texts t = map (λ o. o.name.text) t.objects

-- different names, few enough to be numbered
pub record AreNumbered (names : List (List ℕ)) : Type 0 where
  pub differ : AllPairs (λ a b. a ≢ b) names
  pub few : length names ≤ 2 ^ 32
