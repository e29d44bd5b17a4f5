-- When no two of some things are the same, and when more than some number of them have a property.
use Rattle.std.specs.Prelude.{◌≢◌, ℕ, ◌<◌, List, length, All, AllPairs}

-- no two are the same
abbrev pub AllDistinct : {S : Type 0} → List S → Type 0
AllDistinct xs = AllPairs (λ x y. x ≢ y) xs

-- more than this many, no two of them the same, have the property
pub record MoreThan {S : Type 0} (limit : ℕ) (P : S → Type 0) : Type 0 where
  pub items : List S
  pub many : limit < length items
  pub differ : AllDistinct items
  pub have : All P items
