-- Texts that tell an item of a list from all others, and texts that are written to the front of others.
use Rattle.std.specs.Prelude.{◌≡◌, ℕ, List, ◌++◌, length, drop, Some, slice_get}

-- the text is that of the item with this number, and of no other
pub record IsTextAt {X : Type 0} (text_of : X → List ℕ) (items : List X) (number : ℕ) (text : List ℕ) : Type 0 where
  pub item : X
  pub there : slice_get items number ≡ Some item
  pub is : text ≡ text_of item
  pub only : (k : ℕ) (other : X) → slice_get items k ≡ Some other → text_of other ≡ text → k ≡ number

-- the text is written, up to here, over the old bytes
pub record IsWritten (text old into : List ℕ) (at : ℕ) : Type 0 where
  pub place : at ≡ length text
  pub whole : into ≡ text ++ drop at old
