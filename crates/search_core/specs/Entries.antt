-- States that were found, each with what is known of it, by their places. Only private contracts speak of it.
use Rattle.std.specs.Prelude.{◌≡◌, ℕ, List, Some, slice_get}

-- some entry has this state
pub record IsHeld {S X : Type 0} (entries : List (S × X)) (s : S) : Type 0 where
  pub place : ℕ
  pub entry : S × X
  pub at : slice_get entries place ≡ Some entry
  pub state_is : entry.0 ≡ s

-- the entry at this place has this state
pub record IsHeldAt {S X : Type 0} (entries : List (S × X)) (s : S) (place : ℕ) : Type 0 where
  pub entry : S × X
  pub at : slice_get entries place ≡ Some entry
  pub state_is : entry.0 ≡ s

-- no entry has this state
abbrev pub IsFresh : {S X : Type 0} → List (S × X) → S → Type 0
IsFresh entries s = IsHeld entries s → ⊥
