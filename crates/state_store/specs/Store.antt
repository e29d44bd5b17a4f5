-- Lists of states in which each state has its place as its number, from 0.
use Rattle.std.specs.Prelude.{◌≡◌, ◌≢◌, ◌≤◌, ◌⊎◌, ℕ, List, [], ◌∷◌, ◌++◌, length, All, AllPairs, Contains}
use Rattle.grd_base.specs.declared.bits.Bits.{Bits}
use Rattle.grd_base.specs.Bits.{members, IsWhole}

-- no two of the states have the same members
abbrev pub AreDistinct : {W : ℕ} → List (Bits W) → Type 0
AreDistinct states = AllPairs (λ s t. members s ≢ members t) states

-- a state of the list leaves the list as it is; any other goes to its end, and the number that it
-- gets there is the length that the list had
abbrev pub IsNumbered : {S : Type 0} → List S → List S → S → ℕ → Type 0
IsNumbered old new s n =
    (Contains old s × (new ≡ old))
    ⊎ ((Contains old s → ⊥) × (new ≡ old ++ s ∷ []) × (n ≡ length old))

-- what every store keeps: its states are distinct and as a program holds them, and they have at most
-- 64 words
pub record IsStore {W : ℕ} (states : List (Bits W)) : Type 0 where
  pub whole : All IsWhole states
  pub distinct : AreDistinct states
  pub narrow : W ≤ 64
