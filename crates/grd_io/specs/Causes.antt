-- Counts of faults: they never fall, and a failure has its cause in them.
use Rattle.std.specs.Prelude.{◌≡◌, ℕ, ◌+◌, ◌-◌, ◌^◌, ◌≤◌, min, List, Bool, Result, OnOk, OnErr, IsErrOf}

-- the count rose, or stands at its last value, 2^64 - 1
abbrev pub Rose : ℕ → ℕ → Type 0
Rose before now = min (before + 1) (2 ^ 64 - 1) ≤ now

-- a sink's count after a call: it never falls, Ok leaves it, and a refusal comes only where it rose
pub record HasCause {T E : Type 0} (before now : ℕ) (result : Result T E) : Type 0 where
  pub later : before ≤ now
  pub kept : OnOk result (now ≡ before)
  pub failed : OnErr result (Rose before now)

-- a shelf's counts after a call on a name for a use: none falls, all but that of this name and use
-- stay, Ok leaves all of them, and the answer `failure` comes only where that count rose
pub record HasShelfCause {T E : Type 0} (failure : E) (before now : List ℕ → Bool → ℕ) (name : List ℕ) (writing : Bool) (result : Result T E) : Type 0 where
  pub later : (x : List ℕ) (w : Bool) → before x w ≤ now x w
  pub others : (x : List ℕ) (w : Bool) → (x ≡ name → w ≡ writing → ⊥) → now x w ≡ before x w
  pub kept : OnOk result ((x : List ℕ) (w : Bool) → now x w ≡ before x w)
  pub failed : IsErrOf result failure → Rose (before name writing) (now name writing)
