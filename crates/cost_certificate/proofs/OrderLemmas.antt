-- The order of bounds.
use Rattle.std.proofs.Common.{arith}
use Rattle.grd_base.specs.declared.limits.Bound.{Bound}
use Rattle.grd_base.specs.declared.limits.Bound.TheVariants.{Steps, Never}
use Rattle.cost_certificate.specs.Tables.{IsAtMost}

-- a bound is at most itself
pub at_most_itself : (b : Bound) → IsAtMost b b
at_most_itself (Steps n) = omega arith
at_most_itself Never = tt

-- a bound is at most what is at least one that it is at most
pub at_most_along : (a b c : Bound) → IsAtMost a b → IsAtMost b c → IsAtMost a c
at_most_along (Steps n) (Steps m) (Steps r) h k = omega arith
at_most_along (Steps n) (Steps m) Never h k = tt
at_most_along (Steps n) Never (Steps r) h k = absurd k
at_most_along (Steps n) Never Never h k = tt
at_most_along Never (Steps m) c h k = absurd h
at_most_along Never Never c h k = k

-- of two bounds one is at most the other
pub at_most_other : (a b : Bound) → (IsAtMost a b → ⊥) → IsAtMost b a
at_most_other (Steps n) (Steps m) no_more = omega arith
at_most_other (Steps n) Never no_more = absurd (no_more tt)
at_most_other Never (Steps m) no_more = tt
at_most_other Never Never no_more = tt
