use Rattle.std.proofs.Common.{◌≡◌, IfSome, IfNone, Contains}
use Rattle.succ_table.proofs.needs.rarest.Given as goal

abbrev pub invariant-loop-a : goal.invariant-loop-a
invariant-loop-a l = record { among : IfSome l.best (λ a. Contains l.atoms a); none : IfNone l.best (l.a-index ≡ 0) }
