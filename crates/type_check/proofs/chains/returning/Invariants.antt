use Rattle.std.proofs.Common.{◌≡◌, ℕ, length, get_or, false}
use Rattle.std.specs.Prelude.{IsTrue, ◌↔◌}
use Rattle.type_check.proofs.ChainLaws.{IsReached}
use Rattle.type_check.proofs.chains.returning.Given as goal

abbrev pub invariant-loop-step : goal.invariant-loop-step
invariant-loop-step l =
    (length l.returning.items ≡ length l.parents) × ((k : ℕ) → IsTrue (get_or l.returning.items k false) ↔ IsReached l.step-items l.step-index k)
