use Rattle.std.proofs.Common.{◌≡◌, ℕ, length, Some}
use Rattle.std.specs.Prelude.{slice_get}
use Rattle.cost_certificate.specs.declared.found.Verdict.{Verdict}
use Rattle.cost_certificate.specs.Found.{PlainCost}
use Rattle.cost_certificate.specs.Verdicts.{plain_verdict, IsRightVerdict}
use Rattle.recognise.proofs.verdicts.all_verdicts.Given as goal

abbrev pub invariant-loop-i : goal.invariant-loop-i
invariant-loop-i g l = record {
  each_goal : length l.verdicts.items ≡ l.i;
  right : (k : ℕ) (x : PlainCost) (verdict : Verdict) → slice_get l.costs k ≡ Some x → slice_get l.verdicts.items k ≡ Some verdict
      → IsRightVerdict l.task l.observations (record { 0 = k }) x.cost (plain_verdict verdict);
}
