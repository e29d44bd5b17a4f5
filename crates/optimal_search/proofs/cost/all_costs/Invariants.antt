use Rattle.std.proofs.Common.{◌≡◌, ◌<◌, ℕ, length, Some}
use Rattle.std.specs.Prelude.{slice_get, All}
use Rattle.cost_certificate.specs.Found.{PlainCost}
use Rattle.optimal_search.specs.Costs.{IsRightCost}
use Rattle.optimal_search.proofs.cost.all_costs.Given as goal

abbrev pub invariant-loop-i : goal.invariant-loop-i
invariant-loop-i g l = record {
  each_goal : length l.found.items ≡ l.i;
  right : (k : ℕ) (x : PlainCost) → slice_get l.found.items k ≡ Some x → IsRightCost l.task (record { 0 = k }) l.states x;
  in_range : All (λ x. All (λ a. a.0 < length l.task.actions) x.plan) l.found.items;
}
