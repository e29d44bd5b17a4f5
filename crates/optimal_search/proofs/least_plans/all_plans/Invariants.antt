use Rattle.std.proofs.Common.{◌≡◌, ◌<◌, ℕ, List, [], length, map, Option, Some}
use Rattle.std.specs.Prelude.{slice_get, All, IfSome}
use Rattle.std.specs.Option.{option_map}
use Rattle.grd_base.specs.declared.ids.ActionId.{ActionId}
use Rattle.strips_model.specs.Common.{IsRight}
use Rattle.optimal_search.proofs.least_plans.all_plans.Given as goal

abbrev pub invariant-loop-i : goal.invariant-loop-i
invariant-loop-i g l = record {
  each_goal : length l.plans.items ≡ l.i;
  right : (k : ℕ) (x : Option (List ActionId)) → slice_get (map (option_map (λ p. p.items)) l.plans.items) k ≡ Some x → IsRight l.task (record { 0 = k }) [] x;
  in_range : All (λ x. IfSome x (λ p. All (λ a. a.0 < length l.task.actions) p.items)) l.plans.items;
}
