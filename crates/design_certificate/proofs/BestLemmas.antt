-- Best designs, as two trees show them.
use Rattle.std.proofs.Common.{◌≡◌, ℕ, zero, suc, ◌+◌, ◌<◌, ◌≤◌, List, [], length, refl, inl, inr, arith, Some, None}
use Rattle.std.proofs.lemmas.Bool.{cases_lt}
use Rattle.grd_base.specs.declared.ids.ActionId.{ActionId}
use Rattle.grd_base.specs.declared.ids.GoalId.{GoalId}
use Rattle.strips_model.specs.Values.{PlainTask}
use Rattle.strips_model.specs.Plans.{IsPlan}
use Rattle.strips_model.specs.Common.{IsWcd, HasPlan, KeepsCosts, IsBest}
use Rattle.design_certificate.specs.Designs.{HidesFor}
use Rattle.design_certificate.proofs.CostLemmas.{plan_with_all, none_keeps, hides_long, hides_some, wcd_hides, same_wcd}

-- all sets of at most m actions that keep the costs leave a common sequence of n actions
abbrev pub AllHide : PlainTask → ℕ → ℕ → Type 0
AllHide t m n = (other : List ActionId) → length other ≤ m → KeepsCosts t other → HidesFor t other n

-- a set with a number is best where no set of the budget has less, and no smaller set as little
pub best_of : (t : PlainTask) (budget : ℕ) (removed : List ActionId) (w : ℕ) → length removed ≤ budget → KeepsCosts t removed → IsWcd t removed (Some w)
    → (0 < w → AllHide t budget w) → ((n : ℕ) → length removed ≡ n + 1 → AllHide t n (w + 1)) → IsBest t budget removed
best_of t budget removed w few keeps wcd all_hide fewer_hide = record {
  few = few;
  keeps = keeps;
  least = λ other small kept w' v is is'.
      let same : w ≡ w' = same_wcd t removed w w' wcd is in
      let low : w ≤ v = no_less other small kept v is' in
      elim (cases_lt w v) [
        | inl less ↦ inl (omega (arith, same, less))
        | inr past ↦ inr (omega (arith, same, low, past), no_fewer other kept v is' past)
      ];
  none = λ none_at_all. absurd (none_at_all wcd.0.0 wcd.0.1 wcd.0.4.different (plans wcd.0.0 wcd.0.4.first.0 wcd.0.4.first.1.0) (plans wcd.0.1 wcd.0.4.second.0 wcd.0.4.second.1.0));
}
  where
    plans : (g : GoalId) (p : List ActionId) → IsPlan t g removed p → HasPlan t g []
    plans g p plan = (p, plan_with_all t g removed p plan)

    no_less : (other : List ActionId) → length other ≤ budget → KeepsCosts t other → (v : ℕ) → IsWcd t other (Some v) → w ≤ v
    no_less other small kept v is = elim (cases_lt 0 w) [
      | inl some ↦ hides_long t other w v (all_hide some other small kept) is
      | inr none ↦ omega arith
    ]

    no_fewer : (other : List ActionId) → KeepsCosts t other → (v : ℕ) → IsWcd t other (Some v) → v ≤ w → length removed ≤ length other
    no_fewer other kept v is past = by (length removed) refl
      where
        by : (k : ℕ) → length removed ≡ k → length removed ≤ length other
        by zero e = omega arith
        by (suc n) e = elim (cases_lt n (length other)) [
          | inl more ↦ omega arith
          | inr less ↦ absurd (let more : w + 1 ≤ v = hides_long t other (w + 1) v (fewer_hide n (omega arith) other less kept) is in omega arith)
        ]

-- where no two goals have plans, to remove nothing is best
pub nothing_best : (t : PlainTask) (budget : ℕ) → IsWcd t [] None → IsBest t budget []
nothing_best t budget none = record {
  few = omega arith;
  keeps = none_keeps t;
  least = λ other small kept w v is is'. absurd (hides_some t [] w (wcd_hides t [] w is) none);
  none = λ none_at_all. refl;
}
