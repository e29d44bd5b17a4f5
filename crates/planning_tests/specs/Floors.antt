-- Floors of the tests: they lie between a level of 0 and the least number of steps to a done state.
use Rattle.std.proofs.Common.{◌≡◌, ℕ, zero, suc, ◌≤◌, List, [], ◌∷◌, length, refl, sym, subst, ap, ◌∙◌, Some, Option, Bool, true, false, true≢false, arith}
use Rattle.std.specs.Prelude.{Contains}
use Rattle.std.proofs.lemmas.List.{length-map}
use Rattle.grd_base.specs.declared.ids.ActionId.{ActionId}
use Rattle.grd_base.specs.declared.limits.Bound.{Bound}
use Rattle.grd_base.specs.declared.limits.Bound.TheVariants.{Steps, Never}
use Rattle.search_core.specs.Spaces.{Successors, IsWalk, end_of, IsAdmissible, IsAtMostSteps, IsAtLeastLevel}

-- no step from a done state, at least one from any other, and none suffices where there are no
-- successors
abbrev pub one_step : Bool → ℕ → Bound
one_step true successors = Steps 0
one_step false zero = Never
one_step false (suc n) = Steps 1

module _ {S : Type 0} (next : Successors S) (is_done : S → Bool) where
  above_zero : (level : Option ℕ) (bound : Bound) → level ≡ Some 0 → IsAtLeastLevel bound level
  above_zero level bound flat = let P : Option ℕ → Type 0 = λ l. IsAtLeastLevel bound l in subst P (sym flat) (at_zero bound)
    where
      at_zero : (b : Bound) → IsAtLeastLevel b (Some 0)
      at_zero (Steps n) = omega arith
      at_zero Never = tt

  pub zero_admissible : (level : Option ℕ) (s : S) (bound : Bound) → level ≡ Some 0 → bound ≡ Steps 0 → IsAdmissible next is_done level s bound
  zero_admissible level s bound flat is = record {
    above_level = above_zero level bound flat;
    below_steps = let P : Bound → Type 0 = λ b. IsAtMostSteps next is_done s b in subst P (sym is) (λ n d. omega arith);
  }

  -- a walk from a state that is not done to a done one has a first step
  first_step : (s : S) (walk : List (ActionId × S)) → is_done s ≡ false → IsWalk next s walk → is_done (end_of s walk) ≡ true → 1 ≤ length walk × 1 ≤ length (next s)
  first_step s [] undone steps done = absurd (true≢false (sym done ∙ undone))
  first_step s (step ∷ rest) undone steps done = (omega arith, (let h : Contains (next s) step = steps.0 in omega (arith, h.1)))

  at_most : (s : S) (b : Bool) (k : ℕ) → is_done s ≡ b → length (next s) ≡ k → IsAtMostSteps next is_done s (one_step b k)
  at_most s true k done long = λ n d. omega arith
  at_most s false zero undone long = λ n d.
      let h = first_step s d.leads.walk undone d.leads.steps (ap is_done d.leads.ends ∙ d.done) in absurd (omega (arith, h.1, long))
  at_most s false (suc k) undone long = λ n d.
      let h = first_step s d.leads.walk undone d.leads.steps (ap is_done d.leads.ends ∙ d.done) in
      let steps : length d.leads.walk ≡ length d.path = sym (length-map d.leads.walk (λ (t : ActionId × S). t.0)) ∙ ap length d.leads.carries in
      omega (arith, h.0, steps, d.short)

  pub step_admissible : (level : Option ℕ) (s : S) (bound : Bound) → level ≡ Some 0 → bound ≡ one_step (is_done s) (length (next s)) → IsAdmissible next is_done level s bound
  step_admissible level s bound flat is = record {
    above_level = above_zero level bound flat;
    below_steps = let P : Bound → Type 0 = λ b. IsAtMostSteps next is_done s b in subst P (sym is) (at_most s (is_done s) (length (next s)) refl refl);
  }
