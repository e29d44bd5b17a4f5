-- A space of the tests in which a floor of 3 at one state hides the shorter of two ways.
use Rattle.std.proofs.Common.{◌≡◌, ℕ, ◌+◌, ◌≤◌, ◌==◌, List, [], ◌∷◌, length, refl, sym, subst, ap, ◌∙◌, Some, None, Option, Bool, true, false, cond, if◌then◌else◌, arith}
use Rattle.std.specs.Prelude.{All}
use Rattle.std.specs.List.{filter_map, cons_option}
use Rattle.std.proofs.lemmas.List.{length-map}
use Rattle.std.proofs.lemmas.List.Elements.{All-cons, All-nil, All-contains, All-tail}
use Rattle.std.proofs.lemmas.Bool.{eqb-true}
use Rattle.grd_base.specs.declared.ids.ActionId.{ActionId}
use Rattle.grd_base.specs.declared.limits.Bound.{Bound}
use Rattle.grd_base.specs.declared.limits.Bound.TheVariants.{Steps}
use Rattle.search_core.specs.Spaces.{IsWalk, end_of, IsAdmissible}

-- from, to
abbrev pub detour : List (ℕ × ℕ)
detour = (0, 1) ∷ (1, 2) ∷ (2, 3) ∷ (3, 4) ∷ (0, 5) ∷ (5, 6) ∷ (6, 2) ∷ []

abbrev pub step_if : ℕ → ℕ × ℕ → Option (ActionId × ℕ)
step_if s step = if step.0 == s then Some (record { 0 = step.1 }, step.1) else None

abbrev pub steps_from : List (ℕ × ℕ) → ℕ → List (ActionId × ℕ)
steps_from steps s = filter_map (step_if s) steps

abbrev pub is_end : ℕ → Bool
is_end s = s == 4

abbrev pub number_at : ℕ → ℕ
number_at s = if s == 1 then 3 else 0

-- at most the steps that are left
abbrev rank : ℕ → ℕ
rank s = if s == 1 then 3 else (if s == 2 then 2 else (if s == 3 then 1 else 0))

-- a step lowers the rank by at most one
abbrev Falls : ℕ × ℕ → Type 0
Falls step = rank step.0 ≤ rank step.1 + 1

falls : All Falls detour
falls =
    All-cons Falls (0, 1) ((1, 2) ∷ (2, 3) ∷ (3, 4) ∷ (0, 5) ∷ (5, 6) ∷ (6, 2) ∷ []) (omega arith)
    (All-cons Falls (1, 2) ((2, 3) ∷ (3, 4) ∷ (0, 5) ∷ (5, 6) ∷ (6, 2) ∷ []) (omega arith)
    (All-cons Falls (2, 3) ((3, 4) ∷ (0, 5) ∷ (5, 6) ∷ (6, 2) ∷ []) (omega arith)
    (All-cons Falls (3, 4) ((0, 5) ∷ (5, 6) ∷ (6, 2) ∷ []) (omega arith)
    (All-cons Falls (0, 5) ((5, 6) ∷ (6, 2) ∷ []) (omega arith)
    (All-cons Falls (5, 6) ((6, 2) ∷ []) (omega arith)
    (All-cons Falls (6, 2) ([]) (omega arith)
    (All-nil Falls)))))))

falls_from : (s : ℕ) (steps : List (ℕ × ℕ)) → All Falls steps → All (λ (step : ActionId × ℕ). rank s ≤ rank step.1 + 1) (steps_from steps s)
falls_from s [] all = All-nil (λ (step : ActionId × ℕ). rank s ≤ rank step.1 + 1)
falls_from s (x ∷ xs) all = by (x.0 == s) refl (falls_from s xs (All-tail Falls x xs all))
  where
    by : (b : Bool) → (x.0 == s) ≡ b → All (λ (step : ActionId × ℕ). rank s ≤ rank step.1 + 1) (steps_from xs s) → All (λ (step : ActionId × ℕ). rank s ≤ rank step.1 + 1) (cons_option (cond b (Some (record { 0 = x.1 }, x.1)) None) (steps_from xs s))
    by false is rest = rest
    by true is rest =
        let same : x.0 ≡ s = eqb-true x.0 s is in
        let P : ℕ → Type 0 = λ n. rank n ≤ rank x.1 + 1 in
        All-cons (λ (step : ActionId × ℕ). rank s ≤ rank step.1 + 1) (record { 0 = x.1 }, x.1) (steps_from xs s) (subst P same (all 0 x (omega arith))) rest

rank_low : (s : ℕ) (walk : List (ActionId × ℕ)) → IsWalk (steps_from detour) s walk → is_end (end_of s walk) ≡ true → rank s ≤ length walk
rank_low s [] steps done =
    let same : s ≡ 4 = eqb-true s 4 done in
    let P : ℕ → Type 0 = λ n. rank n ≤ 0 in
    subst P (sym same) (omega arith)
rank_low s (step ∷ rest) steps done =
    let low : rank s ≤ rank step.1 + 1 = All-contains (λ (t : ActionId × ℕ). rank s ≤ rank t.1 + 1) (steps_from detour s) step (falls_from s detour falls) steps.0 in
    let more : rank step.1 ≤ length rest = rank_low step.1 rest steps.1 done in
    omega (arith, low, more)

number_low : (s : ℕ) → number_at s ≤ rank s
number_low s = by (s == 1)
  where
    by : (b : Bool) → cond b 3 0 ≤ cond b 3 (if s == 2 then 2 else (if s == 3 then 1 else 0))
    by true = omega arith
    by false = omega arith

pub detour_admissible : (s : ℕ) (bound : Bound) → bound ≡ Steps (number_at s) → IsAdmissible (steps_from detour) is_end (Some 0) s bound
detour_admissible s bound is = let P : Bound → Type 0 = λ b. IsAdmissible (steps_from detour) is_end (Some 0) s b in subst P (sym is) (record {
  above_level = omega arith;
  below_steps = λ n d.
      let long : length d.leads.walk ≡ length d.path = sym (length-map d.leads.walk (λ (t : ActionId × ℕ). t.0)) ∙ ap length d.leads.carries in
      let low : rank s ≤ length d.leads.walk = rank_low s d.leads.walk d.leads.steps (ap is_end d.leads.ends ∙ d.done) in
      omega (arith, low, long, d.short, number_low s);
})
